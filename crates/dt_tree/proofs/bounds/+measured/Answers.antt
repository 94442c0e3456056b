use Rattle.std.proofs.Common.{◌≡◌, ◌∙◌, ◌+◌, ap, sym, subst, Some, ◌<◌, ℕ, max, arith, drop, rules}
use Rattle.dt_map.specs.Bounds.{alignment}
use Rattle.dt_map.specs.Runs.{placed_at, even, run}
use Rattle.dt_offsets.specs.Span.{joined_marks}
use Rattle.dt_map.specs.Span.{span_of}
use Rattle.dt_map.specs.Typemap.{shift}
use Rattle.dt_offsets.proofs.Spans.{joined_marks_none}
use Rattle.dt_tree.specs.declared.measure.Measure.{Measure}
use Rattle.dt_map.proofs.Extremes.{alignment-pos}
use Rattle.dt_tree.specs.declared.node.Node.TheVariants.{Vector, Index, Group}
use Rattle.dt_tree.specs.Measure.{IsMeasure, IsShortMeasure}
use Rattle.dt_tree.specs.Node.{tree_of, trees_of}
use Rattle.dt_tree.specs.Rule.{depth_of, depth_of_parts, parts_fit, PartsShort}
use Rattle.dt_tree.specs.Tree.{flat, flat_parts, group, part}
use Rattle.dt_tree.proofs.Limits.{of_vector_fits, of_group_fits, part_fits, step_back}
use Rattle.dt_tree.proofs.NodeMeasures.{vector_measured, index_measured, group_measured, part_span, part_align}
use Rattle.dt_tree.proofs.Measures.{short_measure}
use Rattle.dt_tree.proofs.Nodes.{of_group, rest_more, rest_none}
use Rattle.dt_tree.proofs.bounds.+measured.Goals as goal

pub returns-in_ok-one-in-Vector : goal.returns-in_ok-one-in-Vector
returns-in_ok-one-in-Vector t c =
    let v = c.in-Vector in
    let one = c.in_ok-one-in-Vector.ensures in
    let fits = of_vector_fits c.args.node.now v.count v.block v.stride v.child c.requires v.is in
    let back = step_back v.stride fits.stride_fits in
    let es = flat (tree_of c.get.result.now) in
    vector_measured c.args.node.now v.count v.block v.stride c.get.result.now c.in_vector.result (v.is ∙ ap (Vector v.count v.block v.stride) (sym c.get.ensures)) one.0
    (subst (λ x. IsShortMeasure (placed_at (even v.count x) (run v.block es)) c.in_vector.result) back (c.in_vector.ensures es one.1))

pub returns-in_ok-one-in-Index : goal.returns-in_ok-one-in-Index
returns-in_ok-one-in-Index t c =
    let v = c.in-Index in
    let one = c.in_ok-one-in-Index.ensures in
    let es = flat (tree_of c.get-in-Index.result.now) in
    index_measured c.args.node.now v.block v.places c.get-in-Index.result.now c.in_index.result (v.is ∙ ap (Index v.block v.places) (sym c.get-in-Index.ensures)) one.0
    (subst (λ xs. IsShortMeasure (placed_at xs (run v.block es)) c.in_index.result) c.as_slice.ensures (c.in_index.ensures es one.1))

pub parts-init : goal.parts-init
parts-init t c =
    let list = c.as_slice-part-items.ensures in
    let same : tree_of c.args.node.now ≡ group (trees_of c.as_slice-part-items.result.now) =
    ap tree_of c.in-Group.is ∙ (of_group c.in-Group.parts ∙ ap (λ ps. group (trees_of ps)) (sym list)) in
    let fits = of_group_fits c.args.node.now c.in-Group.parts c.requires c.in-Group.is in
    record {
      span = ap (λ t. span_of (flat t)) (sym same);
      align = omega (arith, ap (λ t. alignment (flat t)) same, alignment-pos (flat_parts (trees_of c.as_slice-part-items.result.now)));
      fit = ap (λ ps. parts_fit (trees_of ps)) list ∙ fits.2;
      shallow = omega (arith, ap depth_of same);
      aligned = omega arith;
      some = λ h. absurd (omega arith);
      to_do = λ h. h;
      done = λ h. h;
    }

pub parts-preserved : goal.parts-preserved
parts-preserved t c =
    let list = c.as_slice-part-items.result.now in
    let p = c.part-item.result in
    let rest = trees_of (drop c.parts.part-index list) in
    let after = trees_of (drop (c.parts.part-index + 1) list) in
    let more : rest ≡ part p.block p.disp (tree_of p.node) after = rest_more list c.parts.part-index p c.parts-test.true c.part-item.is in
    let fits = part_fits p.block p.disp (tree_of p.node) after (sym (ap parts_fit more) ∙ c.parts.invariant.fit) in
    let one = c.in_ok-one-in-Group.ensures in
    let back = step_back p.disp fits.disp_fits in
    let es = run p.block (flat (tree_of p.node)) in
    let here =
    subst (λ x. IsMeasure (shift x es) c.in_part-here.result.span c.in_part-here.result.align) back (c.in_part-here.ensures (flat (tree_of p.node)) one.1) in
    record {
      span = part_span c.parts.span (Some c.joined.result) c.in_part-here.result.span rest p.block p.disp (tree_of p.node) after _ more here.0 c.joined.ensures c.parts.invariant.span;
      align =
          ap (λ a. max a (alignment (flat_parts after))) c.max-align.ensures
          ∙ part_align c.parts.align c.in_part-here.result.align rest p.block p.disp (tree_of p.node) after _ more here.1 c.parts.invariant.align;
      fit = fits.rest_fits;
      shallow = omega (arith, c.parts.invariant.shallow, ap depth_of_parts more);
      aligned = omega (arith, c.max-align.ensures, c.parts.invariant.aligned);
      some = λ h. search rules;
      to_do = λ all. (subst PartsShort more (c.parts.invariant.to_do all)).1;
      done = λ short. c.parts.invariant.done (subst PartsShort (sym more) (one.0, short));
    }

at_least_one : (n : ℕ) → 0 < n → max n 1 ≡ n
at_least_one n some = omega arith

pub returns-after-parts : goal.returns-after-parts
returns-after-parts t c =
    let list = c.as_slice-part-items.result.now in
    let none = rest_none list c.parts.part-index c.parts-test.false in
    let whole : Measure = record { span = c.unwrap.result; align = c.parts.align } in
    let span =
    sym c.parts.invariant.span
    ∙ (ap (λ ps. joined_marks c.parts.span (span_of (flat_parts ps))) none ∙ (joined_marks_none c.parts.span ∙ c.unwrap.ensures)) in
    let align = sym c.parts.invariant.align ∙ (ap (λ ps. max c.parts.align (alignment (flat_parts ps))) none ∙ at_least_one c.parts.align c.parts.invariant.aligned) in
    group_measured c.args.node.now list c.short.result (c.in-Group.is ∙ ap Group (sym c.as_slice-part-items.ensures))
    (c.parts.invariant.done (subst PartsShort (sym none) tt))
    (short_measure (flat (tree_of c.args.node.now)) whole c.short.result c.short.ensures (span, align))
