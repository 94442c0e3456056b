use lib.Signed.{mag}
use mir.Syntax.{w64, w128}
use mir.Val.{to_z, of_z}
use Rattle.std.proofs.Common.{◌≡◌, ℤ, ◌∙◌, ◌+◌, ◌-◌, ◌*◌, ◌<◌, ◌≤◌, ap, sym, subst, pos, nat_abs, ◌+ℤ◌, ◌*ℤ◌, length, drop, get_or, arith}
use Rattle.dt_map.specs.Runs.{run}
use Rattle.dt_map.proofs.Seats.{length-run}
use Rattle.dt_tree.specs.declared.node.Node.TheVariants.{Vector, Index}
use Rattle.dt_tree.specs.Node.{tree_of, trees_of}
use Rattle.dt_tree.specs.Number.{capped}
use Rattle.dt_tree.specs.Measure.{IsMeasured}
use Rattle.dt_tree.specs.Place.{place_of, IsPlaceAt}
use Rattle.dt_tree.specs.Rule.{depth_of, depth_of_parts, parts_fit, AreShort, PartsShort}
use Rattle.dt_tree.specs.Tree.{flat, flat_parts, group}
use Rattle.dt_tree.proofs.Amounts.{number_of_part}
use Rattle.dt_tree.proofs.Entries.{place_in_run, place_in_part, short_place, within_copies}
use Rattle.dt_tree.proofs.Limits.{of_vector_fits, of_index_fits, of_group_fits, part_fits, step_back, step_at}
use Rattle.dt_tree.proofs.Measures.{measure_ordered, measure_aligned}
use Rattle.dt_tree.proofs.Nodes.{of_vector, of_index, of_group, rest_more, rest_none}
use Rattle.dt_tree.proofs.Rules.{own_short}
use Rattle.dt_tree.proofs.Spans.{same128}
use Rattle.dt_tree.proofs.Walks.{vector_walk, index_walk, each_of, in_vector_place, in_index_place, past_part}
use Rattle.dt_tree.proofs.find.+walk.Goals as goal

moved_by : (d inner r x : ℤ) → d ≡ inner +ℤ to_z w128 (of_z w128 r) → mag r < 170141183460469231731687303715884105728 → r ≡ x → d ≡ inner +ℤ x
moved_by d inner r x h fits e = h ∙ ap (λ z. inner +ℤ z) (same128 r fits ∙ e)

pub find-split-turn-requires : goal.find-split-turn-requires
find-split-turn-requires t c =
    let v = c.in-Vector in
    let child = c.get-child.result.now in
    let walk = vector_walk c.args.node.now v.count v.block v.stride child c.args.k (v.is ∙ ap (Vector v.count v.block v.stride) (sym c.get-child.ensures)) c.requires.numbers c.requires.short c.requires.within in
    let each = c.times-each.ensures (length (flat (tree_of child))) c.number.ensures ∙ ap (λ b. capped (b * length (flat (tree_of child)))) c.from.ensures in
    record { some = omega (arith, each, walk.some) }

pub find-find_in_block-inner-requires : goal.find-find_in_block-inner-requires
find-find_in_block-inner-requires t c =
    let v = c.in-Vector in
    let child = c.get-child.result.now in
    let walk = vector_walk c.args.node.now v.count v.block v.stride child c.args.k (v.is ∙ ap (Vector v.count v.block v.stride) (sym c.get-child.ensures)) c.requires.numbers c.requires.short c.requires.within in
    let each = c.times-each.ensures (length (flat (tree_of child))) c.number.ensures ∙ ap (λ b. capped (b * length (flat (tree_of child)))) c.from.ensures in
    let left = c.split-turn.ensures.left (each_of v.block child) each in
    (omega (arith, walk.deep, c.decreases), (walk.fits, (walk.short, (walk.few, omega (arith, left, walk.left)))))

pub find-overflow_cast-turn : goal.find-overflow_cast-turn
find-overflow_cast-turn t c =
    let v = c.in-Vector in
    let child = c.get-child.result.now in
    let is = v.is ∙ ap (Vector v.count v.block v.stride) (sym c.get-child.ensures) in
    let walk = vector_walk c.args.node.now v.count v.block v.stride child c.args.k is c.requires.numbers c.requires.short c.requires.within in
    let fits = of_vector_fits c.args.node.now v.count v.block v.stride child c.requires.numbers is in
    let each = c.times-each.ensures (length (flat (tree_of child))) c.number.ensures ∙ ap (λ b. capped (b * length (flat (tree_of child)))) c.from.ensures in
    let turn = c.split-turn.ensures.times (each_of v.block child) each in
    omega (arith, turn, walk.turn, fits.count_fits.1)

pub find-steps-requires : goal.find-steps-requires
find-steps-requires t c =
    let v = c.in-Vector in
    let fits = of_vector_fits c.args.node.now v.count v.block v.stride v.child c.requires.numbers v.is in
    subst (λ x. nat_abs x ≤ 2305843009213693952) (sym (step_back v.stride fits.stride_fits)) fits.stride_fits

pub find-returns-in-Vector : goal.find-returns-in-Vector
find-returns-in-Vector t c =
    let v = c.in-Vector in
    let child = c.get-child.result.now in
    let is = v.is ∙ ap (Vector v.count v.block v.stride) (sym c.get-child.ensures) in
    let walk = vector_walk c.args.node.now v.count v.block v.stride child c.args.k is c.requires.numbers c.requires.short c.requires.within in
    let each = c.times-each.ensures (length (flat (tree_of child))) c.number.ensures ∙ ap (λ b. capped (b * length (flat (tree_of child)))) c.from.ensures in
    let es = flat (tree_of child) in
    let fits = of_vector_fits c.args.node.now v.count v.block v.stride child c.requires.numbers is in
    let back = step_back v.stride fits.stride_fits in
    let found =
    in_vector_place v.block c.args.k c.split-turn.result.0 c.split-turn.result.1 (each_of v.block child) es c.find_in_block-inner.result c.moved.result
    (sym (length-run v.block es)) (c.split-turn.ensures.left (each_of v.block child) each) (c.split-turn.ensures.times (each_of v.block child) each)
    c.find_in_block-inner.ensures.value c.moved.ensures.kind v.count v.stride walk.total (moved_by c.moved.result.disp c.find_in_block-inner.result.disp c.steps.result (pos c.split-turn.result.0 *ℤ v.stride) c.moved.ensures.disp c.steps.type_inv
    (c.steps.ensures.value ∙ ap (λ z. pos c.split-turn.result.0 *ℤ z) back)) in
    subst (λ tree. IsPlaceAt (flat tree) c.args.k c.moved.result) (sym (ap tree_of is ∙ of_vector v.count v.block v.stride child)) found

pub find-split-turn-requires-in-Index : goal.find-split-turn-requires-in-Index
find-split-turn-requires-in-Index t c =
    let v = c.in-Index in
    let child = c.get-child-in-Index.result.now in
    let walk = index_walk c.args.node.now v.block v.places child c.args.k (v.is ∙ ap (Index v.block v.places) (sym c.get-child-in-Index.ensures)) c.requires.numbers c.requires.short c.requires.within in
    let each = c.times-each-in-Index.ensures (length (flat (tree_of child))) c.number-in-Index.ensures ∙ ap (λ b. capped (b * length (flat (tree_of child)))) c.from-in-Index.ensures in
    record { some = omega (arith, each, walk.some) }

pub find-find_in_block-inner-requires-in-Index : goal.find-find_in_block-inner-requires-in-Index
find-find_in_block-inner-requires-in-Index t c =
    let v = c.in-Index in
    let child = c.get-child-in-Index.result.now in
    let walk = index_walk c.args.node.now v.block v.places child c.args.k (v.is ∙ ap (Index v.block v.places) (sym c.get-child-in-Index.ensures)) c.requires.numbers c.requires.short c.requires.within in
    let each = c.times-each-in-Index.ensures (length (flat (tree_of child))) c.number-in-Index.ensures ∙ ap (λ b. capped (b * length (flat (tree_of child)))) c.from-in-Index.ensures in
    let left = c.split-turn-in-Index.ensures.left (each_of v.block child) each in
    (omega (arith, walk.deep, c.decreases), (walk.fits, (walk.short, (walk.few, omega (arith, left, walk.left)))))

pub find-bounds-as_slice-turn : goal.find-bounds-as_slice-turn
find-bounds-as_slice-turn t c =
    let v = c.in-Index in
    let child = c.get-child-in-Index.result.now in
    let walk = index_walk c.args.node.now v.block v.places child c.args.k (v.is ∙ ap (Index v.block v.places) (sym c.get-child-in-Index.ensures)) c.requires.numbers c.requires.short c.requires.within in
    let each = c.times-each-in-Index.ensures (length (flat (tree_of child))) c.number-in-Index.ensures ∙ ap (λ b. capped (b * length (flat (tree_of child)))) c.from-in-Index.ensures in
    let turn = c.split-turn-in-Index.ensures.times (each_of v.block child) each in
    omega (arith, turn, walk.turn, ap length c.as_slice.ensures)

pub find-offset_bounds-as_slice-turn : goal.find-offset_bounds-as_slice-turn
find-offset_bounds-as_slice-turn t c =
    let v = c.in-Index in
    let child = c.get-child-in-Index.result.now in
    let is = v.is ∙ ap (Index v.block v.places) (sym c.get-child-in-Index.ensures) in
    let walk = index_walk c.args.node.now v.block v.places child c.args.k is c.requires.numbers c.requires.short c.requires.within in
    let each = c.times-each-in-Index.ensures (length (flat (tree_of child))) c.number-in-Index.ensures ∙ ap (λ b. capped (b * length (flat (tree_of child)))) c.from-in-Index.ensures in
    let fits = of_index_fits c.args.node.now v.block v.places child c.requires.numbers is in
    let turn = c.split-turn-in-Index.ensures.times (each_of v.block child) each in
    omega (arith, turn, walk.turn, fits.number_fits.1)

pub find-returns-in-Index : goal.find-returns-in-Index
find-returns-in-Index t c =
    let v = c.in-Index in
    let child = c.get-child-in-Index.result.now in
    let is = v.is ∙ ap (Index v.block v.places) (sym c.get-child-in-Index.ensures) in
    let walk = index_walk c.args.node.now v.block v.places child c.args.k is c.requires.numbers c.requires.short c.requires.within in
    let each = c.times-each-in-Index.ensures (length (flat (tree_of child))) c.number-in-Index.ensures ∙ ap (λ b. capped (b * length (flat (tree_of child)))) c.from-in-Index.ensures in
    let es = flat (tree_of child) in
    let fits = of_index_fits c.args.node.now v.block v.places child c.requires.numbers is in
    let turn = c.split-turn-in-Index.ensures.times (each_of v.block child) each in
    let place = get_or v.places c.split-turn-in-Index.result.0 (pos 0) in
    let near = step_at v.places c.split-turn-in-Index.result.0 fits.places_fit (omega (arith, turn, walk.turn)) in
    let found =
    in_index_place v.block c.args.k c.split-turn-in-Index.result.0 c.split-turn-in-Index.result.1 (each_of v.block child) es c.find_in_block-inner-in-Index.result c.moved-in-Index.result
    (sym (length-run v.block es)) (c.split-turn-in-Index.ensures.left (each_of v.block child) each) (c.split-turn-in-Index.ensures.times (each_of v.block child) each)
    c.find_in_block-inner-in-Index.ensures.value c.moved-in-Index.ensures.kind v.places walk.total (moved_by c.moved-in-Index.result.disp c.find_in_block-inner-in-Index.result.disp c.from-in-Index-2.result place c.moved-in-Index.ensures.disp c.from-in-Index-2.type_inv
    (c.from-in-Index-2.ensures ∙ (ap (λ xs. to_z w64 (of_z w64 (get_or xs c.split-turn-in-Index.result.0 (pos 0)))) c.as_slice.ensures ∙ step_back place near))) in
    subst (λ tree. IsPlaceAt (flat tree) c.args.k c.moved-in-Index.result) (sym (ap tree_of is ∙ of_index v.block v.places child)) found

pub find-parts-init : goal.find-parts-init
find-parts-init t c =
    let list = c.as_slice-part-items.ensures in
    let same : tree_of c.args.node.now ≡ group (trees_of c.as_slice-part-items.result.now) =
    ap tree_of c.in-Group.is ∙ (of_group c.in-Group.parts ∙ ap (λ ps. group (trees_of ps)) (sym list)) in
    let fits = of_group_fits c.args.node.now c.in-Group.parts c.requires.numbers c.in-Group.is in
    record {
      entry = λ d. ap (λ tree. get_or (flat tree) c.args.k d) (sym same);
      within = subst (λ tree. c.args.k < length (flat tree)) same c.requires.within;
      fit = ap (λ ps. parts_fit (trees_of ps)) list ∙ fits.2;
      short = (subst AreShort same c.requires.short).1;
      shallow = omega (arith, ap depth_of same);
    }

pub find-find_in_block-inner-requires-then-from-each : goal.find-find_in_block-inner-requires-then-from-each
find-find_in_block-inner-requires-then-from-each t c =
    let list = c.as_slice-part-items.result.now in
    let p = c.part-item.result in
    let after = trees_of (drop (c.parts.part-index + 1) list) in
    let more = rest_more list c.parts.part-index p c.parts-test.true c.part-item.is in
    let fits = part_fits p.block p.disp (tree_of p.node) after (sym (ap parts_fit more) ∙ c.parts.invariant.fit) in
    let short = subst PartsShort more c.parts.invariant.short in
    let count = each_of p.block p.node in
    let each = c.times-each-in-parts.ensures (length (flat (tree_of p.node))) c.number-in-parts.ensures ∙ ap (λ b. capped (b * length (flat (tree_of p.node)))) c.from-in-parts.ensures in (
      omega (arith, c.parts.invariant.shallow, ap depth_of_parts more, c.decreases),
      (fits.child_fits, (short.0, (fits.block_fits.1, omega (arith, c.if-from-each.true, c.from-in-parts-2.ensures, each)))),
    )

pub find-returns-then-from-each : goal.find-returns-then-from-each
find-returns-then-from-each t c =
    let list = c.as_slice-part-items.result.now in
    let p = c.part-item.result in
    let after = trees_of (drop (c.parts.part-index + 1) list) in
    let more = rest_more list c.parts.part-index p c.parts-test.true c.part-item.is in
    let fits = part_fits p.block p.disp (tree_of p.node) after (sym (ap parts_fit more) ∙ c.parts.invariant.fit) in
    let short = subst PartsShort more c.parts.invariant.short in
    let count = each_of p.block p.node in
    let each = c.times-each-in-parts.ensures (length (flat (tree_of p.node))) c.number-in-parts.ensures ∙ ap (λ b. capped (b * length (flat (tree_of p.node)))) c.from-in-parts.ensures in
    λ d.
    let here : c.parts.left < count = omega (arith, c.if-from-each.true, c.from-in-parts-2.ensures, each) in
    let es = run p.block (flat (tree_of p.node)) in
    place_in_part p.disp es (flat_parts after) c.parts.left c.find_in_block-inner-then-from-each.result c.moved-then-from-each.result (omega (arith, here, length-run p.block (flat (tree_of p.node))))
    c.find_in_block-inner-then-from-each.ensures.value c.moved-then-from-each.ensures.kind (moved_by c.moved-then-from-each.result.disp c.find_in_block-inner-then-from-each.result.disp c.from-then-from-each.result p.disp c.moved-then-from-each.ensures.disp
    c.from-then-from-each.type_inv (c.from-then-from-each.ensures ∙ step_back p.disp fits.disp_fits)) d
    ∙ ap place_of (sym (ap (λ ps. get_or (flat_parts ps) c.parts.left d) more) ∙ c.parts.invariant.entry d)

pub find-parts-preserved : goal.find-parts-preserved
find-parts-preserved t c =
    let list = c.as_slice-part-items.result.now in
    let p = c.part-item.result in
    let after = trees_of (drop (c.parts.part-index + 1) list) in
    let more = rest_more list c.parts.part-index p c.parts-test.true c.part-item.is in
    let fits = part_fits p.block p.disp (tree_of p.node) after (sym (ap parts_fit more) ∙ c.parts.invariant.fit) in
    let short = subst PartsShort more c.parts.invariant.short in
    let count = each_of p.block p.node in
    let each = c.times-each-in-parts.ensures (length (flat (tree_of p.node))) c.number-in-parts.ensures ∙ ap (λ b. capped (b * length (flat (tree_of p.node)))) c.from-in-parts.ensures in
    let past : count ≤ c.parts.left = omega (arith, c.if-from-each.false, c.from-in-parts-2.ensures, each, c.parts.auto.left-fits) in
    let step : c.times-each-in-parts.result ≡ count = omega (arith, c.if-from-each.false, c.from-in-parts-2.ensures, each, c.parts.auto.left-fits) in
    record {
      entry = λ d.
          ap (λ n. get_or (flat_parts after) (c.parts.left - n) d) step
          ∙ (sym (past_part p.block p.disp (tree_of p.node) after c.parts.left d past) ∙ (sym (ap (λ ps. get_or (flat_parts ps) c.parts.left d) more) ∙ c.parts.invariant.entry d));
      within = omega (arith, step, past, c.parts.invariant.within, ap (λ ps. length (flat_parts ps)) more, number_of_part p.block p.disp (tree_of p.node) after);
      fit = fits.rest_fits;
      short = short.1;
      shallow = omega (arith, c.parts.invariant.shallow, ap depth_of_parts more);
    }

pub find-unreachable-requires : goal.find-unreachable-requires
find-unreachable-requires t c =
    let none = rest_none c.as_slice-part-items.result.now c.parts.part-index c.parts-test.false in
    omega (arith, c.parts.invariant.within, ap (λ ps. length (flat_parts ps)) none)

pub find_in_block-extent-requires-clause-ordered : goal.find_in_block-extent-requires-clause-ordered
find_in_block-extent-requires-clause-ordered t c =
    let known = subst (IsMeasured (tree_of c.args.node.now)) c.unwrap-one.ensures c.measured.ensures in
    measure_ordered (flat (tree_of c.args.node.now)) c.unwrap-one.result.span c.unwrap-one.result.align known.1

pub find_in_block-extent-requires-clause-aligned : goal.find_in_block-extent-requires-clause-aligned
find_in_block-extent-requires-clause-aligned t c =
    let known = subst (IsMeasured (tree_of c.args.node.now)) c.unwrap-one.ensures c.measured.ensures in
    (measure_aligned (flat (tree_of c.args.node.now)) c.unwrap-one.result.span c.unwrap-one.result.align known.1).0

pub find_in_block-extent-requires-clause-few : goal.find_in_block-extent-requires-clause-few
find_in_block-extent-requires-clause-few t c =
    let known = subst (IsMeasured (tree_of c.args.node.now)) c.unwrap-one.ensures c.measured.ensures in
    (measure_aligned (flat (tree_of c.args.node.now)) c.unwrap-one.result.span c.unwrap-one.result.align known.1).1

pub find_in_block-copies_on-requires-clause-place : goal.find_in_block-copies_on-requires-clause-place
find_in_block-copies_on-requires-clause-place t c =
    let es = flat (tree_of c.args.node.now) in
    let walk = within_copies c.args.k c.args.block (length es) c.requires.within in
    let copy = c.split-copy.ensures.times (length es) c.number.ensures in
    let left = c.split-copy.ensures.left (length es) c.number.ensures in
    short_place es c.split-copy.result.1 c.find-inner.result (own_short (tree_of c.args.node.now) c.requires.short) (omega (arith, left, walk.2)) c.find-inner.ensures

pub find_in_block-returns-clause-value : goal.find_in_block-returns-clause-value
find_in_block-returns-clause-value t c =
    let known = subst (IsMeasured (tree_of c.args.node.now)) c.unwrap-one.ensures c.measured.ensures in
    let es = flat (tree_of c.args.node.now) in
    let walk = within_copies c.args.k c.args.block (length es) c.requires.within in
    let copy = c.split-copy.ensures.times (length es) c.number.ensures in
    let left = c.split-copy.ensures.left (length es) c.number.ensures in
    place_in_run c.args.block es c.args.k c.extent.result c.find-inner.result c.copies_on.result c.requires.within
    (subst (λ i. IsPlaceAt es i c.find-inner.result) left c.find-inner.ensures) (c.extent.ensures.value es known.1) c.copies_on.ensures.kind
    (c.copies_on.ensures.disp ∙ ap (λ q. c.find-inner.result.disp +ℤ pos (q * c.extent.result)) copy)
