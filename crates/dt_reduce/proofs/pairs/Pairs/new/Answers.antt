use Rattle.std.proofs.Common.{ℤ, pos, take, ap, sym, subst, ◌∙◌, arith}
use Rattle.std.proofs.lemmas.Int.{to_z-of_z}
use Rattle.std.specs.Int.{w64}
use mir.Val.{to_z, of_z}
use Rattle.dt_layout.proofs.Inside.{inside_is_close}
use Rattle.dt_layout.specs.Program.{StandsFor}
use Rattle.dt_cursor.specs.Walk.{Walk}
use Rattle.dt_kinds.specs.declared.kind.Rep.TheVariants as reps
use Rattle.dt_map.specs.Elements.{elements, are_inside, Overlaps}
use Rattle.dt_map.specs.Packed.{total}
use Rattle.dt_map.specs.Typemap.{shift}
use Rattle.dt_rows.proofs.Operation.{placed_elements}
use Rattle.dt_type.specs.Datatype.{typemap_of}
use Rattle.dt_reduce.specs.Paired.{Paired}
use Rattle.dt_reduce.proofs.Boundary.{small_in_memory}
use Rattle.dt_reduce.proofs.pairs.Pairs.new.Goals as goal

pub compile-requires-clause-close : goal.compile-requires-clause-close
compile-requires-clause-close c =
    inside_is_close (typemap_of c.args.ty.now) c.args.count c.args.target_len c.args.target_origin c.bounds-bounds.ensures.in_range (omega (arith, c.requires.target_small)) c.requires.target

pub compile-requires-clause-small : goal.compile-requires-clause-small
compile-requires-clause-small c =
    small_in_memory (typemap_of c.args.ty.now) c.args.count c.args.target_len c.args.target_origin c.requires.target_small c.requires.target c.requires.apart

pub invariant_of-result : goal.invariant_of-result
invariant_of-result c =
    let m = typemap_of c.args.ty.now in
    let n = c.args.count in
    let x : ℤ = to_z w64 (of_z w64 c.args.source_origin) in
    let y : ℤ = to_z w64 (of_z w64 c.args.target_origin) in
    let es = elements m n (pos 0) in
    let walk = c.new-cursor.ensures.start es (subst (λ code. StandsFor code es) (sym c.in_ok-new.ensures.ok) c.in_ok-program.ensures.stands) in
    let here = ap (λ (w : Walk). shift x w.elements) walk ∙ placed_elements m n x ∙ ap (elements m n) (to_z-of_z w64 c.args.source_origin c.ranges.source_origin) in
    let there = ap (λ (w : Walk). shift y w.elements) walk ∙ placed_elements m n y ∙ ap (elements m n) (to_z-of_z w64 c.args.target_origin c.ranges.target_origin) in (
      record {
        source = ap (are_inside c.args.source_len) here ∙ c.requires.source;
        target = ap (are_inside c.args.target_len) there ∙ c.requires.target;
        apart = λ over. c.requires.apart (subst Overlaps there over);
        source_small = c.requires.source_small;
        target_small = c.requires.target_small;
        within = omega arith;
      },
      record {
        native = ap (λ (w : Walk). w.rep) walk;
        place = ap (λ (w : Walk). w.position) walk ∙ sym (ap (λ (w : Walk). total reps.Native (take 0 w.elements)) walk);
      },
    )

pub returns : goal.returns
returns c =
    let m = typemap_of c.args.ty.now in
    let es = elements m c.args.count (pos 0) in
    let walk = c.new-cursor.ensures.start es (subst (λ code. StandsFor code es) (sym c.in_ok-new.ensures.ok) c.in_ok-program.ensures.stands) in
    let seen : Walk → ℤ → ℤ → Paired = λ w x y. record { elements = w.elements; source_origin = x; source_len = c.args.source_len; target_origin = y; target_len = c.args.target_len; done = 0 } in
    let start : Walk = record { elements = es; rep = reps.Native; position = 0 } in
    ap (λ w. seen w (to_z w64 (of_z w64 c.args.source_origin)) (to_z w64 (of_z w64 c.args.target_origin))) walk
    ∙ ap (λ x. seen start x (to_z w64 (of_z w64 c.args.target_origin))) (to_z-of_z w64 c.args.source_origin c.ranges.source_origin)
    ∙ ap (λ y. seen start c.args.source_origin y) (to_z-of_z w64 c.args.target_origin c.ranges.target_origin)
