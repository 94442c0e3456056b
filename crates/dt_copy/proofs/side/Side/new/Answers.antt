use Rattle.std.proofs.Common.{ℤ, pos, ap, sym, subst, ◌∙◌, arith}
use Rattle.std.proofs.lemmas.Int.{to_z-of_z}
use Rattle.std.specs.Int.{w64}
use mir.Val.{to_z, of_z}
use Rattle.dt_kinds.specs.declared.kind.Rep.TheVariants as reps
use Rattle.dt_layout.proofs.Inside.{inside_is_close}
use Rattle.dt_layout.specs.Program.{StandsFor}
use Rattle.dt_map.specs.Elements.{elements, are_inside}
use Rattle.dt_map.specs.Packed.{total}
use Rattle.dt_map.specs.Typemap.{shift}
use Rattle.dt_map.proofs.Copies.{total-shift}
use Rattle.dt_rows.proofs.Operation.{placed_elements}
use Rattle.dt_type.specs.Datatype.{typemap_of}
use Rattle.dt_copy.specs.Side.{Reader}
use Rattle.dt_copy.proofs.side.Side.new.Goals as goal

pub compile-requires-clause-close : goal.compile-requires-clause-close
compile-requires-clause-close c =
    inside_is_close (typemap_of c.args.ty.now) c.args.count c.args.len c.args.origin c.bounds-bounds.ensures.in_range (omega (arith, c.requires.small)) c.requires.inside

pub compile-requires-clause-small : goal.compile-requires-clause-small
compile-requires-clause-small c =
    let m = typemap_of c.args.ty.now in
    let moved = ap (total reps.Native) (sym (placed_elements m c.args.count c.args.origin)) ∙ total-shift reps.Native c.args.origin (elements m c.args.count (pos 0)) in
    omega (arith, c.requires.few, moved)

pub invariant_of-result : goal.invariant_of-result
invariant_of-result c =
    let m = typemap_of c.args.ty.now in
    let x : ℤ = to_z w64 (of_z w64 c.args.origin) in
    let es = elements m c.args.count (pos 0) in
    let walk = c.new-cursor.ensures.start es (subst (λ code. StandsFor code es) (sym c.in_ok-new.ensures.ok) c.in_ok-program.ensures.stands) in
    record {
      native = ap (λ w. w.rep) walk;
      inside =
          ap (λ w. are_inside c.args.len (shift x w.elements)) walk
          ∙ ap (are_inside c.args.len) (placed_elements m c.args.count x ∙ ap (elements m c.args.count) (to_z-of_z w64 c.args.origin c.ranges.origin)) ∙ c.requires.inside;
      small = c.requires.small;
    }

pub returns : goal.returns
returns c =
    let m = typemap_of c.args.ty.now in
    let x : ℤ = to_z w64 (of_z w64 c.args.origin) in
    let es = elements m c.args.count (pos 0) in
    let walk = c.new-cursor.ensures.start es (subst (λ code. StandsFor code es) (sym c.in_ok-new.ensures.ok) c.in_ok-program.ensures.stands) in
    let seen : _ → _ → Reader = λ es p. record { elements = es; len = c.args.len; position = p } in
    ap (λ w. seen (shift x w.elements) w.position) walk
    ∙ ap (λ fs. seen fs 0) (placed_elements m c.args.count x ∙ ap (elements m c.args.count) (to_z-of_z w64 c.args.origin c.ranges.origin))
