use Rattle.std.proofs.Common.{◌+ℤ◌, pos, SFits, sym, ap, subst, ◌∙◌}
use Rattle.std.proofs.lemmas.Int.{to_z-of_z}
use Rattle.std.specs.Int.{w64}
use mir.Val.{to_z, of_z}
use Rattle.dt_copy.proofs.Given.{first_fits}
use Rattle.dt_copy.proofs.naming.first_byte.Goals as goal

pub overflow_add-result : goal.overflow_add-result
overflow_add-result c =
    let r = c.args.rows.now in
    let start = to_z-of_z w64 c.start_of.result (record { sfits = c.start_of.type_inv }) ∙ c.start_of.ensures ∙ ap (λ z. r.run.disp +ℤ z) (to_z-of_z w64 c.args.origin c.ranges.origin) in
    let skip = to_z-of_z w64 c.from.result (record { sfits = c.from.type_inv }) ∙ c.from.ensures in
    let fits = first_fits c.args.len r.run.skip r.run.bytes (r.run.disp +ℤ c.args.origin) c.requires.first c.requires.small in
    subst (λ z. SFits w64 (to_z w64 (of_z w64 c.start_of.result) +ℤ z)) (sym skip) (subst (λ z. SFits w64 (z +ℤ pos r.run.skip)) (sym start) fits)

pub returns : goal.returns
returns c =
    let r = c.args.rows.now in
    let start = to_z-of_z w64 c.start_of.result (record { sfits = c.start_of.type_inv }) ∙ c.start_of.ensures ∙ ap (λ z. r.run.disp +ℤ z) (to_z-of_z w64 c.args.origin c.ranges.origin) in
    let skip = to_z-of_z w64 c.from.result (record { sfits = c.from.type_inv }) ∙ c.from.ensures in
    let fits = first_fits c.args.len r.run.skip r.run.bytes (r.run.disp +ℤ c.args.origin) c.requires.first c.requires.small in
    ap (λ z. to_z w64 (of_z w64 (to_z w64 (of_z w64 c.start_of.result) +ℤ z))) skip
    ∙ ap (λ z. to_z w64 (of_z w64 (z +ℤ pos r.run.skip))) start
    ∙ to_z-of_z w64 ((r.run.disp +ℤ c.args.origin) +ℤ pos r.run.skip) fits
