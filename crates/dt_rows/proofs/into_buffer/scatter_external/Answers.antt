use Rattle.std.proofs.Common.{◌+ℤ◌, ◌*ℤ◌, ◌*◌, ℤ, pos, length, SFits, refl, sym, ap, subst, ◌∙◌, rules}
use Rattle.std.proofs.lemmas.Int.{to_z-of_z}
use Rattle.std.specs.Int.{w64}
use mir.Val.{to_z, of_z}
use Rattle.dt_kinds.specs.declared.kind.Rep.TheVariants.{External32}
use Rattle.dt_kinds.specs.Kind.{native_size}
use Rattle.dt_offsets.specs.Offsets.{row_offsets}
use Rattle.dt_rows.specs.Pieces.{IsPiece}
use Rattle.dt_rows.specs.Storing.{set_rows}
use Rattle.dt_rows.proofs.Packing.{inside}
use Rattle.dt_rows.proofs.SettingRows.{rows_are_set}
use Rattle.dt_rows.proofs.into_buffer.scatter_external.Goals as goal

pub scatter_element_rows-requires-clause-inside : goal.scatter_element_rows-requires-clause-inside
scatter_element_rows-requires-clause-inside c i row =
    let r = c.args.rows.now in
    let step : SFits w64 r.step = search rules in
    let start = to_z-of_z w64 c.start_of-start.result (record { sfits = c.start_of-start.type_inv }) ∙ c.start_of-start.ensures ∙ ap (λ z. r.run.disp +ℤ z) (to_z-of_z w64 c.args.origin c.ranges.origin) in
    let Is : ℤ → ℤ → Type 0 = λ x y. IsPiece (length c.args.buffer.now) (r.run.elements * native_size r.run.kind) (x +ℤ (pos i *ℤ y)) in
    let here = inside r c.args.origin (r.run.disp +ℤ c.args.origin) c.args.buffer.now refl c.requires.inside External32 c.requires.shape i row in
    subst (λ x. Is x (to_z w64 (of_z w64 r.step))) (sym start) (subst (λ y. Is (r.run.disp +ℤ c.args.origin) y) (sym (to_z-of_z w64 r.step step)) here)

pub returns : goal.returns
returns c =
    let r = c.args.rows.now in
    let step : SFits w64 r.step = search rules in
    let start = to_z-of_z w64 c.start_of-start.result (record { sfits = c.start_of-start.type_inv }) ∙ c.start_of-start.ensures ∙ ap (λ z. r.run.disp +ℤ z) (to_z-of_z w64 c.args.origin c.ranges.origin) in
    c.scatter_element_rows.ensures
    ∙ ap (λ x. set_rows External32 r.run.kind r.run.elements (row_offsets x r.rows (to_z w64 (of_z w64 r.step))) c.args.buffer.now c.args.packed.now) start
    ∙ ap (λ y. set_rows External32 r.run.kind r.run.elements (row_offsets (r.run.disp +ℤ c.args.origin) r.rows y) c.args.buffer.now c.args.packed.now) (to_z-of_z w64 r.step step)
    ∙ sym (rows_are_set External32 r c.args.origin (r.run.disp +ℤ c.args.origin) c.args.buffer.now c.args.packed.now refl)
