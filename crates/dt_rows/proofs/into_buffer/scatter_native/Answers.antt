use Rattle.std.proofs.Common.{◌+ℤ◌, ◌*ℤ◌, ◌*◌, ◌≤◌, ℤ, pos, length, SFits, refl, sym, ap, subst, ◌∙◌, rules}
use Rattle.std.proofs.lemmas.Int.{to_z-of_z}
use Rattle.std.specs.Int.{w64}
use mir.Val.{to_z, of_z}
use Rattle.dt_kinds.specs.declared.kind.Rep.TheVariants.{Native}
use Rattle.dt_offsets.specs.Offsets.{row_offsets}
use Rattle.dt_rows.specs.Pieces.{IsPiece}
use Rattle.dt_rows.specs.Storing.{stored}
use Rattle.dt_rows.proofs.Packing.{inside}
use Rattle.dt_rows.proofs.SettingRows.{rows_are_set, native_rows}
use Rattle.dt_rows.proofs.into_buffer.scatter_native.Goals as goal

pub scatter_bytes-requires-clause-inside : goal.scatter_bytes-requires-clause-inside
scatter_bytes-requires-clause-inside c i row =
    let r = c.args.rows.now in
    let step : SFits w64 r.step = search rules in
    let start = to_z-of_z w64 c.start_of-start.result (record { sfits = c.start_of-start.type_inv }) ∙ c.start_of-start.ensures ∙ ap (λ z. r.run.disp +ℤ z) (to_z-of_z w64 c.args.origin c.ranges.origin) in
    let Is : ℤ → ℤ → Type 0 = λ x y. IsPiece (length c.args.buffer.now) r.run.bytes (x +ℤ (pos i *ℤ y)) in
    let here = inside r c.args.origin (r.run.disp +ℤ c.args.origin) c.args.buffer.now refl c.requires.inside Native c.requires.shape i row in
    let all = subst (λ n. IsPiece (length c.args.buffer.now) n ((r.run.disp +ℤ c.args.origin) +ℤ (pos i *ℤ r.step))) (sym c.requires.whole.1) here in
    subst (λ x. Is x (to_z w64 (of_z w64 r.step))) (sym start) (subst (λ y. Is (r.run.disp +ℤ c.args.origin) y) (sym (to_z-of_z w64 r.step step)) all)

pub returns : goal.returns
returns c =
    let r = c.args.rows.now in
    let step : SFits w64 r.step = search rules in
    let start = to_z-of_z w64 c.start_of-start.result (record { sfits = c.start_of-start.type_inv }) ∙ c.start_of-start.ensures ∙ ap (λ z. r.run.disp +ℤ z) (to_z-of_z w64 c.args.origin c.ranges.origin) in
    let put : ℤ → ℤ → _ = λ x y. stored (λ b. b) r.run.bytes (row_offsets x r.rows y) c.args.buffer.now c.args.packed.now in
    c.scatter_bytes.ensures
    ∙ ap (λ x. put x (to_z w64 (of_z w64 r.step))) start ∙ ap (put (r.run.disp +ℤ c.args.origin)) (to_z-of_z w64 r.step step)
    ∙ ap (λ w. stored (λ b. b) w (row_offsets (r.run.disp +ℤ c.args.origin) r.rows r.step) c.args.buffer.now c.args.packed.now) c.requires.whole.1
    ∙ native_rows r.run.kind r.run.elements (r.run.disp +ℤ c.args.origin) r.step r.rows c.args.buffer.now c.args.packed.now
    (λ i row. inside r c.args.origin (r.run.disp +ℤ c.args.origin) c.args.buffer.now refl c.requires.inside Native c.requires.shape i row)
    (subst (λ n. r.rows * n ≤ length c.args.packed.now) c.requires.whole.1 c.requires.enough)
    ∙ sym (rows_are_set Native r c.args.origin (r.run.disp +ℤ c.args.origin) c.args.buffer.now c.args.packed.now refl)
