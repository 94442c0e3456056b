use Rattle.std.proofs.Common.{◌+ℤ◌, ◌*ℤ◌, ◌++◌, ℤ, pos, drop, length, SFits, refl, sym, ap, subst, ◌∙◌, rules}
use Rattle.std.proofs.lemmas.Int.{to_z-of_z}
use Rattle.std.specs.Int.{w64}
use mir.Val.{to_z, of_z}
use Rattle.dt_offsets.specs.Offsets.{row_offsets}
use Rattle.dt_rows.specs.Pieces.{pieces, IsPiece}
use Rattle.dt_rows.specs.Rows.{bytes_in}
use Rattle.dt_rows.proofs.Packing.{bytes_inside, native_bytes}
use Rattle.dt_rows.proofs.from_buffer.gather_native.Goals as goal

pub gather_bytes-requires-clause-inside : goal.gather_bytes-requires-clause-inside
gather_bytes-requires-clause-inside c i row =
    let r = c.args.rows.now in
    let step : SFits w64 r.step = search rules in
    let first = to_z-of_z w64 c.first_byte-first.result (record { sfits = c.first_byte-first.type_inv }) ∙ c.first_byte-first.ensures ∙ ap (λ z. (r.run.disp +ℤ z) +ℤ pos r.run.skip) (to_z-of_z w64 c.args.origin c.ranges.origin) in
    let Is : ℤ → ℤ → Type 0 = λ x y. IsPiece (length c.args.buffer.now) r.run.bytes (x +ℤ (pos i *ℤ y)) in
    let here = bytes_inside r c.args.origin (r.run.disp +ℤ c.args.origin) c.args.buffer.now refl c.requires.inside c.requires.shape i row in
    subst (λ x. Is x (to_z w64 (of_z w64 r.step))) (sym first) (subst (λ y. Is ((r.run.disp +ℤ c.args.origin) +ℤ pos r.run.skip) y) (sym (to_z-of_z w64 r.step step)) here)

pub returns : goal.returns
returns c =
    let r = c.args.rows.now in
    let step : SFits w64 r.step = search rules in
    let first = to_z-of_z w64 c.first_byte-first.result (record { sfits = c.first_byte-first.type_inv }) ∙ c.first_byte-first.ensures ∙ ap (λ z. (r.run.disp +ℤ z) +ℤ pos r.run.skip) (to_z-of_z w64 c.args.origin c.ranges.origin) in
    let rest = drop (bytes_in r) c.args.out.now in
    let put = native_bytes r c.args.origin (r.run.disp +ℤ c.args.origin) c.args.buffer.now refl c.requires.inside c.requires.shape in
    c.gather_bytes.ensures
    ∙ ap (λ x. pieces (λ b. b) r.run.bytes c.args.buffer.now (row_offsets x r.rows (to_z w64 (of_z w64 r.step))) ++ rest) first
    ∙ ap (λ y. pieces (λ b. b) r.run.bytes c.args.buffer.now (row_offsets ((r.run.disp +ℤ c.args.origin) +ℤ pos r.run.skip) r.rows y) ++ rest) (to_z-of_z w64 r.step step)
    ∙ ap (λ s. s ++ rest) (sym put)
