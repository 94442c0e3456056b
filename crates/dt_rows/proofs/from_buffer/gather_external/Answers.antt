use Rattle.std.proofs.Common.{◌≡◌, ◌+ℤ◌, ◌*ℤ◌, ◌*◌, ◌++◌, ℤ, pos, take, drop, length, SFits, inl, inr, refl, sym, ap, subst, ◌∙◌, rules, arith}
use Rattle.std.specs.List.{flat_map}
use Rattle.std.proofs.lemmas.Bool.{cases_lt, false≢true}
use Rattle.std.proofs.lemmas.Int.{to_z-of_z}
use Rattle.std.proofs.lemmas.List.{length-take-le}
use Rattle.std.specs.Int.{w64}
use mir.Val.{to_z, of_z}
use Rattle.dt_kinds.specs.declared.kind.Rep.TheVariants.{External32}
use Rattle.dt_kinds.specs.Kind.{native_size, external_size}
use Rattle.dt_offsets.specs.Offsets.{row_offsets}
use Rattle.dt_rows.specs.Pieces.{turned_row, IsPiece}
use Rattle.dt_rows.specs.Rows.{packed_rows}
use Rattle.dt_rows.proofs.Packing.{inside, first_inside, external_whole, external_cut}
use Rattle.dt_rows.proofs.from_buffer.gather_external.Goals as goal

pub gather_turned_rows-requires-clause-inside : goal.gather_turned_rows-requires-clause-inside
gather_turned_rows-requires-clause-inside c i row =
    let r = c.args.rows.now in
    let step : SFits w64 r.step = search rules in
    let start = to_z-of_z w64 c.start_of-start.result (record { sfits = c.start_of-start.type_inv }) ∙ c.start_of-start.ensures ∙ ap (λ z. r.run.disp +ℤ z) (to_z-of_z w64 c.args.origin c.ranges.origin) in
    let Is : ℤ → ℤ → Type 0 = λ x y. IsPiece (length c.args.buffer.now) (r.run.elements * native_size r.run.kind) (x +ℤ (pos i *ℤ y)) in
    let here = inside r c.args.origin (r.run.disp +ℤ c.args.origin) c.args.buffer.now refl c.requires.inside External32 c.requires.shape i row in
    subst (λ x. Is x (to_z w64 (of_z w64 r.step))) (sym start) (subst (λ y. Is (r.run.disp +ℤ c.args.origin) y) (sym (to_z-of_z w64 r.step step)) here)

pub gather_cut-requires-clause-inside : goal.gather_cut-requires-clause-inside
gather_cut-requires-clause-inside c =
    let r = c.args.rows.now in
    let start = to_z-of_z w64 c.start_of-start.result (record { sfits = c.start_of-start.type_inv }) ∙ c.start_of-start.ensures ∙ ap (λ z. r.run.disp +ℤ z) (to_z-of_z w64 c.args.origin c.ranges.origin) in
    let here = first_inside r c.args.origin (r.run.disp +ℤ c.args.origin) c.args.buffer.now refl c.requires.inside External32 c.requires.shape in
    subst (IsPiece (length c.args.buffer.now) (r.run.elements * native_size r.run.kind)) (sym start) here

pub returns-then-is_whole : goal.returns-then-is_whole
returns-then-is_whole c =
    let r = c.args.rows.now in
    let step : SFits w64 r.step = search rules in
    let start = to_z-of_z w64 c.start_of-start.result (record { sfits = c.start_of-start.type_inv }) ∙ c.start_of-start.ensures ∙ ap (λ z. r.run.disp +ℤ z) (to_z-of_z w64 c.args.origin c.ranges.origin) in
    let whole = c.is_whole.ensures.0 c.if-is_whole.true in
    let row = turned_row r.run.kind r.run.elements c.args.buffer.now in
    let w = r.run.elements * external_size r.run.kind in
    let put = external_whole r c.args.origin (r.run.disp +ℤ c.args.origin) c.args.buffer.now refl c.requires.inside c.requires.shape whole.0 whole.1 in
    c.gather_turned_rows.ensures
    ∙ ap (λ x. flat_map row (row_offsets x r.rows (to_z w64 (of_z w64 r.step))) ++ drop (r.rows * w) c.args.out.now) start
    ∙ ap (λ y. flat_map row (row_offsets (r.run.disp +ℤ c.args.origin) r.rows y) ++ drop (r.rows * w) c.args.out.now) (to_z-of_z w64 r.step step)
    ∙ ap (λ s. s ++ drop (r.rows * w) c.args.out.now) (sym put)
    ∙ ap (λ n. packed_rows External32 r c.args.origin c.args.buffer.now ++ drop (r.rows * n) c.args.out.now) (sym whole.1)

pub returns-else-is_whole : goal.returns-else-is_whole
returns-else-is_whole c =
    let r = c.args.rows.now in
    let start = to_z-of_z w64 c.start_of-start.result (record { sfits = c.start_of-start.type_inv }) ∙ c.start_of-start.ensures ∙ ap (λ z. r.run.disp +ℤ z) (to_z-of_z w64 c.args.origin c.ranges.origin) in
    let row = turned_row r.run.kind r.run.elements c.args.buffer.now in
    let some = c.requires.shape.some in
    let one : r.rows ≡ 1 =
    elim (cases_lt 1 r.rows) [
      | inl many ↦ (let is = c.is_whole.ensures.1 (c.requires.shape.whole many) in absurd (false≢true (sym c.if-is_whole.false ∙ is)))
      | inr few ↦ omega arith
    ] in
    let count : r.rows * r.run.bytes ≡ r.run.bytes = ap (λ n. n * r.run.bytes) one ∙ (let plain : 1 * r.run.bytes ≡ r.run.bytes = omega arith in plain) in
    let room = c.requires.room in
    let long = length-take-le r.run.bytes c.args.out.now (omega (arith, room, count)) in
    let put = external_cut r c.args.origin (r.run.disp +ℤ c.args.origin) c.args.buffer.now refl c.requires.inside c.requires.shape one in
    ap (λ s. s ++ drop r.run.bytes c.args.out.now) (c.gather_cut.ensures
    ∙ ap (λ n. take n (drop c.from.result (row (to_z w64 (of_z w64 c.start_of-start.result))))) long
    ∙ ap (λ n. take r.run.bytes (drop n (row (to_z w64 (of_z w64 c.start_of-start.result))))) c.from.ensures
    ∙ ap (λ x. take r.run.bytes (drop r.run.skip (row x))) start
    ∙ sym put)
    ∙ ap (λ n. packed_rows External32 r c.args.origin c.args.buffer.now ++ drop n c.args.out.now) (sym count)
