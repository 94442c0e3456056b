use Rattle.std.proofs.Common.{◌≡◌, ◌++◌, ◌*◌, ◌+◌, ◌≤◌, ℕ, ℤ, List, drop, length, sym, ap, subst, ◌∙◌, arith}
use Rattle.std.proofs.lemmas.Int.{to_z-of_z}
use Rattle.std.proofs.lemmas.Nat.{mul-le}
use Rattle.std.specs.Int.{w64}
use Rattle.std.specs.List.{flat_map}
use mir.Val.{to_z, of_z}
use Rattle.dt_kinds.specs.Kind.{external_size}
use Rattle.dt_map.specs.Setting.{written}
use Rattle.dt_offsets.specs.Offsets.{row_offsets}
use Rattle.dt_rows.specs.Pieces.{turned_row}
use Rattle.dt_rows.proofs.Cutting.{ones_turned}
use Rattle.dt_rows.proofs.Gathering.{gathered_more}
use Rattle.dt_rows.proofs.external.gather_turned_rows.Goals as goal

pub returns-then-elements-eq1 : goal.returns-then-elements-eq1
returns-then-elements-eq1 c =
    let kind = c.args.kind in
    let buffer = c.args.buffer.now in
    let places = row_offsets c.args.start c.args.count c.args.step in
    let Is : ℕ → Type 0 = λ n. c.gather_turned.new.out ≡ flat_map (turned_row kind n buffer) places ++ drop (c.args.count * (n * external_size kind)) c.args.out.now in
    let rest : external_size kind ≡ 1 * external_size kind = omega arith in
    let start = to_z-of_z w64 c.args.start c.ranges.start in
    let step = to_z-of_z w64 c.args.step c.ranges.step in
    subst Is (sym c.if-elements-eq1.true) (simp (start, step) at c.gather_turned.ensures
    ∙ ap (λ s. s ++ drop (c.args.count * external_size kind) c.args.out.now) (sym (ones_turned kind buffer places))
    ∙ ap (λ n. flat_map (turned_row kind 1 buffer) places ++ drop (c.args.count * n) c.args.out.now) rest)

pub rows-preserved : goal.rows-preserved
rows-preserved c =
    let w = c.args.elements * external_size c.args.kind in
    let one : ℤ → List ℕ = λ x. turned_row c.args.kind c.args.elements c.args.buffer.now x in
    let i = c.rows.i in
    let more = mul-le (i + 1) w c.args.count w (omega (arith, c.rows-test.true)) (omega arith) in
    let room : (i + 1) * w ≤ length c.args.out.now = omega (arith, more, c.requires.room) in
    let width = ap (λ n. written c.rows.out (i * (c.args.elements * n)) (one (to_z w64 (of_z w64 c.place.result)))) c.ext_size.ensures in
    let at = to_z-of_z w64 c.place.result (record { sfits = c.place.type_inv }) ∙ c.place.ensures in
    let there = ap (λ x. written c.rows.out (i * w) (one x)) at in
    gathered_more one w c.args.out.now c.rows.out _ _ _ i c.rows.invariant c.rows.auto.out room
    (c.put_row.ensures.value ∙ width ∙ there) (ap (λ x. length (one x)) (sym at) ∙ c.put_row.ensures.len)
