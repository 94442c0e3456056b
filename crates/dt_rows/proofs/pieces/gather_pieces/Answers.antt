use Rattle.std.proofs.Common.{◌+◌, ◌*◌, ◌≤◌, ℤ, List, ℕ, length, sym, ap, ◌∙◌, arith}
use Rattle.std.proofs.lemmas.Int.{to_z-of_z}
use Rattle.std.proofs.lemmas.Nat.{mul-le}
use Rattle.std.specs.Int.{w64}
use mir.Val.{to_z, of_z}
use Rattle.dt_map.specs.Setting.{written}
use Rattle.dt_rows.specs.Pieces.{bytes_from}
use Rattle.dt_rows.proofs.Gathering.{gathered_more}
use Rattle.dt_rows.proofs.pieces.gather_pieces.Goals as goal

pub pieces-preserved : goal.pieces-preserved
pieces-preserved g c =
    let w = g.P.Piece.width c.args.piece.now in
    let one : ℤ → List ℕ = λ x. g.P.Piece.image c.args.piece.now (bytes_from c.args.buffer.now w x) in
    let i = c.pieces.i in
    let more = mul-le (i + 1) w c.args.count w (omega (arith, c.pieces-test.true)) (omega arith) in
    let room : (i + 1) * w ≤ length c.args.out.now = omega (arith, more, c.requires.room) in
    let width = ap (λ n. written c.pieces.out (i * n) (one (to_z w64 (of_z w64 c.place.result)))) c.width-width.ensures in
    let at = to_z-of_z w64 c.place.result (record { sfits = c.place.type_inv }) ∙ c.place.ensures in
    let there = ap (λ x. written c.pieces.out (i * w) (one x)) at in
    gathered_more one w c.args.out.now c.pieces.out _ _ _ i c.pieces.invariant c.pieces.auto.out room
    (c.put_piece.ensures.value ∙ width ∙ there) (ap (λ x. length (one x)) (sym at) ∙ c.put_piece.ensures.len)
