use Rattle.std.proofs.Common.{◌≡◌, ◌*◌, ◌++◌, drop}
use Rattle.dt_offsets.specs.Offsets.{row_offsets}
use Rattle.dt_rows.specs.Pieces.{pieces}
use Rattle.dt_rows.proofs.pieces.gather_pieces.Given as goal

-- the first pieces were put
abbrev pub invariant-pieces : goal.invariant-pieces
invariant-pieces g l =
    let p = g.P.Piece in
    l.out ≡ pieces (p.image l.piece) (p.width l.piece) l.buffer (row_offsets l.start l.i l.step) ++ drop (l.i * p.width l.piece) l.fn.out
