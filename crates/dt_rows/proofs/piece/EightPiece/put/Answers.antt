use Rattle.dt_rows.proofs.EightBytes.{eight_set}
use Rattle.dt_rows.proofs.piece.EightPiece.put.Goals as goal

pub returns : goal.returns
returns c = eight_set c.args.out.now c.args.bytes.now c.requires.room c.requires.read
