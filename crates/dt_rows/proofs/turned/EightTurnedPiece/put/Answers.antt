use Rattle.dt_rows.proofs.EightBytes.{eight_turned}
use Rattle.dt_rows.proofs.turned.EightTurnedPiece.put.Goals as goal

pub returns : goal.returns
returns c = eight_turned c.args.out.now c.args.bytes.now c.requires.room c.requires.read
