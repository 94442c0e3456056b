use Rattle.std.proofs.Common.{arith}
use Rattle.dt_copy.proofs.Pieces.{piece_copied}
use Rattle.dt_copy.proofs.copying.copy_piece.Goals as goal

pub returns-clause-bytes : goal.returns-clause-bytes
returns-clause-bytes c =
    let t = c.take-taken.ensures in
    let count = t.count in
    piece_copied c.args.from.now c.args.to.now c.take-taken.result (omega (arith, count)) c.requires.room c.args.source.now c.requires.source c.requires.inside c.take-taken.new.out c.args.piece.now
    c.args.target.now c.give.new.buffer t.bytes c.give.ensures.bytes
