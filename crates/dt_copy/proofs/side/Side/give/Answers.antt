use Rattle.std.proofs.Common.{◌-◌, drop, length, arith, length-drop}
use Rattle.std.proofs.lemmas.List.{length-take-le}
use Rattle.dt_copy.proofs.Pieces.{given_more, moved_more}
use Rattle.dt_copy.proofs.side.Side.give.Goals as goal

pub rows-preserved : goal.rows-preserved
rows-preserved c =
    let i = c.rows.invariant in
    let t = c.give_rows-done.ensures in
    let n = c.give_rows-done.result in
    let piece = c.args.piece.now in
    let few = c.requires.more in
    let within = i.within in
    let most = t.some.1 in
    let part = length-take-le (length piece - c.rows.done) (drop c.rows.done piece) (omega (arith, length-drop c.rows.done piece)) in
    record {
      within = omega (arith, within, most, part);
      bytes = given_more c.args.self.now c.rows.self c.args.buffer.now c.rows.buffer c.give_rows-done.new.buffer piece c.rows.done n i.moved (omega (arith, within, few)) i.bytes t.bytes;
      moved = moved_more c.args.self.now c.rows.self c.give_rows-done.new.self c.rows.done n i.moved t.moved;
    }
