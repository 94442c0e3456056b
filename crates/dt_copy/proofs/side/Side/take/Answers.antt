use Rattle.std.proofs.Common.{arith}
use Rattle.dt_copy.proofs.Pieces.{taken_more, moved_more, to_come_more, within_more}
use Rattle.dt_copy.proofs.side.Side.take.Goals as goal

pub rows-preserved : goal.rows-preserved
rows-preserved c =
    let i = c.rows.invariant in
    let t = c.take_rows-taken.ensures in
    let n = c.take_rows-taken.result in
    record {
      within = within_more c.args.out.now c.rows.out c.rows.done n c.rows.auto.out i.within t.within;
      to_come = to_come_more c.args.self.now c.rows.self c.rows.done n i.moved i.to_come t.to_come;
      bytes = taken_more c.args.self.now c.rows.self c.args.buffer.now c.args.out.now c.rows.out c.take_rows-taken.new.out c.rows.done n i.moved i.bytes c.rows.auto.out (omega (arith, i.within, c.rows.auto.out)) t.bytes;
      moved = moved_more c.args.self.now c.rows.self c.take_rows-taken.new.self c.rows.done n i.moved t.moved;
    }
