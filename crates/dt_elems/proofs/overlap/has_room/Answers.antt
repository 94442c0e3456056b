use Rattle.std.proofs.Common.{sym}
use Rattle.dt_elems.proofs.Taken.{room_ends}
use Rattle.dt_elems.proofs.overlap.has_room.Goals as goal

pub returns-then-taken-start : goal.returns-then-taken-start
returns-then-taken-start c =
    sym (room_ends c.args.taken.now c.args.start c.bytes.k c.args.size c.requires c.bytes-test.true c.if-taken-start.true)
