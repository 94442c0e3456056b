use Rattle.std.proofs.Common.{length}
use Rattle.dt_space.proofs.Packings.{pack_short, pack_done}
use Rattle.dt_space.proofs.space.Space.pack.Goals as goal

pub returns-in_default-clause-answer : goal.returns-in_default-clause-answer
returns-in_default-clause-answer c =
    pack_short c.args.self.now c.args.op (length c.args.inbuf.now) (length c.args.outbuf.now) c.args.position c.total.result c.in_ok-session.session c.in_ok-session.ensures c.total.ensures c.in_default.ensures

pub returns-clause-answer : goal.returns-clause-answer
returns-clause-answer c =
    pack_done c.args.self.now c.args.op c.args.inbuf.now c.args.outbuf.now _ c.args.position c.in-Some.end c.total.result c.in_ok-session.session c.in_ok-session.ensures c.total.ensures
    c.in-Some.ensures.0 c.in-Some.ensures.1 c.put_all.ensures
