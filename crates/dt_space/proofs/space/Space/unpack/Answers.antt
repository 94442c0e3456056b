use Rattle.std.proofs.Common.{length, take, drop, ap, ◌∙◌, arith}
use Rattle.dt_unpack.specs.Session.{buffer_after}
use Rattle.dt_space.proofs.Packings.{unpack_short, unpack_done}
use Rattle.dt_space.proofs.space.Space.unpack.Goals as goal

pub returns-in_default-clause-answer : goal.returns-in_default-clause-answer
returns-in_default-clause-answer c =
    unpack_short c.args.self.now c.args.op (length c.args.outbuf.now) (length c.args.inbuf.now) c.args.position c.total.result c.in_ok-session.session c.in_ok-session.ensures c.total.ensures
    c.in_default.ensures

pub returns-clause-answer : goal.returns-clause-answer
returns-clause-answer c =
    unpack_done c.args.self.now c.args.op c.args.inbuf.now c.args.outbuf.now _ c.args.position c.in-Some.end c.total.result c.in_ok-session.session c.in_ok-session.ensures c.total.ensures
    c.in-Some.ensures.0 c.in-Some.ensures.1
    (c.give_all.ensures ∙ ap (λ k. buffer_after c.in_ok-session.session c.args.outbuf.now (take k (drop c.args.position c.args.inbuf.now))) (omega (arith, c.in-Some.ensures.0)))
