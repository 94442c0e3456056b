use Rattle.dt_call.specs.declared.words.Asked.TheVariants.{Certify, Check, Migrate, Gen}
use Rattle.dt_call.proofs.RunLemmas.{wrote_said, counted_is}
use Rattle.dt_call.proofs.call.answer.Goals as goal

pub returns-in-Certify-clause-wrote : goal.returns-in-Certify-clause-wrote
returns-in-Certify-clause-wrote g c =
    wrote_said c.args.asked.now (Certify c.in-Certify.name) c.args.input.now c.certify.result c.tell.result (g.K.Sink.held c.args.sink.now) (g.K.Sink.held c.tell.new.sink)
    c.in-Certify.is tt c.certify.ensures c.tell.ensures.wrote

pub returns-in-Check-clause-wrote : goal.returns-in-Check-clause-wrote
returns-in-Check-clause-wrote g c =
    wrote_said c.args.asked.now Check c.args.input.now c.check.result c.tell-in-Check.result (g.K.Sink.held c.args.sink.now) (g.K.Sink.held c.tell-in-Check.new.sink)
    c.in-Check.is tt c.check.ensures c.tell-in-Check.ensures.wrote

pub returns-in-Migrate-clause-wrote : goal.returns-in-Migrate-clause-wrote
returns-in-Migrate-clause-wrote g c =
    wrote_said c.args.asked.now Migrate c.args.input.now c.migrate.result c.tell-in-Migrate.result (g.K.Sink.held c.args.sink.now) (g.K.Sink.held c.tell-in-Migrate.new.sink)
    c.in-Migrate.is tt c.migrate.ensures c.tell-in-Migrate.ensures.wrote

pub returns-in-Gen-clause-wrote : goal.returns-in-Gen-clause-wrote
returns-in-Gen-clause-wrote g c =
    wrote_said c.args.asked.now (Gen c.in-Gen.number) c.args.input.now c.generated.result c.tell-in-Gen.result (g.K.Sink.held c.args.sink.now) (g.K.Sink.held c.tell-in-Gen.new.sink)
    c.in-Gen.is tt c.generated.ensures c.tell-in-Gen.ensures.wrote

pub returns-in-Gen-clause-refused : goal.returns-in-Gen-clause-refused
returns-in-Gen-clause-refused g c = λ is.
    absurd (counted_is c.in-Gen.number c.generated.result c.tell-in-Gen.result (g.K.Sink.held c.args.sink.now) (g.K.Sink.held c.tell-in-Gen.new.sink)
    c.generated.ensures c.tell-in-Gen.ensures.wrote is)
