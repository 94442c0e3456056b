use Rattle.dt_layout.proofs.Standing.{stand_pair}
use Rattle.dt_layout.proofs.levels.settled.Goals as goal

pub returns-clause-stand : goal.returns-clause-stand
returns-clause-stand c =
    stand_pair c.args.levels.items c.pop.new.self.items c.pop-2.new.self.items c.push-2.new.self.items c.in-Some-pop.outer c.in-Some.inner c.in-Some-paired.pair c.in-Some.ensures.items c.in-Some-pop.ensures.items
    c.in_ok-push-4.ensures.items c.requires c.in-Some-paired.ensures
