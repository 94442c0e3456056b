use Rattle.dt_alike.proofs.Reaching.{one_passed}
use Rattle.dt_alike.proofs.reach.step_back.Goals as goal

pub others-preserved : goal.others-preserved
others-preserved c =
    one_passed c.args.entries.now c.args.one c.others.other c.reach_of.result c.args.reaches.now c.others.reaches c.others.invariant c.others-test.true
    c.reach_of.ensures
