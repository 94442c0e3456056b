use Rattle.std.proofs.Common.{rules}
use Rattle.dt_alike.proofs.Reaching.{reach_end, reach_one, reach_more}
use Rattle.dt_alike.proofs.reach.reach_of.Goals as goal

pub returns-then-next-eq0 : goal.returns-then-next-eq0
returns-then-next-eq0 c =
    reach_end c.args.entries.now c.args.one c.args.other c.args.next c.requires.one c.requires.other (c.is_same.ensures.0 (search rules)) c.requires.next
    c.if-next-eq0.true

pub returns-then-is_one_step : goal.returns-then-is_one_step
returns-then-is_one_step c =
    reach_more c.args.entries.now c.args.one c.args.other c.args.next c.requires.one c.requires.other (c.is_same.ensures.0 (search rules)) c.requires.next
    c.if-next-eq0.false (c.is_one_step.ensures.0 (search rules))

pub returns-else-is_one_step : goal.returns-else-is_one_step
returns-else-is_one_step c =
    reach_one c.args.entries.now c.args.one c.args.other c.requires.one c.requires.other (c.is_same.ensures.0 (search rules)) (λ step. let yes = c.is_one_step.ensures.1 step in cc (yes, c.if-is_one_step.false))
