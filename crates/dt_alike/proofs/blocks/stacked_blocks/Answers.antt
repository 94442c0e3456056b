use Rattle.std.proofs.Common.{rules}
use Rattle.dt_alike.proofs.Stepping.{stacked_run, stacked_alone}
use Rattle.dt_alike.proofs.blocks.stacked_blocks.Goals as goal

pub returns-then-is_step : goal.returns-then-is_step
returns-then-is_step c =
    stacked_run c.args.entries.now c.args.start c.args.len c.args.natural c.args.next c.requires.some c.requires.inside c.requires.alike c.requires.natural
    (c.is_step.ensures.0 (search rules)) c.requires.next

pub returns-else-is_step : goal.returns-else-is_step
returns-else-is_step c =
    stacked_alone c.args.entries.now c.args.start c.args.len c.args.natural c.requires.some c.requires.inside c.requires.natural
    (λ step. let yes = c.is_step.ensures.1 step in cc (yes, c.if-is_step.false))
