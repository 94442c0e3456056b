use Rattle.std.proofs.Common.{rules, arith}
use Rattle.dt_alike.proofs.Stepping.{even_run, even_short, even_changed, third_inside}
use Rattle.dt_alike.proofs.blocks.even_blocks.Goals as goal

pub returns-then-next-lt2 : goal.returns-then-next-lt2
returns-then-next-lt2 c =
    even_short c.args.entries.now c.args.start c.args.len c.args.next c.requires.inside c.requires.alike (omega arith) c.requires.next

pub returns-then-is_one_step : goal.returns-then-is_one_step
returns-then-is_one_step c =
    let third = third_inside c.args.entries.now c.args.start c.args.len c.args.next c.requires.some (omega arith) c.requires.next.inside in
    even_run c.args.entries.now c.args.start c.args.len c.args.next c.requires.some third c.requires.alike (c.is_one_step.ensures.0 (search rules)) c.requires.next

pub returns-else-is_one_step : goal.returns-else-is_one_step
returns-else-is_one_step c =
    let third = third_inside c.args.entries.now c.args.start c.args.len c.args.next c.requires.some (omega arith) c.requires.next.inside in
    even_changed c.args.entries.now c.args.start c.args.len c.requires.some c.requires.inside third c.requires.alike
    (λ step. let yes = c.is_one_step.ensures.1 step in cc (yes, c.if-is_one_step.false))
