use Rattle.std.proofs.Common.{arith}
use Rattle.dt_verdict.proofs.Cutting.{few_lines}
use Rattle.dt_verdict.proofs.read.lines_left.Goals as goal

pub overflow_add-lines : goal.overflow_add-lines
overflow_add-lines c = omega (arith, c.lines.invariant, few_lines c.args.text.now c.args.at)
