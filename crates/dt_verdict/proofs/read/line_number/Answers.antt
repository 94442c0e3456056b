use Rattle.std.proofs.Common.{arith}
use Rattle.dt_verdict.proofs.Cutting.{few_lines}
use Rattle.dt_verdict.proofs.read.line_number.Goals as goal

pub overflow_add-result : goal.overflow_add-result
overflow_add-result c = omega (arith, c.saturating_sub.ensures, c.lines_left.ensures, few_lines c.args.text.now 0)
