use Rattle.std.proofs.Common.{◌+◌, ◌-◌, ◌∙◌, arith}
use Rattle.dt_verdict.specs.Cut.{lines_from}
use Rattle.dt_verdict.proofs.Copying.{one_copied}
use Rattle.dt_verdict.proofs.copy.push_lines.Goals as goal

pub lines-preserved : goal.lines-preserved
lines-preserved c =
    rw (c.in_ok-push.ensures.items, c.in_ok-extend_from_slice.ensures.items)
    (one_copied c.lines.out.items c.in-Some.line.now (lines_from c.args.text.now c.in-Some.after) (lines_from c.args.text.now c.lines.next) (c.args.number - c.lines.counter) (c.args.number - (c.lines.counter + 1))
    (omega (arith, c.lines-test.true)) c.in-Some.ensures
    ∙ c.lines.invariant)
