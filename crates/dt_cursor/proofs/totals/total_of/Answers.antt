use Rattle.std.proofs.Common.{arith, ◌∙◌}
use Rattle.dt_cursor.proofs.Sums.{some_code, size_of_program}
use Rattle.dt_cursor.proofs.totals.total_of.Goals as goal

pub returns-then-len-eq0-clause-value : goal.returns-then-len-eq0-clause-value
returns-then-len-eq0-clause-value c es stands =
    let some = some_code c.args.program.now stands.0 stands.1 in
    let none = c.if-len-eq0.true in
    let long = c.len-len.ensures.value in
    absurd (omega (arith, some, none, long))

pub returns-clause-value : goal.returns-clause-value
returns-clause-value c es stands = c.body_total.ensures stands.0 stands.1 ∙ size_of_program c.args.program.now c.args.rep es stands
