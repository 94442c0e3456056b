use Rattle.std.proofs.Common.{arith}
use Rattle.dt_spelling.specs.Reading.{words_from}
use Rattle.dt_verdict.proofs.Naturals.{natural_bound}
use Rattle.dt_verdict.proofs.words.small.Goals as goal

pub overflow_cast-result : goal.overflow_cast-result
overflow_cast-result c =
    let high = natural_bound c.from.result c.in_ok-number.number (words_from c.args.line.now c.args.at) (words_from c.args.line.now c.in_ok-number.next) c.in_ok-number.ensures in
    omega (arith, high, c.from.ensures)
