use Rattle.std.proofs.Common.{add-one, arith}
use Rattle.dt_script.proofs.CutLemmas.{cut_at, cut_nowhere}
use Rattle.dt_script.proofs.item.cut.Goals as goal

pub returns-then-b-mark : goal.returns-then-b-mark
returns-then-b-mark c =
    let at = cut_at c.args.mark c.args.word.now c.loop-i.i c.loop-i-test.true c.loop-i.invariant c.if-b-mark.true in
    rw (c.split_at.ensures.front, c.split_at-then-b-mark.ensures.back, add-one c.loop-i.i) at

pub returns : goal.returns
returns c = cut_nowhere c.args.mark c.args.word.now (λ k below. c.loop-i.invariant k (omega (arith, below)))
