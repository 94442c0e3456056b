use Rattle.std.proofs.Common.{arith}
use Rattle.dt_numbered.proofs.Standing.{stands_same, reached_less, reached_all}
use Rattle.dt_numbered.proofs.olds.take_back.Goals as goal

pub numbers-init : goal.numbers-init
numbers-init c = (omega arith, λ s ts all. record { before = c.args.space.now; types = ts; numbered = all; same = stands_same c.args.space.now })

pub numbers-preserved : goal.numbers-preserved
numbers-preserved c =
    let low = c.numbers.invariant.0 in
    let some = c.numbers-test.true in
    let inside = c.requires in (
      omega (arith, low, some),
      λ s ts all. reached_less s c.numbers.space c.take_one.new.space c.args.numbers.now c.numbers.left _ some (omega (arith, low, inside))
          (λ b t ty one same. c.take_one.ensures b t ty one same) (c.numbers.invariant.1 s ts all),
    )

pub returns : goal.returns
returns c =
    let end = c.numbers-test.false in
    λ s ts all. reached_all s c.numbers.space c.args.numbers.now c.numbers.left (omega (arith, end)) (c.numbers.invariant.1 s ts all)
