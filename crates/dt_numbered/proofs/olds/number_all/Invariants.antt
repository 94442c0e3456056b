use Rattle.std.proofs.Common.{◌≡◌, length, take}
use Rattle.dt_numbered.specs.Olds.{AreNumbered}
use Rattle.dt_numbered.proofs.olds.number_all.Given as goal

-- the datatypes up to here have their numbers
abbrev pub invariant-olds : goal.invariant-olds
invariant-olds l = (length l.numbers.items ≡ length l.olds) × AreNumbered l.fn.space l.space (take l.k l.olds) (take l.k l.numbers.items)
