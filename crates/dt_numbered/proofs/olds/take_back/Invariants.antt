use Rattle.std.proofs.Common.{◌≤◌, List, take}
use Rattle.dt_space.specs.Space.{Space}
use Rattle.dt_type.specs.declared.datatype.Seen.{Seen}
use Rattle.dt_numbered.specs.Olds.{AreNumbered}
use Rattle.dt_numbered.proofs.Standing.{IsReached}
use Rattle.dt_numbered.proofs.olds.take_back.Given as goal

-- the numbers from here on are taken away
abbrev pub invariant-numbers : goal.invariant-numbers
invariant-numbers l =
    (l.left ≤ l.count) × ((s : Space) (ts : List Seen) → AreNumbered s l.fn.space ts (take l.count l.numbers) → IsReached s l.space l.numbers l.left)

abbrev pub decreases-numbers : goal.decreases-numbers
decreases-numbers l = l.left
