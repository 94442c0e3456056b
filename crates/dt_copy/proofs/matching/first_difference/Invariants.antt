use Rattle.std.proofs.Common.{◌≡◌, ◌-◌, ◌≤◌, take, length}
use Rattle.dt_copy.specs.Side.{at_byte, kinds_of}
use Rattle.dt_copy.proofs.matching.first_difference.Given as goal

-- so many bytes are of the same kinds
abbrev pub invariant-stretches : goal.invariant-stretches
invariant-stretches l = record {
  within : l.done ≤ length (kinds_of l.initial.from.elements);
  from : l.from ≡ at_byte l.initial.from l.done;
  to : l.to ≡ at_byte l.initial.to l.done;
  same : take l.done (kinds_of l.initial.from.elements) ≡ take l.done (kinds_of l.initial.to.elements);
}

abbrev pub decreases-stretches : goal.decreases-stretches
decreases-stretches l = length (kinds_of l.initial.from.elements) - l.done
