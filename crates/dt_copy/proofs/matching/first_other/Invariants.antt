use Rattle.std.proofs.Common.{◌≡◌, ◌-◌, ◌≤◌, take, drop, replicate}
use Rattle.dt_copy.specs.Side.{onward, kinds_of}
use Rattle.dt_copy.proofs.matching.first_other.Given as goal

-- so many bytes are of the kind
abbrev pub invariant-stretches : goal.invariant-stretches
invariant-stretches l = record {
  within : l.done ≤ l.of.bytes;
  moved : l.side ≡ onward l.initial.side l.done;
  same : take l.done (drop l.initial.side.position (kinds_of l.initial.side.elements)) ≡ replicate l.done l.of.kind;
}

abbrev pub decreases-stretches : goal.decreases-stretches
decreases-stretches l = l.of.bytes - l.done
