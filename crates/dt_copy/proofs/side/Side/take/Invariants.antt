use Rattle.std.proofs.Common.{◌≡◌, ◌-◌, ◌++◌, ◌≤◌, drop, length}
use Rattle.dt_copy.specs.Side.{onward, next_bytes, rest_of}
use Rattle.dt_copy.proofs.side.Side.take.Given as goal

-- so many bytes were taken
abbrev pub invariant-rows : goal.invariant-rows
invariant-rows l = record {
  within : l.done ≤ length l.initial.out;
  to_come : l.done ≤ rest_of l.initial.self;
  bytes : l.out ≡ next_bytes l.initial.self l.buffer l.done ++ drop l.done l.initial.out;
  moved : l.self ≡ onward l.initial.self l.done;
}

abbrev pub decreases-rows : goal.decreases-rows
decreases-rows l = length l.initial.out - l.done
