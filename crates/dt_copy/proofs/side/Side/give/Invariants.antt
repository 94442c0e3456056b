use Rattle.std.proofs.Common.{◌≡◌, ◌-◌, ◌≤◌, take, length}
use Rattle.dt_kinds.specs.declared.kind.Rep.TheVariants.{Native}
use Rattle.dt_map.specs.Setting.{set_each}
use Rattle.dt_copy.specs.Side.{onward, to_come}
use Rattle.dt_copy.proofs.side.Side.give.Given as goal

-- so many bytes were given
abbrev pub invariant-rows : goal.invariant-rows
invariant-rows l = record {
  within : l.done ≤ length l.piece;
  bytes : l.buffer ≡ set_each Native (take l.done (to_come l.initial.self)) l.initial.buffer l.piece;
  moved : l.self ≡ onward l.initial.self l.done;
}

abbrev pub decreases-rows : goal.decreases-rows
decreases-rows l = length l.piece - l.done
