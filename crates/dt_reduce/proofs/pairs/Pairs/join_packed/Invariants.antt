use Rattle.std.proofs.Common.{◌≡◌, ◌-◌, ◌≤◌, ◌++◌, take, drop, length}
use Rattle.dt_kinds.specs.declared.kind.Rep.TheVariants.{Native}
use Rattle.dt_map.specs.Packed.{total}
use Rattle.dt_reduce.specs.Folded.{kinds_of}
use Rattle.dt_reduce.specs.Kept.{joined_packed}
use Rattle.dt_reduce.specs.Paired.{at_count}
use Rattle.dt_reduce.proofs.pairs.Pairs.join_packed.Given as goal

-- the words of the elements up to here were joined
abbrev pub invariant-rows : goal.invariant-rows
invariant-rows g l = record {
  passed : l.self ≡ at_count l.fn.self l.self.done;
  place : l.at ≡ total Native (take l.self.done l.fn.self.elements);
  bytes : l.target ≡ joined_packed g.L.Law.join (kinds_of (take l.self.done l.fn.self.elements)) l.source l.fn.target ++ drop l.at l.fn.target;
  within : l.self.done ≤ length l.fn.self.elements;
}

abbrev pub decreases-rows : goal.decreases-rows
decreases-rows g l = length l.fn.self.elements - l.self.done
