use Rattle.std.proofs.Common.{◌≡◌, ◌-◌, ◌≤◌, take, length}
use Rattle.dt_reduce.specs.Paired.{at_count, source_of, target_of}
use Rattle.dt_reduce.specs.Reduced.{reduced}
use Rattle.dt_reduce.proofs.pairs.Pairs.join_all.Given as goal

-- the elements up to here were joined
abbrev pub invariant-rows : goal.invariant-rows
invariant-rows g l = record {
  passed : l.self ≡ at_count l.fn.self l.self.done;
  bytes : l.target ≡ reduced g.L.Law.join (take l.self.done (source_of l.fn.self)) (take l.self.done (target_of l.fn.self)) l.source l.fn.target;
  within : l.self.done ≤ length l.fn.self.elements;
}

abbrev pub decreases-rows : goal.decreases-rows
decreases-rows g l = length l.fn.self.elements - l.self.done
