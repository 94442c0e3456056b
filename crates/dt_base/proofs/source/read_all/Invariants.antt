use Rattle.std.proofs.Common.{◌≡◌, ◌-◌, ◌≤◌, length}
use Rattle.std.specs.Io.KnownBytes.{Consumes}
use Rattle.dt_base.specs.Counter.{counted}
use Rattle.dt_base.proofs.source.read_all.Given as goal

-- the bytes so far are those that were taken, at most limit
abbrev pub invariant-turns : goal.invariant-turns
invariant-turns g l = record {
  fits : length l.bytes.items ≤ l.limit;
  consumed : Consumes (g.S.Source.left l.initial.source) (g.S.Source.left l.source) l.bytes.items;
  count : g.S.Source.taken l.source ≡ counted (g.S.Source.taken l.initial.source) (length l.bytes.items);
  faults : g.S.Source.faults l.initial.source ≤ g.S.Source.faults l.source;
}

-- each turn but the last takes a byte, so there are at most limit + 1
abbrev pub decreases-turns : goal.decreases-turns
decreases-turns g l = l.limit - length l.bytes.items
