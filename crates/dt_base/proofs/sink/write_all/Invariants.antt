use Rattle.std.proofs.Common.{◌-◌, ◌≤◌, length, take}
use Rattle.std.specs.Io.KnownBytes.{Appends}
use Rattle.dt_base.proofs.sink.write_all.Given as goal

-- the front that is done was appended
abbrev pub invariant-pieces : goal.invariant-pieces
invariant-pieces g l = record {
  within : l.done ≤ length l.piece;
  appended : Appends (g.K.Sink.held l.initial.sink) (g.K.Sink.held l.sink) (take l.done l.piece);
  faults : g.K.Sink.faults l.initial.sink ≤ g.K.Sink.faults l.sink;
}

abbrev pub decreases-pieces : goal.decreases-pieces
decreases-pieces g l = length l.piece - l.done
