use Rattle.std.proofs.Common.{◌≡◌, ◌≤◌, [], length}
use Rattle.dt_call.specs.Progress.{Progress}
use Rattle.dt_call.proofs.call.run.Given as goal

-- the lines up to here were run and answered, and no fault was forgotten
abbrev pub invariant-lines : goal.invariant-lines
invariant-lines g l = record {
  progress : Progress l.input l.rest l.machine l.accepted (g.K.Sink.held l.fn.sink) (g.K.Sink.held l.sink);
  empty : l.out.items ≡ [];
  faults : g.K.Sink.faults l.fn.sink ≤ g.K.Sink.faults l.sink;
}

abbrev pub decreases-lines : goal.decreases-lines
decreases-lines g l = length l.rest
