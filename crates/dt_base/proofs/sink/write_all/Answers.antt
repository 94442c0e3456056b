use Rattle.std.proofs.Common.{rules}
use Rattle.dt_base.proofs.Passing.{Appends-front_more}
use Rattle.dt_base.proofs.sink.write_all.Goals as goal

pub pieces-preserved : goal.pieces-preserved
pieces-preserved g c = record {
  within = search rules;
  appended = Appends-front_more _ _ _ c.args.piece.now c.pieces.done _ c.pieces.invariant.appended c.in_ok-done.ensures.bytes;
  faults = search rules;
}
