use Rattle.std.proofs.Common.{arith, refl}
use Rattle.dt_verdict.specs.Classed.{own_value}
use Rattle.dt_verdict.proofs.Classing.{kept, left_out}
use Rattle.dt_verdict.proofs.classed.list_length.Goals as goal
use Rattle.dt_verdict.proofs.classed.list_length.Goals.{then-low-gt0+in_ok-push, else-low-gt0}

pub starts-preserved : goal.starts-preserved
starts-preserved c =
    let table = own_value c.args.classes.now c.args.numbers.now in
    elim c.if-low-gt0.branch [
      | then-low-gt0+in_ok-push w ↦
          rw (w.values-is, w.in_ok-push.ensures.items)
          (kept table c.args.len c.starts.start c.args.values.now.items c.starts.values.items c.own_value-low.result _ c.own_value-low.ensures refl w.if-low-gt0.true c.starts.invariant)
      | else-low-gt0 w ↦
          rw w.values-is (left_out table c.args.len c.starts.start c.args.values.now.items c.starts.values.items c.own_value-low.result _ c.own_value-low.ensures refl (omega (arith, w.if-low-gt0.false)) c.starts.invariant)
    ]
