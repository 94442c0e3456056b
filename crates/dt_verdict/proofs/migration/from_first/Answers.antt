use Rattle.std.proofs.Common.{refl, subst}
use Rattle.dt_verdict.specs.declared.stop.Stop.{Stop}
use Rattle.dt_verdict.specs.Cut.{lines_from}
use Rattle.dt_verdict.specs.Lines.{Stops}
use Rattle.dt_verdict.specs.Old.{old_at}
use Rattle.dt_verdict.proofs.Olds.{old_means, old_refused}
use Rattle.dt_verdict.proofs.migration.from_first.Goals as goal

pub returns-in_ok-write_cert-in-Ok : goal.returns-in_ok-write_cert-in-Ok
returns-in_ok-write_cert-in-Ok c = record {
  certificate = _;
  shown = c.in_ok-write_cert-in-Ok.ensures;
  version = refl;
  old = old_means c.args.text.now _ _ _ c.in-Ok.ensures;
}

pub returns-in-Err-At : goal.returns-in-Err-At
returns-in-Err-At c =
    let stops = subst (λ (stop : Stop). Stops c.args.text.now stop (old_at (lines_from c.args.text.now 0))) c.in-Err-At.field-0-is c.in-Err-At.ensures in
    old_refused c.args.text.now (lines_from c.args.text.now c.in-Err-At.at) c.line_number.result stops (cc (c.line_number.ensures, c.in-Err-At.at-is))
