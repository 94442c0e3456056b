use Rattle.std.proofs.Common.{subst}
use Rattle.dt_cert.specs.Read.{certificate_in}
use Rattle.dt_verdict.specs.declared.stop.Stop.{Stop}
use Rattle.dt_verdict.specs.Cut.{lines_from}
use Rattle.dt_verdict.specs.Lines.{Stops}
use Rattle.dt_verdict.specs.Whole.{text_read}
use Rattle.dt_verdict.proofs.Refusals.{read_means, refused_at}
use Rattle.dt_verdict.proofs.read.read_cert.Goals as goal

pub returns-in-Ok : goal.returns-in-Ok
returns-in-Ok c = read_means c.args.text.now (certificate_in c.in-Ok.c) c.in-Ok.ensures

pub returns-in-Err-At : goal.returns-in-Err-At
returns-in-Err-At c =
    let stops = subst (λ (stop : Stop). Stops c.args.text.now stop (text_read c.args.text.now)) c.in-Err-At.field-0-is c.in-Err-At.ensures in
    refused_at c.args.text.now (lines_from c.args.text.now c.in-Err-At.at) c.line_number.result stops c.line_number.ensures
