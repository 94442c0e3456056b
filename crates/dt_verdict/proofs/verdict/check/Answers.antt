use Rattle.std.proofs.Common.{refl}
use Rattle.dt_cert.specs.Read.{certificate_in}
use Rattle.dt_cert.proofs.Showing.{holds_is_least}
use Rattle.dt_verdict.proofs.verdict.check.Goals as goal

pub returns-in-Ok : goal.returns-in-Ok
returns-in-Ok c =
    let certificate = certificate_in c.in-Ok.c in
    let shown = c.in-Ok.ensures in
    record { certificate = certificate; shown = shown; costs = refl; least = holds_is_least certificate shown.holds }
