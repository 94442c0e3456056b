use Rattle.std.proofs.Common.{ap}
use Rattle.dt_cert.specs.Written.{certificate_of}
use Rattle.dt_machine.proofs.LeastTrees.{normalise_many}
use Rattle.dt_words.specs.Certified.{IsCertificateOf}
use Rattle.dt_words.proofs.certificate.certificate.Goals as goal

pub returns-in-Err-TooMany : goal.returns-in-Err-TooMany
returns-in-Err-TooMany c =
    normalise_many c.args.machine.now c.args.name.now c.in-Ok.kept c.in-Ok.ensures (rw c.in-Err-TooMany.field-0-is at c.in-Err-TooMany.ensures)

pub returns : goal.returns
returns c = record {
  kept = c.in-Ok.kept;
  stands = c.in-Ok.ensures;
  certificate = certificate_of c.weights-weights.result c.in-Ok-flatten.map.entries c.in-Ok-normalise.best;
  shown = c.in_ok-text.ensures;
  entries = ap (λ m. m.entries) c.in-Ok-flatten.ensures.0;
  weights = c.weights-weights.ensures;
}
