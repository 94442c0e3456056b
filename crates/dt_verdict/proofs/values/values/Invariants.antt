use Rattle.std.proofs.Common.{◌≡◌, length}
use Rattle.dt_cert.specs.Read.{version_of}
use Rattle.dt_spelling.specs.Reading.{with_front}
use Rattle.dt_verdict.specs.Cut.{lines_from}
use Rattle.dt_verdict.specs.Values.{before_all, values_at}
use Rattle.dt_verdict.proofs.values.values.Given as goal

abbrev pub invariant-values : goal.invariant-values
invariant-values l =
    values_at (version_of l.version) l.classes before_all (lines_from l.text l.fn.at) ≡ with_front l.values.items (values_at (version_of l.version) l.classes l.last (lines_from l.text l.next))

abbrev pub decreases-values : goal.decreases-values
decreases-values l = length (lines_from l.text l.next)
