use Rattle.std.proofs.Common.{◌≡◌, drop}
use Rattle.dt_check.specs.Members.{table_of}
use Rattle.dt_cert.proofs.judging.value_at.Given as goal

abbrev pub invariant-values : goal.invariant-values
invariant-values l = table_of (drop l.low-index l.values) l.start l.len ≡ table_of l.values l.start l.len
