use Rattle.std.proofs.Common.{◌≡◌}
use Rattle.dt_elems.specs.Taking.{with_bytes}
use Rattle.dt_elems.proofs.overlap.mark.Given as goal

abbrev pub invariant-bytes : goal.invariant-bytes
invariant-bytes l = l.taken ≡ with_bytes l.fn.taken l.start l.k
