use Rattle.std.proofs.Common.{◌≡◌, true}
use Rattle.dt_elems.specs.Taking.{are_free}
use Rattle.dt_elems.proofs.overlap.has_room.Given as goal

abbrev pub invariant-bytes : goal.invariant-bytes
invariant-bytes l = are_free l.taken l.start l.k ≡ true
