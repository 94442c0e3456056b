use Rattle.std.proofs.Common.{◌≡◌, ◌≤◌, take}
use Rattle.dt_layout.specs.Body.{Parts, number_of}
use Rattle.dt_layout.specs.Written.{AreWritten}
use Rattle.dt_layout.proofs.write.+write.Given as goal

abbrev pub decreases-write : goal.decreases-write
decreases-write l = goal.size-write l

-- the bodies of the parts up to here are appended
abbrev pub invariant-parts : goal.invariant-parts
invariant-parts l = (parts : Parts) × AreWritten (take l.part-index l.part-items) l.initial.out.items l.out.items parts × (l.written ≡ number_of parts) × (l.written ≤ l.part-index)
