use Rattle.std.proofs.Common.{◌≡◌, take}
use Rattle.dt_map.specs.Digest.{digest_of}
use Rattle.dt_type.specs.Shape.{placed_parts}
use Rattle.dt_type.proofs.digest.of_parts.Given as goal

abbrev pub invariant-loop-part : goal.invariant-loop-part
invariant-loop-part l = l.digest ≡ digest_of (placed_parts (take l.part-index l.parts))
