use Rattle.std.proofs.Common.{◌≡◌, take}
use Rattle.dt_image.proofs.image.Image.of.Given as goal

abbrev pub invariant-bytes : goal.invariant-bytes
invariant-bytes l = l.copy.items ≡ take l.byte-index l.bytes
