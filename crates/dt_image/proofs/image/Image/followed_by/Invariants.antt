use Rattle.std.proofs.Common.{◌≡◌, ◌++◌, replicate}
use Rattle.dt_image.proofs.image.Image.followed_by.Given as goal

abbrev pub invariant-times : goal.invariant-times
invariant-times l = l.bytes.items ≡ l.initial.bytes.items ++ replicate l.counter l.byte
