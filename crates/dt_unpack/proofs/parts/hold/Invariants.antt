use Rattle.std.proofs.Common.{◌≡◌, ◌++◌, take}
use Rattle.dt_unpack.proofs.parts.hold.Given as goal

-- the bytes up to here are held
abbrev pub invariant-bytes : goal.invariant-bytes
invariant-bytes l = l.held.items ≡ l.fn.held.items ++ take l.byte-index l.bytes
