use Rattle.std.proofs.Common.{◌≡◌, ◌-◌, ◌≤◌, take, length}
use Rattle.dt_copy.specs.Copied.{copied}
use Rattle.dt_copy.specs.Side.{at_byte, bytes_of}
use Rattle.dt_copy.proofs.copying.copy_bytes.Given as goal

-- the bytes up to where both sides stand were copied
abbrev pub invariant-pieces : goal.invariant-pieces
invariant-pieces l = record {
  within : l.from.position ≤ length (bytes_of l.initial.from.elements);
  from : l.from ≡ at_byte l.initial.from l.from.position;
  to : l.to ≡ at_byte l.initial.to l.from.position;
  bytes : l.target ≡ copied (take l.from.position (bytes_of l.initial.from.elements)) (bytes_of l.initial.to.elements) l.source l.initial.target;
}

abbrev pub decreases-pieces : goal.decreases-pieces
decreases-pieces l = length (bytes_of l.initial.from.elements) - l.from.position
