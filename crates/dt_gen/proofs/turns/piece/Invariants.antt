use Rattle.std.proofs.Common.{◌≡◌, ◌+◌, ◌-◌, ◌++◌}
use Rattle.dt_gen.specs.Script.{piece}
use Rattle.dt_gen.proofs.turns.piece.Given as goal

abbrev pub invariant-bytes : goal.invariant-bytes
invariant-bytes l = l.bytes.items ++ piece l.number l.i (l.at + l.len - l.i) ≡ piece l.number l.at l.len
