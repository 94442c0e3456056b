use Rattle.std.proofs.Common.{◌≡◌, pos}
use Rattle.dt_names.specs.Names.{bytes_of}
use Rattle.dt_script.specs.declared.command.Fill.TheVariants.{Count}
use Rattle.dt_names.proofs.buffer.Buffer.counting.Given as goal

abbrev pub invariant-loop-i : goal.invariant-loop-i
invariant-loop-i l = l.bytes.items ≡ bytes_of (Count (pos l.i))
