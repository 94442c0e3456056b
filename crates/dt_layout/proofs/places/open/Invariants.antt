use Rattle.std.proofs.Common.{◌≡◌, ◌++◌, replicate}
use Rattle.dt_layout.specs.declared.instr.Instr.TheVariants.{End}
use Rattle.dt_layout.proofs.places.open.Given as goal

-- the places up to here are kept
abbrev pub invariant-heads : goal.invariant-heads
invariant-heads l = l.out.items ≡ l.fn.out.items ++ replicate l._head End
