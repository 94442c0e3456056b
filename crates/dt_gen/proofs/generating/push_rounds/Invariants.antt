use Rattle.std.proofs.Common.{◌≡◌, ◌-◌}
use Rattle.dt_gen.specs.Script.{rounds_at}
use Rattle.dt_gen.proofs.Loops.{after}
use Rattle.dt_gen.proofs.generating.push_rounds.Given as goal

abbrev pub invariant-rounds : goal.invariant-rounds
invariant-rounds l = after l.out.items l.draws (rounds_at (100 - l.number) l.number) ≡ after l.fn.out.items l.fn.draws (rounds_at 100 0)
