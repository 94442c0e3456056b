use Rattle.std.proofs.Common.{◌≡◌, ◌-◌}
use Rattle.dt_gen.specs.Script.{places_at}
use Rattle.dt_gen.proofs.Loops.{after}
use Rattle.dt_gen.proofs.generating.push_places.Given as goal

abbrev pub invariant-places : goal.invariant-places
invariant-places l = after l.out.items l.draws (places_at (1024 - l.i) l.i) ≡ after l.fn.out.items l.fn.draws (places_at 1024 0)
