use Rattle.std.proofs.Common.{pos}
use Rattle.dt_offsets.specs.declared.turns.Turns.{Turns}
use Rattle.dt_offsets.specs.Near.{AreTurns}
use Rattle.dt_offsets.proofs.NearNumbers.{all_at}
use Rattle.dt_layout.proofs.Standing.{stand_next}
use Rattle.dt_layout.proofs.levels.deeper.Goals as goal

abbrev no_turns : Turns
no_turns = record { first = pos 0; count = 0; block = 0; jump = pos 0; step = pos 0 }

pub turns-preserved : goal.turns-preserved
turns-preserved c =
    let turns = c.args.turns.now in
    let one = all_at AreTurns turns c.turns.inner-index no_turns c.requires.turns c.turns-test.true in (
      stand_next c.args.levels.items c.turns.levels.items c.in_ok-levels.levels.items turns c.turns.inner-index no_turns c.turns-test.true c.requires.turns one c.turns.invariant.0 c.in_ok-levels.ensures.stand,
      λ some. c.in_ok-levels.ensures.kept (c.turns.invariant.1 some),
    )
