use Rattle.std.proofs.Common.{◌≡◌, ◌∙◌, sym, ap, subst, take, pos}
use Rattle.std.proofs.lemmas.List.{take_all}
use Rattle.dt_offsets.specs.declared.reach.Reach.{Reach}
use Rattle.dt_offsets.specs.declared.turns.Turns.{Turns}
use Rattle.dt_offsets.specs.Near.{AreTurns, IsNearSpan}
use Rattle.dt_offsets.specs.Offsets.{grid_offsets}
use Rattle.dt_offsets.specs.Reach.{summed, reach}
use Rattle.dt_offsets.specs.Span.{reach_of}
use Rattle.dt_offsets.proofs.NearNumbers.{all_at, grid_near, grid_whole_near}
use Rattle.dt_offsets.proofs.Reaches.{grid-step}
use Rattle.dt_offsets.proofs.reach.grid_reach.Goals as goal

abbrev no_turns : Turns
no_turns = record { first = pos 0; count = 0; block = 0; jump = pos 0; step = pos 0 }

pub turns_reach-requires : goal.turns_reach-requires
turns_reach-requires c = all_at AreTurns c.args.turns.now c.loop-inner.inner-index no_turns c.requires.turns c.loop-inner-test.true

pub summed-reach-requires-clause-outer : goal.summed-reach-requires-clause-outer
summed-reach-requires-clause-outer c =
    subst IsNearSpan (sym (ap (λ (r : Reach). r.span) c.loop-inner.invariant)) (grid_near c.args.turns.now c.requires.near c.loop-inner.inner-index)

pub loop-inner-preserved : goal.loop-inner-preserved
loop-inner-preserved c =
    let step = grid-step c.args.turns.now c.loop-inner.inner-index no_turns c.loop-inner-test.true in
    let outer = reach (grid_offsets (take c.loop-inner.inner-index c.args.turns.now)) in
    c.summed-reach.ensures ∙ ap (λ r. summed r c.turns_reach.result) c.loop-inner.invariant ∙ ap (summed outer) c.turns_reach.ensures.value ∙ sym step

pub returns-clause-near : goal.returns-clause-near
returns-clause-near c =
    let all = take_all c.loop-inner.inner-index c.args.turns.now c.loop-inner-test.false in
    let whole = ap (λ ts. reach_of (grid_offsets ts)) (sym all) in
    let span : reach_of (grid_offsets (take c.loop-inner.inner-index c.args.turns.now)) ≡ c.loop-inner.reach.span = sym (ap (λ (r : Reach). r.span) c.loop-inner.invariant) in
    subst IsNearSpan (whole ∙ span) (grid_whole_near c.args.turns.now c.requires.near)
