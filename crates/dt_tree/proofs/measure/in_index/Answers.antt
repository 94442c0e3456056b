use Rattle.std.proofs.Common.{◌≡◌, ◌∙◌, Option, Some, None, refl, sym, arith, rules}
use Rattle.std.specs.Option.{IsSome}
use Rattle.dt_offsets.specs.declared.marks.Marks.{Marks}
use Rattle.dt_map.specs.Runs.{placed_at, run}
use Rattle.dt_tree.proofs.Measures.{short_measure, measure_blocks}
use Rattle.dt_tree.proofs.Spans.{near_reach, some_reach}
use Rattle.dt_tree.proofs.measure.in_index.Goals as goal

is_some : (o : Option Marks) → (o ≡ None → ⊥) → IsSome o
is_some None h = absurd (h refl)
is_some (Some m) h = search rules

pub unwrap-reach-requires : goal.unwrap-reach-requires
unwrap-reach-requires c = is_some c.around.result (λ e. some_reach c.args.places.now c.requires.placed (sym c.around.ensures ∙ e))

pub at-requires-clause-reach : goal.at-requires-clause-reach
at-requires-clause-reach c =
    let near = near_reach c.args.places.now c.unwrap-reach.result c.requires.places (sym c.unwrap-reach.ensures ∙ c.around.ensures) in
    (omega (arith, near.0), omega (arith, near.1))

pub returns : goal.returns
returns c = λ es m.
    short_measure (placed_at c.args.places.now (run c.args.block es)) c.at.result c.short.result c.short.ensures
    (measure_blocks c.args.places.now c.args.block es c.unwrap-reach.result c.in_block.result.span c.at.result.span c.in_block.result.align c.at.result.align
    c.requires.placed (sym c.unwrap-reach.ensures ∙ c.around.ensures) c.at.ensures.span c.at.ensures.align (c.in_block.ensures.value es m))
