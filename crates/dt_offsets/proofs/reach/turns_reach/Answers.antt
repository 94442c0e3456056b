use Rattle.std.proofs.Common.{◌∙◌, sym, ap, subst}
use Rattle.dt_offsets.specs.declared.reach.Reach.{Reach}
use Rattle.dt_offsets.specs.Near.{IsNearSpan}
use Rattle.dt_offsets.proofs.NearNumbers.{turns_near}
use Rattle.dt_offsets.proofs.Reaches.{reach-turns}
use Rattle.dt_offsets.proofs.reach.turns_reach.Goals as goal

pub returns-clause-value : goal.returns-clause-value
returns-clause-value c = c.counted.ensures ∙ reach-turns c.args.turns.now c.turns_span.result c.turns_span.ensures

pub returns-clause-near : goal.returns-clause-near
returns-clause-near c =
    subst IsNearSpan (sym (ap (λ (r : Reach). r.span) c.counted.ensures ∙ c.turns_span.ensures)) (turns_near c.args.turns.now c.requires)
