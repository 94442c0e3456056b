use Rattle.std.proofs.Common.{refl, ap, ◌∙◌}
use Rattle.dt_script.specs.declared.command.Command.TheVariants.{Normalise}
use Rattle.dt_type.specs.Datatype.{entries_of}
use Rattle.dt_machine.specs.Best.{tree_in}
use Rattle.dt_machine.specs.declared.outcome.Change.TheVariants.{AddCost}
use Rattle.dt_machine.specs.State.{with_cost, with_count}
use Rattle.dt_machine.proofs.LeastTrees.{normalise_without, normalise_allowed, best_told, told_by}
use Rattle.dt_machine.proofs.Outcomes.{outcome_of}
use Rattle.dt_machine.proofs.machine.Machine.normalise.Goals as goal

pub returns-in-Err-best : goal.returns-in-Err-best
returns-in-Err-best c = normalise_without c.args.self.now c.args.ty.now c.in-Ok.kept c.in-Ok.ensures c.in-Err-best.stop c.in-Err-best.ensures

pub returns : goal.returns
returns c =
    let s = c.args.self.now in
    let kept = c.in-Ok.kept in
    let best = c.in-Ok-best.best in
    let told = best_told s.weights (entries_of kept.ty) best.base best.tree best.cost best.lows.items c.in-Ok-best.ensures.1 in
    outcome_of s (Normalise c.args.ty.now) c.in_ok-reply.reply (AddCost best.cost) _
    (normalise_allowed s c.args.ty.now kept c.in-Ok.ensures c.in-Ok-best.ensures.0) tt (
      kept,
      best.base,
      tree_in best,
      c.in-Ok.ensures,
      told.0,
      c.in_ok-reply.ensures ∙ told_by s.weights best.base (tree_in best) best.cost told.1,
      ap (λ n. with_count (with_cost s n)) told.1,
    )
    (rw c.in_ok-reply.ensures refl) refl
