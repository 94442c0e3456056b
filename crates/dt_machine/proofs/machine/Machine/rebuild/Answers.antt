use Rattle.std.proofs.Common.{refl, ap, ◌∙◌, ◌≡◌, false}
use Rattle.dt_script.specs.declared.command.Command.TheVariants.{Rebuild}
use Rattle.dt_type.specs.Basic.{is_basic}
use Rattle.dt_type.specs.Datatype.{entries_of, marks_of}
use Rattle.dt_machine.specs.Best.{tree_in}
use Rattle.dt_machine.specs.Choice.{AreTooWide}
use Rattle.dt_machine.specs.declared.outcome.Change.TheVariants.{AddType}
use Rattle.dt_machine.specs.Refusal.{NoMoreTypes}
use Rattle.dt_machine.specs.State.{with_type, with_count}
use Rattle.dt_machine.proofs.LeastTrees.{rebuild_allowed, rebuild_can, built_derived, best_told, told_by}
use Rattle.dt_machine.proofs.Outcomes.{outcome_of}
use Rattle.dt_machine.proofs.Rows.{contrary}
use Rattle.dt_machine.proofs.machine.Machine.rebuild.Goals as goal

pub returns : goal.returns
returns c =
    let s = c.args.self.now in
    let kept = c.in-Ok.kept in
    let best = c.in-Ok-best.best in
    let ty = c.in_ok-ty.ty in
    let told = best_told s.weights (entries_of kept.ty) best.base best.tree best.cost best.lows.items c.in-Ok-best.ensures.1 in
    let room : ¬ NoMoreTypes s = λ full. contrary c.is_full.result c.if-is_full.false (c.is_full.ensures.1 full) in
    let narrow : ¬ AreTooWide (entries_of kept.ty) = λ wide. contrary c.is_too_wide.result c.if-is_too_wide.false (c.is_too_wide.ensures.wide.1 wide) in
    let derived : is_basic ty ≡ false = ap is_basic c.in_ok-ty.ensures ∙ built_derived best.base (tree_in best) (marks_of kept.ty) in
    outcome_of s (Rebuild c.args.name.now c.args.ty.now) c.in_ok-reply.reply (AddType c.args.name.now (record { ty = ty; committed = false })) _
    (rebuild_allowed s c.args.name.now c.args.ty.now c.in_default.ensures kept c.in-Ok.ensures narrow room c.in-Ok-best.ensures.0)
    (rebuild_can s c.args.name.now c.args.ty.now c.in_default.ensures kept c.in-Ok.ensures ty derived room) (
      kept,
      best.base,
      tree_in best,
      c.in-Ok.ensures,
      told.0,
      c.in_ok-reply.ensures ∙ told_by s.weights best.base (tree_in best) best.cost told.1,
      ap (λ t. with_count (with_type s c.args.name.now (record { ty = t; committed = false }))) c.in_ok-ty.ensures,
    )
    (rw c.in_ok-reply.ensures refl) (rw c.in_ok-name.ensures.same refl)
