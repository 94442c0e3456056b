use Rattle.std.proofs.Common.{◌≡◌, ◌+◌, ap, ◌∙◌, arith, map, ℕ}
use Rattle.std.proofs.lemmas.Result.{IfOk-weaker}
use Rattle.dt_normal.proofs.Rowing.{first_fit, first_groups_are}
use Rattle.dt_normal.proofs.row.first_groups.Goals as goal

pub raised-requires : goal.raised-requires
raised-requires c =
    rw c.deref.ensures.value
    (λ k lt. omega (arith, c.part.ensures.value, c.leaf.ensures.value, first_fit c.args.w.now c.args.classes.now c.args.start c.row_at-next.result.now c.requires.light c.requires.few (omega (arith, c.requires.start, c.len.ensures.value)) c.row_at-next.ensures k lt))

pub returns : goal.returns
returns c =
    let price : c.part.result + c.leaf.result ≡ c.args.w.now.part + c.args.w.now.leaf = omega (arith, c.part.ensures.value, c.leaf.ensures.value) in
    IfOk-weaker c.raised.result _ _ (λ groups is.
    first_groups_are c.args.w.now c.args.classes.now c.args.start c.row_at-next.result.now groups.items (omega (arith, c.requires.start, c.len.ensures.value)) c.row_at-next.ensures
    (is ∙ (ap (λ p. map (λ (cost : ℕ). p + cost) c.deref.result.now) price ∙ ap (map (λ (cost : ℕ). c.args.w.now.part + c.args.w.now.leaf + cost)) c.deref.ensures.value))) c.raised.ensures
