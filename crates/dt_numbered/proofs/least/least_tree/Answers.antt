use Rattle.std.proofs.Common.{◌≡◌, length, rules, refl, sym, ap, subst, ◌∙◌, arith}
use Rattle.std.specs.Vec.{vec_len}
use Rattle.dt_normal.specs.Bests.{IsBest}
use Rattle.dt_type.specs.Datatype.{entries_of}
use Rattle.dt_numbered.proofs.Telling.{best_told, least_answer}
use Rattle.dt_numbered.proofs.least.least_tree.Goals as goal

pub returns : goal.returns
returns c =
    let a = c.args in
    let best = c.in-Ok-best_of.best in
    let many : length c.in-Ok-text_of.text.items ≡ vec_len c.in-Ok-text_of.text = omega arith in
    let light = c.in-Some.ensures.0 in
    let is = subst (λ w. IsBest w (entries_of c.in-Ok.kept.ty) best) c.in-Some.ensures.1 c.in-Ok-best_of.ensures.1 in
    least_answer a.space.now a.number a.w.now c.in-Ok.kept best c.deref.result.now a.out.now c.put_text.new.out a.told.now _ c.put_text.result c.in-Ok.ensures light c.in-Ok-best_of.ensures.0
    (best_told _ (entries_of c.in-Ok.kept.ty) best _ is (search rules) refl (c.len.ensures ∙ (sym many ∙ ap length c.in-Ok-text_of.ensures)))
    (c.deref.ensures.value ∙ c.in-Ok-text_of.ensures) c.put_text.ensures
