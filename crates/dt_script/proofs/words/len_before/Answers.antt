use Rattle.std.proofs.Common.{◌≡◌, length, arith, sym, subst, ◌∙◌, ℕ}
use Rattle.std.proofs.lemmas.List.Sums.{position_or_len_is}
use Rattle.std.specs.List.{position_or_len}
use Rattle.dt_script.proofs.words.len_before.Goals as goal

pub returns-then-ends-clause-exact : goal.returns-then-ends-clause-exact
returns-then-ends-clause-exact g c =
    position_or_len_is g.E.Ends.ends c.args.bytes.now c.loop-i.i 0 (omega arith) c.loop-i.invariant (λ _. sym c.ends.ensures ∙ c.if-ends.true)

pub returns-clause-exact : goal.returns-clause-exact
returns-clause-exact g c =
    let all : c.loop-i.i ≡ length c.args.bytes.now = omega arith in
    let P : ℕ → Type 0 = λ n. position_or_len g.E.Ends.ends c.args.bytes.now ≡ n in
    subst P all (position_or_len_is g.E.Ends.ends c.args.bytes.now c.loop-i.i 0 (omega arith) c.loop-i.invariant (λ h. absurd (omega arith)))
