use Rattle.std.proofs.Common.{◌≡◌, ◌==◌, length, arith, subst, ℕ, get_or, eq-eqb}
use Rattle.std.proofs.lemmas.List.Sums.{position_or_len_is}
use Rattle.std.specs.List.{position_or_len}
use Rattle.dt_spelling.specs.Spelling.{space}
use Rattle.dt_spelling.proofs.items.len_before_space.Goals as goal

pub returns-then-b-eq32-clause-exact : goal.returns-then-b-eq32-clause-exact
returns-then-b-eq32-clause-exact c =
    position_or_len_is (λ b. b == space) c.args.bytes.now c.loop-i.i 0 (omega arith) c.loop-i.invariant (λ _. eq-eqb (get_or c.args.bytes.now c.loop-i.i 0) space c.if-b-eq32.true)

pub returns-clause-exact : goal.returns-clause-exact
returns-clause-exact c =
    let all : c.loop-i.i ≡ length c.args.bytes.now = omega arith in
    let P : ℕ → Type 0 = λ n. position_or_len (λ b. b == space) c.args.bytes.now ≡ n in
    subst P all (position_or_len_is (λ b. b == space) c.args.bytes.now c.loop-i.i 0 (omega arith) c.loop-i.invariant (λ h. absurd (omega arith)))
