use Rattle.std.proofs.Common.{◌≡◌, ◌==◌, length, arith, subst, ℕ, get_or, eq-eqb}
use Rattle.std.proofs.lemmas.List.Sums.{position_or_len_is}
use Rattle.std.specs.List.{position_or_len}
use Rattle.dt_verdict.proofs.cut.len_before.Goals as goal

pub returns-then-b-stop-clause-exact : goal.returns-then-b-stop-clause-exact
returns-then-b-stop-clause-exact c =
    position_or_len_is (λ b. b == c.args.stop) c.args.bytes.now c.bytes.i 0 (omega arith) c.bytes.invariant (λ _. eq-eqb (get_or c.args.bytes.now c.bytes.i 0) c.args.stop c.if-b-stop.true)

pub returns-clause-exact : goal.returns-clause-exact
returns-clause-exact c =
    let all : c.bytes.i ≡ length c.args.bytes.now = omega arith in
    let P : ℕ → Type 0 = λ n. position_or_len (λ b. b == c.args.stop) c.args.bytes.now ≡ n in
    subst P all (position_or_len_is (λ b. b == c.args.stop) c.args.bytes.now c.bytes.i 0 (omega arith) c.bytes.invariant (λ h. absurd (omega arith)))
