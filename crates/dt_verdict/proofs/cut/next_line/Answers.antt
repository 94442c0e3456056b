use Rattle.std.proofs.Common.{◌≡◌, ◌+◌, ◌==◌, ◌∷◌, drop, take, subst, ◌∙◌, ap, sym, length, List, ℕ, arith}
use Rattle.std.specs.List.{position_or_len}
use Rattle.std.proofs.lemmas.List.{take_rest}
use Rattle.dt_cert.specs.Text.{line_feed}
use Rattle.dt_verdict.specs.Cut.{lines_from}
use Rattle.dt_verdict.proofs.Cutting.{next_lines, no_line}
use Rattle.dt_verdict.proofs.cut.next_line.Goals as goal

pub returns : goal.returns
returns c =
    let rest : c.in_ok-rest.rest.now ≡ drop c.args.at c.args.text.now = c.in_ok-rest.ensures.lookup.0.2 ∙ take_rest c.args.text.now c.args.at in
    let len = c.len_before-len.result in
    next_lines c.args.text.now c.args.at len (subst (λ (t : List ℕ). position_or_len (λ b. b == line_feed) t ≡ len) rest c.len_before-len.ensures.exact) (omega (arith, ap length rest))
    ∙ ap (λ (t : List ℕ). take len t ∷ lines_from c.args.text.now (c.args.at + len + 1)) (sym rest)

pub returns-then-len-rest : goal.returns-then-len-rest
returns-then-len-rest c =
    let rest : c.in_ok-rest.rest.now ≡ drop c.args.at c.args.text.now = c.in_ok-rest.ensures.lookup.0.2 ∙ take_rest c.args.text.now c.args.at in
    let len = c.len_before-len.result in
    no_line c.args.text.now c.args.at len (subst (λ (t : List ℕ). position_or_len (λ b. b == line_feed) t ≡ len) rest c.len_before-len.ensures.exact) (omega (arith, c.if-len-rest.true, ap length rest))
