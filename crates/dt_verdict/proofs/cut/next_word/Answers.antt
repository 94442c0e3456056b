use Rattle.std.proofs.Common.{◌≡◌, ◌+◌, ◌==◌, ◌∷◌, drop, take, subst, ◌∙◌, ap, sym, List, ℕ}
use Rattle.std.specs.List.{position_or_len}
use Rattle.std.proofs.lemmas.List.{take_rest}
use Rattle.dt_spelling.specs.Reading.{words_from}
use Rattle.dt_spelling.specs.Spelling.{space}
use Rattle.dt_spelling.proofs.Rests.{next_words}
use Rattle.dt_verdict.proofs.cut.next_word.Goals as goal

pub returns : goal.returns
returns c =
    let rest : c.in_ok-rest.rest.now ≡ drop c.args.at c.args.line.now = c.in_ok-rest.ensures.lookup.0.2 ∙ take_rest c.args.line.now c.args.at in
    next_words c.args.line.now c.args.at c.len_before-len.result c.in_ok-rest.ensures.lookup.0.0 (subst (λ (t : List ℕ). position_or_len (λ b. b == space) t ≡ c.len_before-len.result) rest c.len_before-len.ensures.exact)
    ∙ ap (λ (t : List ℕ). take c.len_before-len.result t ∷ words_from c.args.line.now (c.args.at + c.len_before-len.result + 1)) (sym rest)
