-- whether words follow what was read
use Rattle.std.proofs.Common.{◌≡◌, ℕ, ◌≤◌, ◌<◌, List, [], ◌∷◌, drop, length, Result, Ok, Err, refl, sym, ap, ◌∙◌, arith}
use Rattle.dt_spelling.specs.Reading.{words_from}
use Rattle.dt_spelling.specs.Spelling.{Words, words_in}
use Rattle.dt_spelling.proofs.Rests.{from_within, from_past}
use Rattle.dt_verdict.specs.Reading.{no_more}

some_words : {A : Type 0} (x : A) (text : List ℕ) → no_more x (words_in text) ≡ Err (words_in text)
some_words x [] = refl
some_words x (b ∷ text) = grind arith

pub none_past : {A : Type 0} (x : A) (text : List ℕ) (at : ℕ) → length text < at → no_more x (words_from text at) ≡ Ok x
none_past x text at gt = ap (no_more x) (from_past text at gt)

pub some_within : {A : Type 0} (x : A) (text : List ℕ) (at : ℕ) → at ≤ length text → no_more x (words_from text at) ≡ Err (words_from text at)
some_within {A} x text at le =
    let e = from_within text at le in
    ap (no_more x) e ∙ (some_words x (drop at text) ∙ ap (λ (ws : Words). let r : Result A Words = Err ws in r) (sym e))

pub ruleset ends = (none_past, some_within)
