-- A line, appended word by word.
use Rattle.std.proofs.Common.{◌≡◌, ℕ, List, [], ◌∷◌, ◌++◌, codes, sym, ap, ◌∙◌, append_assoc, append-nil}
use Rattle.std.specs.List.{flat_map}
use Rattle.dt_gen.specs.Script.{spaced, line}

-- words behind a text, each behind a space
abbrev pub worded : List ℕ → List (List ℕ) → List ℕ
worded text [] = text
worded text (word ∷ words) = worded (text ++ spaced word) words

worded_all : (text : List ℕ) (words : List (List ℕ)) → worded text words ≡ text ++ flat_map spaced words
worded_all text [] = sym (append-nil text)
worded_all text (word ∷ words) = worded_all (text ++ spaced word) words ∙ append_assoc text (spaced word) (flat_map spaced words)

pub line_done : (text first : List ℕ) (words : List (List ℕ)) → worded (text ++ first) words ++ codes "\n" ≡ text ++ line first words
unfolding line
line_done text first words =
    ap (λ x. x ++ codes "\n") (worded_all (text ++ first) words ∙ append_assoc text first (flat_map spaced words))
    ∙ append_assoc text (first ++ flat_map spaced words) (codes "\n")
