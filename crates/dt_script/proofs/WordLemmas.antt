-- The first word of a line that doesn't begin with a blank ends at its first blank.
use Rattle.std.proofs.Common.{◌≡◌, ◌≢◌, ℕ, suc, ◌+◌, true, false, cond, not, List, [], ◌∷◌, take, drop, refl, ap, sym, subst, ◌∙◌, arith}
use Rattle.std.specs.List.{filter, position_or_len}
use Rattle.dt_script.specs.Words.{is_blank, begins_blank, is_empty, onto_first, pieces_of, words_of}

-- the pieces behind a piece
abbrev pieces_after : List ℕ → List (List ℕ)
pieces_after [] = []
pieces_after (b ∷ bytes) = pieces_of bytes

abbrev length_to_blank : List ℕ → ℕ
length_to_blank line = position_or_len is_blank line

one_more : (n : ℕ) → 1 + n ≡ suc n
one_more n = omega arith

first_piece : (line : List ℕ) → pieces_of line ≡ take (length_to_blank line) line ∷ pieces_after (drop (length_to_blank line) line)
first_piece [] = refl
first_piece (b ∷ bytes) =
    let n = length_to_blank bytes in
    elim (is_blank b) as (λ v. cond v ([] ∷ pieces_of bytes) (onto_first b (pieces_of bytes))
    ≡ take (cond (not v) (1 + n) 0) (b ∷ bytes) ∷ pieces_after (drop (cond (not v) (1 + n) 0) (b ∷ bytes)))
    [ true ↦ refl | false ↦ rw (one_more n) (ap (onto_first b) (first_piece bytes)) ]

abbrev nonempty : List (List ℕ) → List (List ℕ)
nonempty pieces = filter (λ piece. not (is_empty piece)) pieces

words_after : (line : List ℕ) → nonempty (pieces_after (drop (length_to_blank line) line)) ≡ words_of (drop (length_to_blank line) line)
words_after [] = refl
words_after (b ∷ bytes) =
    let n = length_to_blank bytes in
    let blank : is_blank b ≡ true → words_of (b ∷ bytes) ≡ nonempty (pieces_of bytes) =
    λ h. ap (λ v. nonempty (cond v ([] ∷ pieces_of bytes) (onto_first b (pieces_of bytes)))) h in
    elim (is_blank b) as (λ v. (is_blank b ≡ v) → nonempty (pieces_after (drop (cond (not v) (1 + n) 0) (b ∷ bytes)))
    ≡ words_of (drop (cond (not v) (1 + n) 0) (b ∷ bytes)))
    [ true ↦ λ h. sym (blank h) | false ↦ λ h. rw (one_more n) (words_after bytes) ] refl

pub first_word : (line : List ℕ) (n : ℕ) → length_to_blank line ≡ n → begins_blank line ≡ false → line ≢ [] → words_of line ≡ take n line ∷ words_of (drop n line)
first_word [] n e f h = absurd (h refl)
first_word (b ∷ bytes) n e f h =
    let m = length_to_blank bytes in
    let at : length_to_blank (b ∷ bytes) ≡ suc m = ap (λ v. cond (not v) (1 + m) 0) f ∙ one_more m in
    let pieces = first_piece (b ∷ bytes) in
    let P : ℕ → Type 0 = λ k. words_of (b ∷ bytes) ≡ take k (b ∷ bytes) ∷ words_of (drop k (b ∷ bytes)) in
    subst P (sym at ∙ e) (ap nonempty (rw at at pieces) ∙ ap (λ ws. (b ∷ take m bytes) ∷ ws) (rw at at (words_after (b ∷ bytes))))
