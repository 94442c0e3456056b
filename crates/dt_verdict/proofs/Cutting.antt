-- the lines of a text from a byte on
use Rattle.std.proofs.Common.{◌≡◌, ℕ, ◌+◌, ◌-◌, ◌≤◌, ◌<◌, ◌==◌, List, [], ◌∷◌, take, drop, length, ap, ◌∙◌, refl, arith}
use Rattle.std.specs.List.{position_or_len, slice_split}
use Rattle.std.proofs.lemmas.List.{drop-drop, drop_all, length-drop}
use Rattle.std.proofs.lemmas.List.Sums.{count_by-le-length, fails_before_first}
use Rattle.std.proofs.lemmas.List.Splits.{slice_split_first, slice_split_none, length-slice_split}
use Rattle.dt_cert.specs.Text.{line_feed}
use Rattle.dt_spelling.specs.Spelling.{Words}
use Rattle.dt_verdict.specs.Cut.{all_but_last, lines_in, lines_from}

-- one piece in front of others
pub front_piece : (piece : List ℕ) (rest : List ℕ) → all_but_last (piece ∷ slice_split (λ b. b == line_feed) rest) ≡ piece ∷ lines_in rest
front_piece piece [] = refl
front_piece piece (b ∷ rest) = of (slice_split (λ c. c == line_feed) (b ∷ rest)) (λ none. not_none (b ∷ rest) none)
  where
    not_none : (text : List ℕ) → slice_split (λ c. c == line_feed) text ≡ [] → ⊥
    not_none text none = absurd (omega (arith, length-slice_split (λ c. c == line_feed) text, ap length none))

    of : (pieces : Words) → (pieces ≡ [] → ⊥) → all_but_last (piece ∷ pieces) ≡ piece ∷ all_but_last pieces
    of [] some = absurd (some refl)
    of (next ∷ pieces) some = refl

-- no line from behind the end on
pub past_lines : (text : List ℕ) (at : ℕ) → length text < at → lines_from text at ≡ []
unfolding lines_from
past_lines text at gt = ap lines_in (drop_all at text (omega arith))

-- none where no line feed follows
pub no_line : (text : List ℕ) (at len : ℕ) → position_or_len (λ b. b == line_feed) (drop at text) ≡ len → len ≡ length (drop at text) → lines_from text at ≡ []
unfolding lines_from
no_line text at len is end =
    ap all_but_last (slice_split_none (λ b. b == line_feed) (drop at text) (λ k d lt. fails_before_first (λ b. b == line_feed) (drop at text) k d (omega (arith, is, end, lt))))

-- the line that begins at a byte, and those from behind its line feed on
pub next_lines : (text : List ℕ) (at len : ℕ) → position_or_len (λ b. b == line_feed) (drop at text) ≡ len → len < length (drop at text) →
    lines_from text at ≡ take len (drop at text) ∷ lines_from text (at + len + 1)
unfolding lines_from
next_lines text at len is lt =
    let rest : drop (position_or_len (λ b. b == line_feed) (drop at text) + 1) (drop at text) ≡ drop (at + len + 1) text =
    drop-drop (position_or_len (λ b. b == line_feed) (drop at text) + 1) at text ∙ ap (λ n. drop n text) (omega (arith, is)) in
    ap all_but_last (slice_split_first (λ b. b == line_feed) (drop at text) 0 (omega (arith, is, lt)))
    ∙ (front_piece (take (position_or_len (λ b. b == line_feed) (drop at text)) (drop at text)) (drop (position_or_len (λ b. b == line_feed) (drop at text) + 1) (drop at text))
    ∙ (ap (λ n. take n (drop at text) ∷ lines_in (drop (position_or_len (λ b. b == line_feed) (drop at text) + 1) (drop at text))) is
    ∙ ap (λ t. take len (drop at text) ∷ lines_in t) rest))

-- no more lines than bytes
length-all_but_last : (pieces : Words) → length (all_but_last pieces) ≤ length pieces - 1
length-all_but_last [] = omega arith
length-all_but_last (piece ∷ []) = omega arith
length-all_but_last (piece ∷ next ∷ pieces) = omega (arith, length-all_but_last (next ∷ pieces))

pub few_lines : (text : List ℕ) (at : ℕ) → length (lines_from text at) ≤ length text
unfolding lines_from
few_lines text at =
    omega (arith, length-all_but_last (slice_split (λ b. b == line_feed) (drop at text)), length-slice_split (λ b. b == line_feed) (drop at text), count_by-le-length (λ b. b == line_feed) (drop at text), length-drop at text)
