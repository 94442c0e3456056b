-- the words of a text from a byte on
use Rattle.std.proofs.Common.{◌≡◌, ℕ, ◌+◌, ◌-◌, ◌≤◌, ◌<◌, ◌⊎◌, ◌==◌, cond, List, [], ◌∷◌, take, drop, length, inl, inr, sym, ap, ◌∙◌, arith}
use Rattle.std.specs.List.{position_or_len}
use Rattle.std.proofs.lemmas.List.{length-drop, drop-drop, take_all}
use Rattle.std.proofs.lemmas.List.Sums.{fails_before_first}
use Rattle.std.proofs.lemmas.Bool.Decides.{leb_tells}
use Rattle.std.proofs.lemmas.List.Splits.{slice_split_first, slice_split_none}
use Rattle.dt_spelling.specs.Spelling.{Words, space, words_in}
use Rattle.dt_spelling.specs.Reading.{words_from}

pub lt_or_ge : (a b : ℕ) → (a < b) ⊎ (b ≤ a)
lt_or_ge a b = elim (leb_tells b a) [ inl h ↦ inr h.1 | inr h ↦ inl h.1 ]

pub from_within : (text : List ℕ) (at : ℕ) → at ≤ length text → words_from text at ≡ words_in (drop at text)
unfolding words_from
from_within text at le = elim (leb_tells at (length text)) [ inl h ↦ ap (λ b. cond b (words_in (drop at text)) []) h.0 | inr h ↦ absurd (omega arith) ]

pub from_past : (text : List ℕ) (at : ℕ) → length text < at → words_from text at ≡ []
unfolding words_from
from_past text at gt = elim (leb_tells at (length text)) [ inl h ↦ absurd (omega arith) | inr h ↦ ap (λ b. cond b (words_in (drop at text)) []) h.0 ]

-- the word that begins at a byte, and those from behind its space on
pub next_words : (text : List ℕ) (at len : ℕ) → at ≤ length text → position_or_len (λ b. b == space) (drop at text) ≡ len →
    words_from text at ≡ take len (drop at text) ∷ words_from text (at + len + 1)
next_words text at len le is =
    let long : length (drop at text) ≡ length text - at = length-drop at text in
    elim (lt_or_ge (position_or_len (λ b. b == space) (drop at text)) (length (drop at text))) [
      | inl lt ↦
          let rest : drop (position_or_len (λ b. b == space) (drop at text) + 1) (drop at text) ≡ drop (at + len + 1) text =
          drop-drop (position_or_len (λ b. b == space) (drop at text) + 1) at text ∙ ap (λ n. drop n text) (omega (arith, is)) in
          from_within text at le
          ∙ (slice_split_first (λ b. b == space) (drop at text) 0 lt
          ∙ (ap (λ n. take n (drop at text) ∷ words_in (drop (position_or_len (λ b. b == space) (drop at text) + 1) (drop at text))) is
          ∙ (ap (λ t. take len (drop at text) ∷ words_in t) rest
          ∙ ap (λ (ws : Words). take len (drop at text) ∷ ws) (sym (from_within text (at + len + 1) (omega (arith, is, long, lt)))))))
      | inr ge ↦
          let none : words_in (drop at text) ≡ drop at text ∷ [] =
          slice_split_none (λ b. b == space) (drop at text) (λ k d lt. fails_before_first (λ b. b == space) (drop at text) k d (omega (arith, ge, lt))) in
          from_within text at le
          ∙ (none
          ∙ (ap (λ (w : List ℕ). w ∷ []) (sym (take_all len (drop at text) (omega (arith, is, ge))))
          ∙ ap (λ (ws : Words). take len (drop at text) ∷ ws) (sym (from_past text (at + len + 1) (omega (arith, is, long, ge))))))
    ]
