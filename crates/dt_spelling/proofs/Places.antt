-- a text has one fault, at one place
use Rattle.std.proofs.Common.{◌≡◌, ◌⊎◌, inl, inr, ℕ, List, [], ◌∷◌, ◌++◌, refl, sym, ap, subst, ◌∙◌, append_assoc, append-nil}
use Rattle.dt_spelling.specs.Fault.{IsBegun, offset_behind, HasWrongWord, LacksWords, ReachesTooFar}
use Rattle.dt_spelling.specs.Laws.{OneFault}
use Rattle.dt_spelling.specs.Spelling.{Word, Words, words_in}
use Rattle.dt_spelling.proofs.Cuts.{cuts_into_words}

-- words that begin with begun words are begun
begun_before : (words more : Words) → IsBegun (words ++ more) → IsBegun words
begun_before words more b = record { tree = b.tree; behind = more ++ b.behind; loose = b.loose; spelled = b.spelled ∙ append_assoc words more b.behind }

-- of two words of a list one stands before the other, or they are the same
fronts : (before before' : Words) (word word' : Word) (after after' : Words) → before ++ word ∷ after ≡ before' ++ word' ∷ after' →
    (before ≡ before') ⊎ (((more : Words) × (before' ≡ (before ++ word ∷ []) ++ more)) ⊎ ((more : Words) × (before ≡ (before' ++ word' ∷ []) ++ more)))
fronts [] [] word word' after after' e = inl refl
fronts [] (v ∷ before') word word' after after' e = let same : word ≡ v = cc in inr (inl (before', ap (λ (w : Word). w ∷ before') (sym same)))
fronts (v ∷ before) [] word word' after after' e = let same : v ≡ word' = cc in inr (inr (before, ap (λ (w : Word). w ∷ before) same))
fronts (v ∷ before) (u ∷ before') word word' after after' e =
    let same : v ≡ u = cc in
    let rest : before ++ word ∷ after ≡ before' ++ word' ∷ after' = cc in
    elim (fronts before before' word word' after after' rest) [
      | inl h ↦ inl (ap (λ (w : Word). w ∷ before) same ∙ ap (λ (ws : Words). u ∷ ws) h)
      | inr (inl h) ↦ inr (inl (h.0, ap (λ (w : Word). w ∷ before') (sym same) ∙ ap (λ (ws : Words). v ∷ ws) h.1))
      | inr (inr h) ↦ inr (inr (h.0, ap (λ (w : Word). w ∷ before) same ∙ ap (λ (ws : Words). u ∷ ws) h.1))
    ]

-- a wrong word is behind no begun words
wrong_words : (text : List ℕ) (at at' : ℕ) → HasWrongWord text at → HasWrongWord text at' → at ≡ at'
wrong_words text at at' h k =
    elim (fronts h.before k.before h.word k.word h.after k.after (sym h.whole ∙ k.whole)) [
      | inl same ↦ h.place ∙ (ap offset_behind same ∙ sym k.place)
      | inr (inl more) ↦ absurd (h.wrong (begun_before (h.before ++ h.word ∷ []) more.0 (subst IsBegun more.1 k.begun)))
      | inr (inr more) ↦ absurd (k.wrong (begun_before (k.before ++ k.word ∷ []) more.0 (subst IsBegun more.1 h.begun)))
    ]

not_all_begun : (text : List ℕ) (at : ℕ) → HasWrongWord text at → ¬ IsBegun (words_in text)
not_all_begun text at h all =
    h.wrong (begun_before (h.before ++ h.word ∷ []) h.after (subst IsBegun (h.whole ∙ sym (append_assoc h.before (h.word ∷ []) h.after)) all))

begun_end : (text : List ℕ) → LacksWords text ⊎ ReachesTooFar text → IsBegun (words_in text)
begun_end text (inl lacks) = lacks.begun
begun_end text (inr far) = record {
  tree = far.tree;
  behind = [];
  loose = far.loose;
  spelled = sym (append-nil (words_in text) ∙ (ap words_in far.spelled ∙ cuts_into_words far.tree (far.loose).numbers));
}

pub one_fault : OneFault
one_fault text at at' (inl h) (inl k) = wrong_words text at at' h k
one_fault text at at' (inl h) (inr k) = absurd (not_all_begun text at h (begun_end text k.1))
one_fault text at at' (inr h) (inl k) = absurd (not_all_begun text at' k (begun_end text h.1))
one_fault text at at' (inr h) (inr k) = h.0 ∙ sym k.0
