-- no spelling begins another, since each is read again
use Rattle.std.proofs.Common.{◌≡◌, ◌+◌, [], ◌++◌, Result, Ok, sym, ap, ◌∙◌, arith}
use Rattle.dt_tree.specs.Rule.{depth_of}
use Rattle.dt_tree.specs.Tree.{Tree}
use Rattle.dt_spelling.specs.Laws.{NoSpellingBeginsAnother, OneSpelling}
use Rattle.dt_spelling.specs.Reading.{Spent, node_at}
use Rattle.dt_spelling.specs.Spelling.{Words, words_of, words_in, text_of}
use Rattle.dt_spelling.proofs.Again.{size_of, tree_again}
use Rattle.dt_spelling.proofs.Cuts.{cuts_into_words}

same_read : (x y : Spent Tree × Words) → (let r : Result (Spent Tree × Words) Words = Ok x in r ≡ Ok y) → (x.0.0 ≡ y.0.0) × (x.1 ≡ y.1)
same_read x y e = let same : x ≡ y = cc in (ap (λ (p : Spent Tree × Words). p.0.0) same, ap (λ (p : Spent Tree × Words). p.1) same)

pub no_spelling_begins_another : NoSpellingBeginsAnother
no_spelling_begins_another tree other behind behind_other fit fit_other e =
    let first = tree_again tree (depth_of tree + depth_of other) (size_of tree + size_of other) behind fit (omega arith) (omega arith) in
    let second = tree_again other (depth_of tree + depth_of other) (size_of tree + size_of other) behind_other fit_other (omega arith) (omega arith) in
    same_read _ _ (sym first ∙ (ap (node_at (depth_of tree + depth_of other) (size_of tree + size_of other)) e ∙ second))

pub one_spelling : OneSpelling
one_spelling text text' tree tree' h h' = (
  λ same.
      let texts : text_of tree ≡ text_of tree' = sym h.1 ∙ (same ∙ h'.1) in
      let words : words_of tree ≡ words_of tree' = sym (cuts_into_words tree h.0.numbers) ∙ (ap words_in texts ∙ cuts_into_words tree' h'.0.numbers) in
      (no_spelling_begins_another tree tree' [] [] h.0.numbers h'.0.numbers (ap (λ (ws : Words). ws ++ []) words)).0,
  λ same. h.1 ∙ (ap text_of same ∙ sym h'.1),
)
