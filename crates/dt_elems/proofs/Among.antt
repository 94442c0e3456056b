-- What lies inside with all copies lies inside alone.
use Rattle.std.proofs.Common.{◌≡◌, ℕ, zero, suc, ◌<◌, Bool, true, ℤ, pos, ◌+ℤ◌, ◌*ℤ◌, List, [], ◌∷◌, ◌++◌, inl, inr, sym, ap, ◌∙◌, append-nil, arith}
use Rattle.std.specs.List.{flat_map, list_all}
use Rattle.std.proofs.lemmas.Bool.{cases_lt, and_parts}
use Rattle.std.proofs.lemmas.Grind.{flat_map-append}
use Rattle.std.proofs.lemmas.List.Folds.{list_all-append}
use Rattle.dt_map.specs.declared.entry.Entry.{Entry}
use Rattle.dt_map.specs.Bounds.{extent_of}
use Rattle.dt_map.specs.Elements.{elements, are_inside, lies_inside}
use Rattle.dt_offsets.specs.Offsets.{below}
use Rattle.dt_map.specs.Typemap.{Marked, shift}

among_all : (p : Entry → Bool) (f : ℕ → List Entry) (n i : ℕ) → i < n → list_all p (flat_map f (below n)) ≡ true → list_all p (f i) ≡ true
among_all p f zero i lt all = absurd (omega arith)
among_all p f (suc n) i lt all =
    let split = sym (list_all-append p (flat_map f (below n)) (f n ++ [])) ∙ (sym (ap (list_all p) (flat_map-append f (below n) (n ∷ []))) ∙ all) in
    let parts = and_parts (list_all p (flat_map f (below n))) (list_all p (f n ++ [])) split in
    elim (cases_lt i n) [
      | inl before ↦ among_all p f n i before parts.0
      | inr from ↦ (let same : i ≡ n = omega arith in ap (λ k. list_all p (f k)) same ∙ (ap (list_all p) (sym (append-nil (f n))) ∙ parts.1))
    ]

pub copy_inside : (len n i : ℕ) (m : Marked) (origin at : ℤ) → i < n → at ≡ origin +ℤ (pos i *ℤ extent_of m) → are_inside len (elements m n origin) ≡ true
    → are_inside len (shift at m.entries) ≡ true
copy_inside len n i m origin at lt is all =
    ap (λ z. are_inside len (shift z m.entries)) is ∙ among_all (lies_inside len) (λ k. shift (origin +ℤ (pos k *ℤ extent_of m)) m.entries) n i lt all
