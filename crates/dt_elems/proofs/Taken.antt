-- Taking the bytes of one more element, and of one more copy.
use Rattle.std.proofs.Common.{◌≡◌, ℕ, zero, suc, add-one, ◌+◌, ◌≤◌, ◌<◌, Bool, true, false, cond, not, ◌||◌, inl, inr, Some, None, ℤ, pos, ◌+ℤ◌, ◌*ℤ◌, nat_abs, List, [], ◌∷◌, ◌++◌, take, drop, length, get_or, refl, sym, ap, ◌∙◌, arith, get_or-set_other, get_or-set_same, length-drop}
use Rattle.std.proofs.lemmas.Bool.{cases_lt, and_parts}
use Rattle.std.proofs.lemmas.List.{ext_get_or, length-set, take_more, take-append-drop, get_or-drop}
use Rattle.std.proofs.lemmas.List.Folds.{list_any-append}
use Rattle.std.specs.List.{list_any}
use Rattle.std.proofs.Math.ListN.{set}
use Rattle.dt_kinds.specs.Kind.{native_size}
use Rattle.dt_map.specs.declared.entry.Entry.{Entry}
use Rattle.dt_map.specs.Bounds.{extent_of}
use Rattle.dt_map.specs.Elements.{elements, lies_inside, are_inside}
use Rattle.dt_map.specs.Typemap.{Marked, shift, shift_entry}
use Rattle.dt_map.proofs.Copies.{elements_of_more}
use Rattle.dt_map.proofs.Placings.{shift-append}
use Rattle.dt_elems.specs.Taking.{are_free, with_bytes, with_elements}
use Rattle.dt_elems.proofs.Clashes.{length-with_bytes, with_before, with_in, with_after, free_at, true_or_false}

-- one byte more
module _ (taken : List Bool) (start k : ℕ) (fits : start + k < length taken) where
  abbrev before : List Bool
  before = with_bytes taken start k

  abbrev after : List Bool
  after = with_bytes taken start (k + 1)

  long : length before ≡ length taken
  long = length-with_bytes taken start k (omega arith)

  longer : length after ≡ length taken
  longer = length-with_bytes taken start (k + 1) (omega arith)

  same_mark : (i : ℕ) → i < length (set before (start + k) true) → get_or (set before (start + k) true) i false ≡ get_or after i false
  same_mark i lt =
      let size = long in
      elim (cases_lt i start) [
        | inl low ↦
            get_or-set_other before (start + k) i true false (omega arith)
            ∙ with_before taken start k (omega arith) i low ∙ sym (with_before taken start (k + 1) (omega arith) i low)
        | inr from ↦
            elim (cases_lt i (start + k)) [
              | inl to ↦
                  get_or-set_other before (start + k) i true false (omega arith)
                  ∙ with_in taken start k (omega arith) i from to ∙ sym (with_in taken start (k + 1) (omega arith) i from (omega arith))
              | inr past ↦
                  elim (cases_lt (start + k) i) [
                    | inl high ↦
                        get_or-set_other before (start + k) i true false (omega arith)
                        ∙ with_after taken start k (omega arith) i past ∙ sym (with_after taken start (k + 1) (omega arith) i (omega arith))
                    | inr here ↦
                        let at : i ≡ start + k = omega arith in
                        ap (λ j. get_or (set before (start + k) true) j false) at
                        ∙ get_or-set_same before (start + k) true false (omega arith)
                        ∙ sym (with_in taken start (k + 1) (omega arith) i from (omega arith))
                  ]
            ]
      ]

  pub one_mark : set before (start + k) true ≡ after
  one_mark = ext_get_or false (set before (start + k) true) after (length-set before (start + k) true ∙ long ∙ sym longer) same_mark

none_or_none : (b : Bool) → not b ≡ true → not (b || (false || false)) ≡ true
none_or_none true e = cc
none_or_none false e = refl

-- one byte more that is free, and one that isn't
pub room_more : (taken : List Bool) (start k : ℕ) → start + k < length taken → are_free taken start k ≡ true → get_or taken (start + k) false ≡ false → are_free taken start (k + 1) ≡ true
room_more taken start k fits free here =
    let piece = take_more (drop start taken) k false (omega (arith, length-drop start taken)) in
    let last = get_or-drop start taken k false ∙ here in
    ap (λ bs. not (list_any (λ b. b) bs)) piece
    ∙ ap not (list_any-append (λ b. b) (take k (drop start taken)) (get_or (drop start taken) k false ∷ []))
    ∙ ap (λ b. not (list_any (λ b. b) (take k (drop start taken)) || (b || false))) last
    ∙ none_or_none (list_any (λ b. b) (take k (drop start taken))) free

pub room_ends : (taken : List Bool) (start k size : ℕ) → start + size ≤ length taken → k < size → get_or taken (start + k) false ≡ true → are_free taken start size ≡ false
room_ends taken start k size fits lt here =
    elim (true_or_false (are_free taken start size)) [
      | inl free ↦ let none = free_at taken start size fits free (start + k) (omega arith) (omega arith) in cc
      | inr found ↦ found
    ]

-- elements after others
pub more_some : (taken : List Bool) (es fs : List Entry) (new : List Bool) → with_elements taken es ≡ Some new → with_elements taken (es ++ fs) ≡ with_elements new fs
more_some taken [] fs new some = let same : taken ≡ new = cc in ap (λ t. with_elements t fs) same
more_some taken (e ∷ es) fs new some =
    let start = nat_abs e.disp in
    let size = native_size e.kind in
    elim (true_or_false (are_free taken start size)) [
      | inl free ↦
          ap (λ b. cond b (with_elements (with_bytes taken start size) (es ++ fs)) None) free
          ∙ more_some (with_bytes taken start size) es fs new (sym (ap (λ b. cond b (with_elements (with_bytes taken start size) es) None) free) ∙ some)
      | inr found ↦
          let gone : None ≡ Some new = sym (ap (λ b. cond b (with_elements (with_bytes taken start size) es) None) found) ∙ some in
          cc
    ]

pub more_none : (taken : List Bool) (es fs : List Entry) → with_elements taken es ≡ None → with_elements taken (es ++ fs) ≡ None
more_none taken [] fs none = cc
more_none taken (e ∷ es) fs none =
    let start = nat_abs e.disp in
    let size = native_size e.kind in
    elim (true_or_false (are_free taken start size)) [
      | inl free ↦
          ap (λ b. cond b (with_elements (with_bytes taken start size) (es ++ fs)) None) free
          ∙ more_none (with_bytes taken start size) es fs (sym (ap (λ b. cond b (with_elements (with_bytes taken start size) es) None) free) ∙ none)
      | inr found ↦ ap (λ b. cond b (with_elements (with_bytes taken start size) (es ++ fs)) None) found
    ]

-- one more of the entries of a copy
pub inside_at : (len : ℕ) (x : ℤ) (es : List Entry) (k : ℕ) (d : Entry) → k < length es → are_inside len (shift x es) ≡ true → lies_inside len (shift_entry x (get_or es k d)) ≡ true
inside_at len x [] k d lt all = absurd (omega arith)
inside_at len x (e ∷ es) zero d lt all = (and_parts (lies_inside len (shift_entry x e)) (are_inside len (shift x es)) all).0
inside_at len x (e ∷ es) (suc k) d lt all = inside_at len x es k d (omega arith) (and_parts (lies_inside len (shift_entry x e)) (are_inside len (shift x es)) all).1

module _ (taken new : List Bool) (x : ℤ) (es : List Entry) (k : ℕ) (d : Entry) (lt : k < length es) (so_far : with_elements taken (shift x (take k es)) ≡ Some new) (start size : ℕ) (at : start ≡ nat_abs ((get_or es k d).disp +ℤ x)) (long : size ≡ native_size (get_or es k d).kind) where
  abbrev one : Entry
  one = shift_entry x (get_or es k d)

  parted : shift x (take (k + 1) es) ≡ shift x (take k es) ++ one ∷ []
  parted = ap (shift x) (take_more es k d lt) ∙ shift-append x (take k es) (get_or es k d ∷ [])

  tested : are_free new start size ≡ are_free new (nat_abs one.disp) (native_size one.kind)
  tested = ap (λ s. are_free new s size) at ∙ ap (are_free new (nat_abs one.disp)) long

  pub entry_taken : are_free new start size ≡ true → with_elements taken (shift x (take (k + 1) es)) ≡ Some (with_bytes new start size)
  entry_taken free =
      ap (with_elements taken) parted ∙ more_some taken (shift x (take k es)) (one ∷ []) new so_far
      ∙ ap (λ b. cond b (Some (with_bytes new (nat_abs one.disp) (native_size one.kind))) None) (sym tested ∙ free)
      ∙ sym (ap (λ s. Some (with_bytes new s size)) at ∙ ap (λ n. Some (with_bytes new (nat_abs one.disp) n)) long)

  pub entry_found : are_free new start size ≡ false → with_elements taken (shift x es) ≡ None
  entry_found found =
      let here = ap (with_elements taken) parted ∙ more_some taken (shift x (take k es)) (one ∷ []) new so_far
      ∙ ap (λ b. cond b (Some (with_bytes new (nat_abs one.disp) (native_size one.kind))) None) (sym tested ∙ found) in
      ap (λ fs. with_elements taken (shift x fs)) (sym (take-append-drop (k + 1) es))
      ∙ ap (with_elements taken) (shift-append x (take (k + 1) es) (drop (k + 1) es))
      ∙ more_none taken (shift x (take (k + 1) es)) (shift x (drop (k + 1) es)) here

-- one more copy
module _ (taken new : List Bool) (m : Marked) (k : ℕ) (origin at : ℤ) (so_far : with_elements taken (elements m k origin) ≡ Some new) (is : at ≡ origin +ℤ (pos k *ℤ extent_of m)) where
  with_copy : with_elements taken (elements m (suc k) origin) ≡ with_elements new (shift at m.entries)
  with_copy =
      ap (with_elements taken) (elements_of_more m k origin)
      ∙ more_some taken (elements m k origin) (shift (origin +ℤ (pos k *ℤ extent_of m)) m.entries) new so_far
      ∙ ap (λ z. with_elements new (shift z m.entries)) (sym is)

  pub copy_taken : (then : List Bool) → with_elements new (shift at m.entries) ≡ Some then → with_elements taken (elements m (k + 1) origin) ≡ Some then
  copy_taken then some = ap (λ n. with_elements taken (elements m n origin)) (add-one k) ∙ with_copy ∙ some

  pub copy_found : (count : ℕ) → k < count → with_elements new (shift at m.entries) ≡ None → with_elements taken (elements m count origin) ≡ None
  copy_found zero lt none = absurd (omega arith)
  copy_found (suc count) lt none =
      elim (cases_lt k count) [
        | inl before ↦
            ap (with_elements taken) (elements_of_more m count origin)
            ∙ more_none taken (elements m count origin) (shift (origin +ℤ (pos count *ℤ extent_of m)) m.entries) (copy_found count before none)
        | inr last ↦
            let same : count ≡ k = omega arith in
            ap (λ n. with_elements taken (elements m (suc n) origin)) same ∙ with_copy ∙ none
      ]
