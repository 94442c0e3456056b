-- the lengths of blocks, and the least of the values at some of them
use Rattle.std.proofs.Common.{◌≡◌, ◌⊎◌, inl, inr, ℕ, ◌+◌, ◌%◌, ◌≤◌, ◌<◌, List, [], ◌∷◌, ◌++◌, length, get_or, min, refl, sym, ap, ◌∙◌, subst, arith, below_more, length-append}
use Rattle.std.proofs.lemmas.Bool.{cases_lt}
use Rattle.std.proofs.lemmas.List.{get_or_append_left, get_or_push}
use Rattle.dt_normal.specs.Splits.{IsBlockLength, IsLowest, AreBlockLengths}

-- the blocks below a length
pub record LengthsBelow (len most : ℕ) (parts : List ℕ) : Type 0 where
  pub sound : (k : ℕ) → k < length parts → IsBlockLength len (get_or parts k 0)
  pub whole : (block : ℕ) → block < most → IsBlockLength len block → (k : ℕ) × (k < length parts) × (get_or parts k 0 ≡ block)

pub none_below : (len most : ℕ) → most ≤ 1 → LengthsBelow len most []
none_below len most few = record { sound = λ k lt. absurd (omega arith); whole = λ block lt is. absurd (omega (arith, is.0)) }

pub skip_below : (len most : ℕ) (parts : List ℕ) → LengthsBelow len most parts → (len % most ≡ 0 → ⊥) → LengthsBelow len (most + 1) parts
skip_below len most parts known uneven = record {
  sound = known.sound;
  whole = λ block lt is. elim (cases_lt block most) [
    | inl less ↦ known.whole block less is
    | inr from ↦
        let same : block ≡ most = omega arith in
        absurd (uneven (subst (λ b. len % b ≡ 0) same is.2))
  ];
}

pub one_below : (len most : ℕ) (parts : List ℕ) → LengthsBelow len most parts → IsBlockLength len most → LengthsBelow len (most + 1) (parts ++ most ∷ [])
one_below len most parts known is = record {
  sound = λ k lt. below_more (λ i. IsBlockLength len (get_or (parts ++ most ∷ []) i 0)) (length parts)
      (λ i less. rw (get_or_append_left parts (most ∷ []) 0 i less) (known.sound i less))
      (rw (get_or_push parts most 0 (length parts) refl) is) k (omega (arith, length-append parts (most ∷ [])));
  whole = λ block lt part. elim (cases_lt block most) [
    | inl less ↦
        let h = known.whole block less part in
        (h.0, omega (arith, h.1, length-append parts (most ∷ [])), get_or_append_left parts (most ∷ []) 0 h.0 h.1 ∙ h.2)
    | inr from ↦ (length parts, omega (arith, length-append parts (most ∷ [])), get_or_push parts most 0 (length parts) refl ∙ omega arith)
  ];
}

pub all_below : (len most : ℕ) (parts : List ℕ) → len ≤ most → LengthsBelow len most parts → AreBlockLengths len parts
all_below len most parts end known = record { sound = known.sound; whole = λ block is. known.whole block (omega (arith, end, is.1)) is }

-- the least so far
pub record LowestOf (Holds : ℕ → Type 0) (value : ℕ → ℕ) (most : ℕ) (parts : List ℕ) (i least : ℕ) : Type 0 where
  pub starts : least ≤ most
  pub each : (k : ℕ) → k < i → Holds (get_or parts k 0) → least ≤ value (get_or parts k 0)
  pub found : (least ≡ most) ⊎ ((n : ℕ) × Holds n × (least ≡ value n))

pub none_lowest : (Holds : ℕ → Type 0) (value : ℕ → ℕ) (most : ℕ) (parts : List ℕ) → LowestOf Holds value most parts 0 most
none_lowest Holds value most parts = record { starts = omega arith; each = λ k lt holds. absurd (omega arith); found = inl refl }

pub same_lowest : (Holds : ℕ → Type 0) (value : ℕ → ℕ) (most : ℕ) (parts : List ℕ) (i part least : ℕ) → LowestOf Holds value most parts i least
    → part ≡ get_or parts i 0 → (Holds part → ⊥) → LowestOf Holds value most parts (i + 1) least
same_lowest Holds value most parts i part least known is none = record {
  starts = known.starts;
  each = λ k lt holds. elim (cases_lt k i) [
    | inl less ↦ known.each k less holds
    | inr from ↦
        let same : k ≡ i = omega arith in
        absurd (none (subst Holds (ap (λ n. get_or parts n 0) same ∙ sym is) holds))
  ];
  found = known.found;
}

pub one_lowest : (Holds : ℕ → Type 0) (value : ℕ → ℕ) (most : ℕ) (parts : List ℕ) (i part cost least now : ℕ) → LowestOf Holds value most parts i least
    → part ≡ get_or parts i 0 → Holds part → cost ≡ value part → now ≡ min least cost → LowestOf Holds value most parts (i + 1) now
one_lowest Holds value most parts i part cost least now known is holds costs lesser = record {
  starts = omega (arith, known.starts);
  each = λ k lt here. elim (cases_lt k i) [
    | inl less ↦ omega (arith, known.each k less here)
    | inr from ↦
        let same : k ≡ i = omega arith in
        let this : value (get_or parts k 0) ≡ value part = ap value (ap (λ n. get_or parts n 0) same ∙ sym is) in
        omega (arith, this)
  ];
  found = elim (cases_lt least cost) [
    | inl less ↦
        let same : now ≡ least = omega arith in
        subst (λ n. (n ≡ most) ⊎ ((k : ℕ) × Holds k × (n ≡ value k))) (sym same) known.found
    | inr from ↦ inr (part, holds, omega arith)
  ];
}

pub all_lowest : (Holds : ℕ → Type 0) (value : ℕ → ℕ) (most len : ℕ) (parts : List ℕ) (i least : ℕ) → AreBlockLengths len parts → length parts ≤ i
    → ((n : ℕ) → Holds n → IsBlockLength len n) → LowestOf Holds value most parts i least → IsLowest Holds value most least
all_lowest Holds value most len parts i least are end within known = record {
  starts = known.starts;
  each = λ n holds.
      let at = are.whole n (within n holds) in
      omega (arith, ap value at.2, known.each at.0 (omega (arith, at.1, end)) (subst Holds (sym at.2) holds));
  found = known.found;
}
