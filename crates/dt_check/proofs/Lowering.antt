-- numbers brought down one after another, and the least sums over cuts into two parts
use Rattle.std.proofs.Common.{◌≡◌, inl, inr, ℕ, suc, ◌+◌, ◌-◌, ◌≤◌, ◌<◌, min, List, length, get_or, set, replicate, refl, sym, ap, ◌∙◌, arith, below_more, length-set}
use Rattle.std.specs.Global.{Vec}
use Rattle.std.proofs.lemmas.Bool.{cases_lt}
use Rattle.std.proofs.lemmas.List.{get_or-set_same, get_or-set_other, get_or-replicate, length-replicate}
use Rattle.dt_check.specs.Rows.{row_at, table_in, AreFew}
use Rattle.dt_check.specs.Sums.{AreLowered, AreLeastSums, two_parts}

pub record Lowered (firsts rests : List ℕ) (from k : ℕ) (before now : List ℕ) : Type 0 where
  pub each : length now ≡ length before
  pub done : (j : ℕ) → j < k → get_or now j 0 ≡ min (get_or before j 0) (get_or firsts j 0 + get_or rests (from + j) 0)
  pub left : (j : ℕ) → k ≤ j → get_or now j 0 ≡ get_or before j 0

pub none_lowered : (firsts rests : List ℕ) (from : ℕ) (before : List ℕ) → Lowered firsts rests from 0 before before
none_lowered firsts rests from before = record { each = refl; done = λ j lt. absurd (omega arith); left = λ j le. refl }

pub one_lowered : (firsts rests : List ℕ) (from k least : ℕ) (before now : List ℕ) → Lowered firsts rests from k before now → k < length before
    → least ≡ min (get_or now k 0) (get_or firsts k 0 + get_or rests (from + k) 0) → Lowered firsts rests from (k + 1) before (set now k least)
one_lowered firsts rests from k least before now known lt is = record {
  each = length-set now k least ∙ known.each;
  done = below_more _ _
      (λ j below. rw (get_or-set_other now k j least 0 (omega arith)) (known.done j below))
      (rw (get_or-set_same now k least 0 (omega (arith, known.each))) (omega (arith, is, known.left k (omega arith))));
  left = λ j le. get_or-set_other now k j least 0 (omega arith) ∙ known.left j (omega arith);
}

pub all_lowered : (firsts rests : List ℕ) (from k : ℕ) (before now : List ℕ) → length before ≤ k → Lowered firsts rests from k before now → AreLowered firsts rests from before now
all_lowered firsts rests from k before now end known = record { each = known.each; lowered = λ j lt. known.done j (omega arith) }

-- no first part
pub none_summed : (entries len : ℕ) (runs cuts : List (Vec ℕ)) (sums : List ℕ) → sums ≡ replicate (entries + 1 - len) 2050000000 → AreLeastSums entries len runs cuts 0 sums
none_summed entries len runs cuts sums is = record {
  each = ap length is ∙ length-replicate {A = ℕ} (entries + 1 - len) 2050000000;
  least = λ start lt.
      let most : get_or sums start 0 ≡ 2050000000 =
      ap (λ (xs : List ℕ). get_or xs start 0) is ∙ get_or-replicate {A = ℕ} (entries + 1 - len) start 2050000000 0 (omega (arith, ap length is, length-replicate {A = ℕ} (entries + 1 - len) 2050000000)) in
      record { starts = omega (arith, most); each = λ n holds. absurd (omega (arith, holds.0, holds.1)); found = inl most };
}

-- a first part of one entry more
pub one_summed : (entries len k : ℕ) (runs cuts : List (Vec ℕ)) (firsts rests before now : List ℕ) → 1 ≤ len → len ≤ entries → k < len - 1
    → AreLeastSums entries len runs cuts k before → firsts ≡ row_at runs k → rests ≡ row_at cuts (len - 2 - k) → AreLowered firsts rests (k + 1) before now
    → AreLeastSums entries len runs cuts (k + 1) now
one_summed entries len k runs cuts firsts rests before now some within less were is_first is_rest are = record {
  each = are.each ∙ were.each;
  least = λ start lt.
      let old = were.least start (omega (arith, are.each)) in
      let first : get_or firsts start 0 ≡ table_in runs start (k + 1) = ap (λ xs. get_or xs start 0) is_first ∙ sym (at_next runs start) in
      let rest : get_or rests (k + 1 + start) 0 ≡ table_in cuts (start + (k + 1)) (len - (k + 1)) = ap (λ xs. get_or xs (k + 1 + start) 0) is_rest ∙ at_rest start in
      let here = are.lowered start (omega (arith, are.each)) in
      record {
        starts = omega (arith, here, old.starts);
        each = λ n holds. elim (cases_lt n (k + 1)) [
          | inl before_k ↦ omega (arith, here, old.each n (holds.0, omega arith))
          | inr from ↦
              let same : n ≡ k + 1 = omega (arith, holds.1) in
              omega (arith, here, first, rest, ap (two_parts runs cuts start len) same)
        ];
        found = elim (cases_lt (get_or before start 0) (get_or firsts start 0 + get_or rests (k + 1 + start) 0)) [
          | inl keeps ↦
              let same : get_or now start 0 ≡ get_or before start 0 = omega (arith, here) in
              elim old.found [
                | inl most ↦ inl (same ∙ most)
                | inr at ↦ inr (at.0, (at.1.0, omega (arith, at.1.1)), same ∙ at.2)
              ]
          | inr falls ↦ inr (k + 1, (omega arith, omega arith), omega (arith, here, first, rest))
        ];
      };
}
  where
    at_next : (rows : List (Vec ℕ)) (start : ℕ) → table_in rows start (k + 1) ≡ get_or (row_at rows k) start 0
    at_next rows start = ap (table_in rows start) (let e : k + 1 ≡ suc k = omega arith in e)

    at_rest : (start : ℕ) → get_or (row_at cuts (len - 2 - k)) (k + 1 + start) 0 ≡ table_in cuts (start + (k + 1)) (len - (k + 1))
    at_rest start =
        let long : suc (len - 2 - k) ≡ len - (k + 1) = omega arith in
        let place : k + 1 + start ≡ start + (k + 1) = omega arith in
        ap (λ i. get_or (row_at cuts (len - 2 - k)) i 0) place ∙ ap (table_in cuts (start + (k + 1))) long

pub sums_fit : (runs cuts : List (Vec ℕ)) (k j : ℕ) (firsts rests : List ℕ) → AreFew runs → AreFew cuts → firsts ≡ row_at runs k → rests ≡ row_at cuts j
    → (i other : ℕ) → get_or firsts i 0 + get_or rests other 0 < 4294967296
sums_fit runs cuts k j firsts rests few_runs few_cuts is_first is_rest i other =
    omega (arith, ap (λ xs. get_or xs i 0) is_first, ap (λ xs. get_or xs other 0) is_rest, few_runs i (suc k), few_cuts other (suc j))
