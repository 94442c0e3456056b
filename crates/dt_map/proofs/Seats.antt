-- where entries stand in a list, and copies of them
use Rattle.std.proofs.Common.{◌≡◌, ℕ, zero, suc, ◌+◌, ◌*◌, ◌≤◌, ◌<◌, ℤ, pos, ◌+ℤ◌, ◌*ℤ◌, Bool, true, ◌&&◌, List, [], ◌∷◌, ◌++◌, take, drop, length, get_or, inl, inr, refl, sym, ap, ◌∙◌, arith, append_assoc, length-append}
use Rattle.std.proofs.lemmas.List.{take_at, drop_at, take-append-drop, length-take-le, length-map, get_or-map, length_push, get_or_push, get_or_append_left}
use Rattle.std.proofs.lemmas.List.Folds.{list_all-append}
use Rattle.std.proofs.lemmas.Bool.{cases_lt}
use Rattle.std.specs.List.{list_all}
use Rattle.dt_map.specs.declared.entry.Entry.{Entry}
use Rattle.dt_offsets.specs.Offsets.{below}
use Rattle.dt_map.specs.Typemap.{shift}
use Rattle.dt_map.specs.Runs.{placed_at, even, run, natural_extent}
use Rattle.dt_map.specs.Alike.{segment}
use Rattle.dt_map.proofs.Placings.{shift-shift, shift-append}
use Rattle.dt_map.proofs.Summaries.{length-shift}

-- entries, y further on, stand in a list from place i on
pub record Sits (m : List Entry) (y : ℤ) (es : List Entry) (i : ℕ) : Type 0 where
  pub before : List Entry
  pub after : List Entry
  pub whole : m ≡ before ++ (shift y es ++ after)
  pub there : length before ≡ i

pub sits_segment : {m : List Entry} {y : ℤ} {es : List Entry} {i : ℕ} → Sits m y es i → segment m i (length es) ≡ shift y es
sits_segment {m = m} {y = y} {es = es} {i = i} h =
    ap (λ l. segment l i (length es)) h.whole
    ∙ (ap (take (length es)) (drop_at h.before (shift y es ++ h.after) i h.there)
    ∙ take_at (shift y es) h.after (length es) (length-shift y es))

pub sits_inside : {m : List Entry} {y : ℤ} {es : List Entry} {i : ℕ} → Sits m y es i → i + length es ≤ length m
sits_inside {m = m} {y = y} {es = es} {i = i} h =
    let there = h.there in
    omega (arith, there, ap length h.whole, length-append h.before (shift y es ++ h.after), length-append (shift y es) h.after, length-shift y es)

pub segment_sits : (m : List Entry) (y : ℤ) (es : List Entry) (i n : ℕ) → i + n ≤ length m → segment m i n ≡ shift y es → Sits m y es i
segment_sits m y es i n inside same = record {
  before = take i m;
  after = drop n (drop i m);
  whole = sym (take-append-drop i m) ∙ ap (λ s. take i m ++ s) (sym (take-append-drop n (drop i m)) ∙ ap (λ s. s ++ drop n (drop i m)) same);
  there = length-take-le i m (omega arith);
}

pub sits_first : {m : List Entry} {y : ℤ} {i : ℕ} (es fs : List Entry) → Sits m y (es ++ fs) i → Sits m y es i
sits_first {m = m} {y = y} es fs h = record {
  before = h.before;
  after = shift y fs ++ h.after;
  whole = h.whole ∙ ap (λ s. h.before ++ s) (ap (λ s. s ++ h.after) (shift-append y es fs) ∙ append_assoc (shift y es) (shift y fs) h.after);
  there = h.there;
}

pub sits_second : {m : List Entry} {y : ℤ} {i : ℕ} (es fs : List Entry) → Sits m y (es ++ fs) i → Sits m y fs (i + length es)
sits_second {m = m} {y = y} {i = i} es fs h = let there = h.there in record {
  before = h.before ++ shift y es;
  after = h.after;
  whole =
      h.whole
      ∙ (ap (λ s. h.before ++ s) (ap (λ s. s ++ h.after) (shift-append y es fs) ∙ append_assoc (shift y es) (shift y fs) h.after)
      ∙ sym (append_assoc h.before (shift y es) (shift y fs ++ h.after)));
  there = omega (arith, there, length-append h.before (shift y es), length-shift y es);
}

pub sits_shifted : {m : List Entry} {y : ℤ} {i : ℕ} (x : ℤ) (es : List Entry) → Sits m y (shift x es) i → Sits m (x +ℤ y) es i
sits_shifted {m = m} {y = y} x es h = record {
  before = h.before;
  after = h.after;
  whole = h.whole ∙ ap (λ s. h.before ++ (s ++ h.after)) (shift-shift y x es);
  there = h.there;
}

pub sits_at : {m : List Entry} {y : ℤ} {es : List Entry} (i j : ℕ) → i ≡ j → Sits m y es i → Sits m y es j
sits_at i j same h = record {
  before = h.before;
  after = h.after;
  whole = h.whole;
  there = h.there ∙ same;
}

-- how many copies stand at places
pub length-placed_at : (places : List ℤ) (es : List Entry) → length (placed_at places es) ≡ length places * length es
length-placed_at [] es = omega arith
length-placed_at (x ∷ xs) es = omega (arith, length-append (shift x es) (placed_at xs es), length-shift x es, length-placed_at xs es)

-- each copy stands in its turn
pub sits_copy : (m : List Entry) (y : ℤ) (places : List ℤ) (es : List Entry) (i k : ℕ) → Sits m y (placed_at places es) i → k < length places →
    Sits m (get_or places k (pos 0) +ℤ y) es (i + k * length es)
sits_copy m y [] es i k h lt = absurd (omega arith)
sits_copy m y (x ∷ xs) es i zero h lt = sits_at i (i + 0 * length es) (omega arith) (sits_shifted x es (sits_first (shift x es) (placed_at xs es) h))
sits_copy m y (x ∷ xs) es i (suc k) h lt =
    sits_at ((i + length (shift x es)) + k * length es) (i + suc k * length es) (omega (arith, length-shift x es))
    (sits_copy m y xs es (i + length (shift x es)) k (sits_second (shift x es) (placed_at xs es) h) (omega arith))

-- numbers below a number, and even places
pub length-below : (n : ℕ) → length (below n) ≡ n
length-below zero = refl
length-below (suc n) = omega (arith, length_push (below n) n, length-below n)

pub get_or-below : (n k d : ℕ) → k < n → get_or (below n) k d ≡ k
get_or-below zero k d lt = absurd (omega arith)
get_or-below (suc n) k d lt =
    elim (cases_lt k n) [
      | inl less ↦ get_or_append_left (below n) (n ∷ []) d k (omega (arith, length-below n)) ∙ get_or-below n k d less
      | inr from ↦
          let same : k ≡ n = omega arith in
          ap (λ k. get_or (below (suc n)) k d) same ∙ (get_or_push (below n) n d n (length-below n) ∙ sym same)
    ]

pub length-even : (count : ℕ) (step : ℤ) → length (even count step) ≡ count
length-even count step = length-map (below count) (λ i. pos i *ℤ step) ∙ length-below count

pub get_or-even : (count : ℕ) (step : ℤ) (k : ℕ) → k < count → get_or (even count step) k (pos 0) ≡ pos k *ℤ step
get_or-even count step k lt =
    get_or-map (λ i. pos i *ℤ step) (below count) k 0 (pos 0) (omega (arith, length-below count))
    ∙ ap (λ i. pos i *ℤ step) (get_or-below count k 0 lt)

pub length-run : (block : ℕ) (es : List Entry) → length (run block es) ≡ block * length es
length-run block es = length-placed_at (even block (natural_extent es)) es ∙ ap (λ n. n * length es) (length-even block (natural_extent es))

-- a test of each number below a number
pub list_all-below : (p : ℕ → Bool) (n : ℕ) → ((k : ℕ) → k < n → p k ≡ true) → list_all p (below n) ≡ true
list_all-below p zero each = refl
list_all-below p (suc n) each =
    list_all-append p (below n) (n ∷ [])
    ∙ (ap (λ b. b && (p n && true)) (list_all-below p n (λ k lt. each k (omega arith))) ∙ ap (λ b. b && true) (each n (omega arith)))
