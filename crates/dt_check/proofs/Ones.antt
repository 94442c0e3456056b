-- the values of a table that holds are few, by the cut into single entries
use Rattle.std.proofs.Common.{◌≡◌, inl, inr, ℕ, zero, suc, ◌+◌, ◌*◌, ◌≤◌, ◌<◌, Bool, List, [], ◌∷◌, length, refl, subst, arith}
use Rattle.std.specs.List.{All, sum}
use Rattle.std.specs.Global.{Vec}
use Rattle.std.proofs.lemmas.Bool.{cases_lt}
use Rattle.std.proofs.lemmas.List.Elements.{All-cons, All-nil}
use Rattle.std.proofs.lemmas.List.Sums.{sum_by-cons}
use Rattle.dt_map.specs.declared.entry.Entry.{Entry}
use Rattle.dt_tree.specs.Weights.{Weights, AreLight}
use Rattle.dt_normal.specs.Costs.{IsLeastOf}
use Rattle.dt_normal.specs.Table.{Table, IsSegment, is_split, least_to, least_run, cut_cost}
use Rattle.dt_check.specs.declared.sums.Sums.{Sums}
use Rattle.dt_check.specs.Failing.{HoldsAt}
use Rattle.dt_check.specs.Levels.{AreKnown, AreLengths, IsCutCost}
use Rattle.dt_check.specs.Rows.{table_in, AreFew}
use Rattle.dt_check.proofs.Rowed.{table_outside, table_beyond}

least_to-most : (test : ℕ → Bool) (value : ℕ → ℕ) (most n : ℕ) → least_to test value most n ≤ most
least_to-most test value most zero = omega arith
least_to-most test value most (suc n) = omega (arith, least_to-most test value most n)

pub run_most : (m : List Entry) (low : Table) (start len : ℕ) → least_run m low start len ≤ low start len
run_most m low start len = least_to-most (is_split m start len) (low start) (low start len) len

abbrev pub ones : ℕ → List ℕ
ones zero = []
ones (suc n) = 1 ∷ ones n

ones_positive : (n : ℕ) → All (λ k. 0 < k) (ones n)
ones_positive zero = All-nil (λ k. 0 < k)
ones_positive (suc n) = All-cons (λ k. 0 < k) 1 (ones n) (omega arith) (ones_positive n)

ones_sum : (n : ℕ) → sum (ones n) ≡ n
ones_sum zero = refl
ones_sum (suc n) = omega (arith, sum_by-cons (λ (x : ℕ). x) 1 (ones n), ones_sum n)

times : (n a b : ℕ) → a ≤ b → n * a ≤ n * b
times zero a b le = omega arith
times (suc n) a b le = omega (arith, le, times n a b le)

abbrev Leaves : Weights → Table → ℕ → ℕ → Type 0
Leaves w low start n = (i : ℕ) → i < n → low (start + i) 1 ≤ w.leaf

ones_cost : (w : Weights) (m : List Entry) (low : Table) (n start : ℕ) → Leaves w low start n → cut_cost w m low start (ones n) ≤ n * (w.part + w.leaf)
ones_cost w m low zero start leaves = omega arith
ones_cost w m low (suc n) start leaves =
    let here : low start 1 ≤ w.leaf = subst (λ i. low i 1 ≤ w.leaf) (let e : start + 0 ≡ start = omega arith in e) (leaves 0 (omega arith)) in
    omega (arith, here, run_most m low start 1, ones_cost w m low n (start + 1) (λ i lt. subst (λ j. low j 1 ≤ w.leaf) (let e : start + suc i ≡ start + 1 + i = omega arith in e) (leaves (suc i) (omega arith))))

leaves_of : (w : Weights) (m : List Entry) (low : Table) (start n most : ℕ) → start + n ≤ length m → 1 ≤ most → ((s l : ℕ) → IsSegment m s l → l ≤ most → HoldsAt w m low s l) → Leaves w low start n
leaves_of w m low start n most inside some holds i lt = (holds (start + i) 1 (omega arith, omega arith) some).leaf refl

-- single entries of a segment hold, where it or longer ones do
pub low_few : (w : Weights) (m : List Entry) (low : Table) (start len : ℕ) → AreLight w → IsSegment m start len → HoldsAt w m low start len
    → (2 ≤ len → (s l : ℕ) → IsSegment m s l → l ≤ 1 → HoldsAt w m low s l) → low start len ≤ 1000000 + len * 2000000
low_few w m low start len light segment here ones_hold =
    elim (cases_lt 1 len) [
      | inl long ↦
          let leaves = leaves_of w m low start len 1 segment.1 (omega arith) (ones_hold long) in
          omega (arith, light, here.cuts (ones len) (ones_positive len) (ones_sum len), ones_cost w m low len start leaves, times len (w.part + w.leaf) 2000000 (omega (arith, light)))
      | inr one ↦
          let single : len ≡ 1 = omega (arith, segment.0) in
          omega (arith, light, here.leaf single)
    ]

cut_few : (w : Weights) (m : List Entry) (low : Table) (start len cost : ℕ) → AreLight w → IsSegment m start len
    → ((s l : ℕ) → IsSegment m s l → l ≤ 1 → HoldsAt w m low s l) → IsLeastOf (IsCutCost w m low start len) cost → cost ≤ len * 2000000
cut_few w m low start len cost light segment ones_hold least =
    let leaves = leaves_of w m low start len 1 segment.1 (omega arith) ones_hold in
    omega (arith, least.1 (cut_cost w m low start (ones len)) (ones len, ones_positive len, ones_sum len, refl), ones_cost w m low len start leaves, times len (w.part + w.leaf) 2000000 (omega (arith, light)))

-- numbers are few where those of segments are
few_by_segments : (m : List Entry) (most : ℕ) (rows : List (Vec ℕ)) → AreLengths m most rows → ((start len : ℕ) → IsSegment m start len → len ≤ most → table_in rows start len ≤ 2049000000) → AreFew rows
few_by_segments m most rows are each start zero = omega arith
few_by_segments m most rows are each start (suc k) =
    elim (cases_lt (length m) (start + suc k)) [
      | inl out ↦ omega (arith, table_outside (length m) rows start (suc k) are.shape out)
      | inr inside ↦ elim (cases_lt most (suc k)) [
        | inl beyond ↦ omega (arith, table_beyond rows start (suc k) (omega (arith, are.each)))
        | inr within ↦ each start (suc k) (omega arith, inside) within
      ]
    ]

pub known_few : (w : Weights) (m : List Entry) (low : Table) (most : ℕ) (sums : Sums) → AreLight w → length m ≤ 1024 → AreKnown w m low most sums
    → (start len : ℕ) → IsSegment m start len → len ≤ most → low start len ≤ 1000000 + len * 2000000
known_few w m low most sums light few known start len segment within =
    low_few w m low start len light segment (known.holds start len segment within) (λ long s l inside one. known.holds s l inside (omega arith))

pub lows_few : (w : Weights) (m : List Entry) (low : Table) (most : ℕ) (sums : Sums) → AreLight w → length m ≤ 1024 → AreKnown w m low most sums → AreFew sums.lows.items
lows_few w m low most sums light few known =
    few_by_segments m most sums.lows.items known.low_rows (λ start len segment within.
    omega (arith, few, segment.1, known.lows start len segment within, known_few w m low most sums light few known start len segment within))

pub runs_few : (w : Weights) (m : List Entry) (low : Table) (most : ℕ) (sums : Sums) → AreLight w → length m ≤ 1024 → AreKnown w m low most sums → AreFew sums.runs.items
runs_few w m low most sums light few known =
    few_by_segments m most sums.runs.items known.run_rows (λ start len segment within.
    omega (arith, few, segment.1, known.runs start len segment within, run_most m low start len, known_few w m low most sums light few known start len segment within))

pub cuts_few : (w : Weights) (m : List Entry) (low : Table) (most : ℕ) (sums : Sums) → AreLight w → length m ≤ 1024 → AreKnown w m low most sums → AreFew sums.cuts.items
cuts_few w m low most sums light few known =
    few_by_segments m most sums.cuts.items known.cut_rows (λ start len segment within.
    omega (arith, few, segment.1, cut_few w m low start len (table_in sums.cuts.items start len) light segment (λ s l inside one. known.holds s l inside (omega (arith, segment.0))) (known.cuts start len segment within)))
