-- validity segment by segment, and tables that are one table
use Rattle.std.proofs.Common.{◌≡◌, inl, inr, ℕ, zero, suc, ◌+◌, ◌-◌, ◌*◌, ◌≤◌, ◌<◌, Option, Some, None, MatchOption, Bool, true, false, cond, List, [], ◌∷◌, length, refl, sym, ◌∙◌, subst, arith}
use Rattle.std.specs.List.{All, sum}
use Rattle.std.proofs.lemmas.Bool.{cases_lt}
use Rattle.std.proofs.lemmas.List.Elements.{All-head, All-tail}
use Rattle.std.proofs.lemmas.List.Sums.{sum_by-cons}
use Rattle.dt_map.specs.declared.entry.Entry.{Entry}
use Rattle.dt_tree.specs.Weights.{Weights}
use Rattle.dt_normal.specs.Table.{Table, IsSegment, is_split, least_to, least_run, cut_cost, IsValid}
use Rattle.dt_check.specs.declared.failing.Segment.{Segment}
use Rattle.dt_check.specs.declared.sums.Sums.{Sums}
use Rattle.dt_check.specs.Failing.{HoldsAt, IsFirstFailing}
use Rattle.dt_check.specs.Laws.{ValidEverywhere, OneFirstFailing}
use Rattle.dt_check.specs.Levels.{AreKnown}

pub valid_everywhere : ValidEverywhere
valid_everywhere w m low = (
  λ valid start len segment. record {
    leaf = λ one. subst (λ n. low start n ≤ w.leaf) (sym one) (valid.leaf start (subst (IsSegment m start) one segment));
    cuts = λ cut positive whole. valid.cuts start len cut segment positive whole;
    alike = λ block count whole stand. valid.alike start len block count segment whole stand;
    even = λ block count step whole stand rise. valid.even start len block count step segment whole stand rise;
  },
  λ holds. record {
    leaf = λ start segment. (holds start 1 segment).leaf refl;
    cuts = λ start len cut segment positive whole. (holds start len segment).cuts cut positive whole;
    alike = λ start len block count segment whole stand. (holds start len segment).alike block count whole stand;
    even = λ start len block count step segment whole stand rise. (holds start len segment).even block count step whole stand rise;
  },
)

-- of two failing segments that are each the first, neither comes before the other
pub one_first_failing : OneFirstFailing
one_first_failing w m low start len other size one two =
    elim (cases_lt len size) [
      | inl shorter ↦ absurd (one.fails (two.first start len one.segment (inl shorter)))
      | inr from ↦ elim (cases_lt size len) [
        | inl longer ↦ absurd (two.fails (one.first other size two.segment (inl longer)))
        | inr to ↦
            let same : len ≡ size = omega arith in
            elim (cases_lt start other) [
              | inl before ↦ absurd (one.fails (two.first start len one.segment (inr (same, before))))
              | inr after ↦ elim (cases_lt other start) [
                | inl before ↦ absurd (two.fails (one.first other size two.segment (inr (sym same, before))))
                | inr not_after ↦ (omega arith, same)
              ]
            ]
      ]
    ]

-- tables that say the same of each segment
abbrev pub AreOne : List Entry → Table → Table → Type 0
AreOne m low other = (start len : ℕ) → IsSegment m start len → low start len ≡ other start len

least_to-one : (test : ℕ → Bool) (value other : ℕ → ℕ) (most least n : ℕ) → ((k : ℕ) → 0 < k → k ≤ n → value k ≡ other k) → most ≡ least → least_to test value most n ≡ least_to test other least n
least_to-one test value other most least zero same is = is
least_to-one test value other most least (suc n) same is =
    let here = same (suc n) (omega arith) (omega arith) in
    omega (arith, of (test (suc n)) here, least_to-one test value other most least n (λ k some le. same k some (omega arith)) is)
  where
    of : (b : Bool) → value (suc n) ≡ other (suc n) → cond b (value (suc n)) most ≡ cond b (other (suc n)) least
    of true here = here
    of false here = is

run_one : (m : List Entry) (low other : Table) (start len : ℕ) → AreOne m low other → IsSegment m start len → least_run m low start len ≡ least_run m other start len
run_one m low other start len same segment =
    least_to-one (is_split m start len) (low start) (other start) (low start len) (other start len) len (λ k some le. same start k (some, omega (arith, segment.1))) (same start len segment)

cut_one : (w : Weights) (m : List Entry) (low other : Table) (start len : ℕ) (cut : List ℕ) → AreOne m low other → start + len ≤ length m → All (λ n. 0 < n) cut → sum cut ≡ len
    → cut_cost w m low start cut ≡ cut_cost w m other start cut
cut_one w m low other start len [] same inside positive whole = refl
cut_one w m low other start len (k ∷ cut) same inside positive whole =
    let all : k + sum cut ≡ len = sym (sum_by-cons (λ (x : ℕ). x) k cut) ∙ whole in
    omega (
      arith,
      run_one m low other start k same (All-head (λ n. 0 < n) k cut positive, omega (arith, all, inside)),
      cut_one w m low other (start + k) (sum cut) cut same (omega (arith, all, inside)) (All-tail (λ n. 0 < n) k cut positive) refl,
    )

-- a block of a segment
block_segment : (m : List Entry) (start len block count : ℕ) → IsSegment m start len → count * block ≡ len → IsSegment m start block
block_segment m start len block zero segment whole = absurd (omega (arith, segment.0, whole))
block_segment m start len zero (suc count) segment whole = absurd (omega (arith, segment.0, whole))
block_segment m start len (suc block) (suc count) segment whole = (omega arith, omega (arith, segment.1, whole))

pub holds_one : (w : Weights) (m : List Entry) (low other : Table) (start len : ℕ) → AreOne m low other → IsSegment m start len → HoldsAt w m low start len → HoldsAt w m other start len
holds_one w m low other start len same segment here = record {
  leaf = λ one. omega (arith, same start len segment, here.leaf one);
  cuts = λ cut positive whole. omega (arith, same start len segment, here.cuts cut positive whole, cut_one w m low other start len cut same segment.1 positive whole);
  alike = λ block count whole stand. omega (arith, same start len segment, here.alike block count whole stand, run_one m low other start block same (block_segment m start len block count segment whole));
  even = λ block count step whole stand rise.
      omega (arith, same start len segment, here.even block count step whole stand rise, run_one m low other start block same (block_segment m start len block count segment whole));
}

one_back : (m : List Entry) (low other : Table) → AreOne m low other → AreOne m other low
one_back m low other same start len segment = sym (same start len segment)

-- of two tables that say the same of each segment both are valid, or none is
pub valid_one : (w : Weights) (m : List Entry) (low other : Table) → AreOne m low other → IsValid w m low → IsValid w m other
valid_one w m low other same valid =
    (valid_everywhere w m other).1 (λ start len segment. holds_one w m low other start len same segment ((valid_everywhere w m low).0 valid start len segment))

failing_one : (w : Weights) (m : List Entry) (low other : Table) (start len : ℕ) → AreOne m low other → IsFirstFailing w m low start len → IsFirstFailing w m other start len
failing_one w m low other start len same is = record {
  segment = is.segment;
  fails = λ holds. is.fails (holds_one w m other low start len (one_back m low other same) is.segment holds);
  first = λ s l segment earlier. holds_one w m low other s l same segment (is.first s l segment earlier);
}

-- what a search of one of them finds, one of the other finds too
pub found_one : (w : Weights) (m : List Entry) (low other : Table) → AreOne m low other → (found : Option Segment)
    → MatchOption found (IsValid w m low) (λ s. IsFirstFailing w m low s.from (s.to - s.from)) → MatchOption found (IsValid w m other) (λ s. IsFirstFailing w m other s.from (s.to - s.from))
found_one w m low other same None valid = valid_one w m low other same valid
found_one w m low other same (Some s) failing = failing_one w m low other s.from (s.to - s.from) same failing

-- all segments hold
pub all_valid : (w : Weights) (m : List Entry) (low : Table) (most : ℕ) (sums : Sums) → AreKnown w m low most sums → length m ≤ most → IsValid w m low
all_valid w m low most sums known end = (valid_everywhere w m low).1 (λ start len segment. known.holds start len segment (omega (arith, segment.1)))

-- the first one that doesn't
pub first_fails : (w : Weights) (m : List Entry) (low : Table) (k start : ℕ) (sums : Sums) → AreKnown w m low k sums → start + (k + 1) ≤ length m
    → ¬ HoldsAt w m low start (k + 1) → ((s : ℕ) → s < start → HoldsAt w m low s (k + 1)) → IsFirstFailing w m low start (k + 1)
first_fails w m low k start sums known inside fails before = record {
  segment = (omega arith, inside);
  fails = fails;
  first = λ s l segment earlier. elim earlier [
    | inl shorter ↦ known.holds s l segment (omega arith)
    | inr as_long ↦ subst (HoldsAt w m low s) (sym as_long.0) (before s as_long.1)
  ];
}
