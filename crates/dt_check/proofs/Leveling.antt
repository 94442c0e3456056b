-- what is known of one length's segments, one by one, and of all lengths
use Rattle.std.proofs.Common.{◌≡◌, inl, inr, ℕ, ◌+◌, ◌-◌, ◌≤◌, ◌<◌, min, List, [], ◌∷◌, ◌++◌, length, get_or, sym, ap, ◌∙◌, subst, arith, below_more, length-append}
use Rattle.std.specs.Global.{Vec}
use Rattle.std.proofs.lemmas.Bool.{cases_lt}
use Rattle.std.proofs.lemmas.List.{get_or_append_left, get_or_push, get_or_default}
use Rattle.dt_map.specs.declared.entry.Entry.{Entry}
use Rattle.dt_tree.specs.Weights.{Weights, AreLight}
use Rattle.dt_normal.specs.Costs.{IsLeastOf}
use Rattle.dt_normal.specs.Table.{Table, IsSegment, least_run}
use Rattle.dt_check.specs.declared.level.Bound.{Bound}
use Rattle.dt_check.specs.declared.sums.Level.{Level}
use Rattle.dt_check.specs.declared.sums.Sums.{Sums}
use Rattle.dt_check.specs.Failing.{HoldsAt}
use Rattle.dt_check.specs.Levels.{AreKnown, AreLengths, IsBound, IsCutCost, IsKnownLevel}
use Rattle.dt_check.specs.Rows.{AreRows, table_in}
use Rattle.dt_check.specs.Sums.{AreLeastSums}
use Rattle.dt_check.proofs.Bounding.{IsAt, within_holds, run_found, cut_found}
use Rattle.dt_check.proofs.Rowed.{rows_more, table_before, table_last}

pub at_of : (w : Weights) (m : List Entry) (low : Table) (start len parts : ℕ) (sums : Sums) (bound : Bound) (list : List ℕ) → AreLight w → length m ≤ 1024 → 1 ≤ len → start + len ≤ length m
    → AreKnown w m low (len - 1) sums → AreLeastSums (length m) len sums.runs.items sums.cuts.items (len - 1) list → parts ≡ get_or list start parts → IsBound w m start len parts sums bound
    → IsAt w m low start len parts sums bound
at_of w m low start len parts sums bound list light few some inside known least is found =
    let within : start < length list = omega (arith, least.each) in
    let here : get_or list start 0 ≡ parts = get_or_default list start 0 parts within ∙ sym is in
    record {
      light = light;
      few = few;
      some = some;
      inside = inside;
      known = known;
      least = subst (Rattle.dt_normal.specs.Splits.IsLowest _ _ 2050000000) here (least.least start within);
      found = found;
    }

pub none_known : (w : Weights) (m : List Entry) (low : Table) (len : ℕ) (level : Level) → level.lows.items ≡ [] → level.runs.items ≡ [] → level.cuts.items ≡ [] → IsKnownLevel w m low len 0 level
none_known w m low len level lows runs cuts = record {
  low_count = ap length lows;
  run_count = ap length runs;
  cut_count = ap length cuts;
  lows = λ k lt. absurd (omega arith);
  runs = λ k lt. absurd (omega arith);
  cuts = λ k lt. absurd (omega arith);
  holds = λ k lt. absurd (omega arith);
}

-- a number at the end of a list
pushed : (P : ℕ → ℕ → Type 0) (count x : ℕ) (before now : List ℕ) → length before ≡ count → now ≡ before ++ x ∷ [] → ((k : ℕ) → k < count → P k (get_or before k 0)) → P count x
    → (k : ℕ) → k < count + 1 → P k (get_or now k 0)
pushed P count x before now each is were last k lt =
    below_more (λ i. P i (get_or now i 0)) count
    (λ i less. subst (P i) (sym (ap (λ (l : List ℕ). get_or l i 0) is ∙ get_or_append_left before (x ∷ []) 0 i (omega (arith, each)))) (were i less))
    (subst (P count) (sym (ap (λ (l : List ℕ). get_or l count 0) is ∙ get_or_push before x 0 count each)) last) k lt

pub one_known : (w : Weights) (m : List Entry) (low : Table) (len k value parts : ℕ) (sums : Sums) (bound : Bound) (level now : Level) → IsAt w m low k len parts sums bound → low k len ≤ bound.most
    → value ≡ low k len → IsKnownLevel w m low len k level → now.lows.items ≡ level.lows.items ++ value ∷ [] → now.runs.items ≡ level.runs.items ++ min value bound.stacked ∷ []
    → now.cuts.items ≡ level.cuts.items ++ (w.part + min (min value bound.stacked) parts) ∷ [] → IsKnownLevel w m low len (k + 1) now
one_known w m low len k value parts sums bound level now at within is known lows runs cuts =
    let here = within_holds w m low k len parts sums bound at within in
    let run : min value bound.stacked ≡ least_run m low k len = ap (λ v. min v bound.stacked) is ∙ run_found w m low k len parts sums bound at within in
    let cut = subst (λ r. IsLeastOf (IsCutCost w m low k len) (w.part + min r parts)) (sym run) (cut_found w m low k len parts sums bound at here) in
    record {
      low_count = ap length lows ∙ (length-append level.lows.items (value ∷ []) ∙ ap (λ n. n + 1) known.low_count);
      run_count = ap length runs ∙ (length-append level.runs.items (min value bound.stacked ∷ []) ∙ ap (λ n. n + 1) known.run_count);
      cut_count = ap length cuts ∙ (length-append level.cuts.items ((w.part + min (min value bound.stacked) parts) ∷ []) ∙ ap (λ n. n + 1) known.cut_count);
      lows = pushed (λ i v. v ≡ low i len) k value level.lows.items now.lows.items known.low_count lows known.lows is;
      runs = pushed (λ i v. v ≡ least_run m low i len) k (min value bound.stacked) level.runs.items now.runs.items known.run_count runs known.runs run;
      cuts = pushed (λ i v. IsLeastOf (IsCutCost w m low i len) v) k (w.part + min (min value bound.stacked) parts) level.cuts.items now.cuts.items known.cut_count cuts known.cuts cut;
      holds = λ i lt. below_more (λ j. HoldsAt w m low j len) k known.holds here i lt;
    }

-- all lengths
pub nothing_known : (w : Weights) (m : List Entry) (low : Table) (sums : Sums) → sums.lows.items ≡ [] → sums.runs.items ≡ [] → sums.cuts.items ≡ [] → AreKnown w m low 0 sums
nothing_known w m low sums lows runs cuts = record {
  low_rows = record { shape = rw lows (none (length m)); each = ap length lows };
  run_rows = record { shape = rw runs (none (length m)); each = ap length runs };
  cut_rows = record { shape = rw cuts (none (length m)); each = ap length cuts };
  lows = λ start len segment le. absurd (omega (arith, segment.0));
  runs = λ start len segment le. absurd (omega (arith, segment.0));
  cuts = λ start len segment le. absurd (omega (arith, segment.0));
  holds = λ start len segment le. absurd (omega (arith, segment.0));
}
  where
    none : (n : ℕ) → AreRows n []
    none n = record { few = omega arith; row = λ k lt. absurd (omega arith) }

lengths_more : (m : List Entry) (most : ℕ) (rows now : List (Vec ℕ)) (row : Vec ℕ) → AreLengths m most rows → most < length m → length row.items ≡ length m - most → now ≡ rows ++ row ∷ []
    → AreLengths m (most + 1) now
lengths_more m most rows now row are less long is = record {
  shape = subst (AreRows (length m)) (sym is) (rows_more (length m) rows row are.shape (omega (arith, are.each)) (omega (arith, long, are.each)));
  each = ap length is ∙ (length-append rows (row ∷ []) ∙ ap (λ n. n + 1) are.each);
}

-- the numbers of one length more
table_more : (m : List Entry) (most : ℕ) (rows now : List (Vec ℕ)) (row : Vec ℕ) (P : ℕ → ℕ → ℕ → Type 0) → AreLengths m most rows → now ≡ rows ++ row ∷ []
    → ((start len : ℕ) → IsSegment m start len → len ≤ most → P start len (table_in rows start len)) → ((k : ℕ) → k < length m - most → P k (most + 1) (get_or row.items k 0))
    → (start len : ℕ) → IsSegment m start len → len ≤ most + 1 → P start len (table_in now start len)
table_more m most rows now row P are is were last start len segment le =
    elim (cases_lt most len) [
      | inr within ↦
          subst (P start len) (sym (ap (λ (l : List (Vec ℕ)). table_in l start len) is ∙ table_before rows row start len (omega (arith, are.each)))) (were start len segment within)
      | inl more ↦
          let same : len ≡ most + 1 = omega arith in
          let here : table_in now start len ≡ get_or row.items start 0 = ap (λ (l : List (Vec ℕ)). table_in l start len) is ∙ table_last rows row start len (omega (arith, are.each)) in
          subst (P start len) (sym here) (subst (λ n. P start n (get_or row.items start 0)) (sym same) (last start (omega (arith, segment.1))))
    ]

pub more_known : (w : Weights) (m : List Entry) (low : Table) (most : ℕ) (sums now : Sums) (level : Level) → most < length m → AreKnown w m low most sums
    → IsKnownLevel w m low (most + 1) (length m + 1 - (most + 1)) level → now.lows.items ≡ sums.lows.items ++ level.lows ∷ [] → now.runs.items ≡ sums.runs.items ++ level.runs ∷ []
    → now.cuts.items ≡ sums.cuts.items ++ level.cuts ∷ [] → AreKnown w m low (most + 1) now
more_known w m low most sums now level less known here lows runs cuts = record {
  low_rows = lengths_more m most sums.lows.items now.lows.items level.lows known.low_rows less (omega (arith, here.low_count)) lows;
  run_rows = lengths_more m most sums.runs.items now.runs.items level.runs known.run_rows less (omega (arith, here.run_count)) runs;
  cut_rows = lengths_more m most sums.cuts.items now.cuts.items level.cuts known.cut_rows less (omega (arith, here.cut_count)) cuts;
  lows = table_more m most sums.lows.items now.lows.items level.lows (λ start len v. v ≡ low start len) known.low_rows lows known.lows (λ k lt. here.lows k (omega arith));
  runs = table_more m most sums.runs.items now.runs.items level.runs (λ start len v. v ≡ least_run m low start len) known.run_rows runs known.runs (λ k lt. here.runs k (omega arith));
  cuts = table_more m most sums.cuts.items now.cuts.items level.cuts (λ start len v. IsLeastOf (IsCutCost w m low start len) v) known.cut_rows cuts known.cuts (λ k lt. here.cuts k (omega arith));
  holds = λ start len segment le. elim (cases_lt most len) [
    | inr within ↦ known.holds start len segment within
    | inl more ↦
        let same : len ≡ most + 1 = omega arith in
        subst (HoldsAt w m low start) (sym same) (here.holds start (omega (arith, segment.1)))
  ];
}
