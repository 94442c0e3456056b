-- a table holds at a segment exactly where its value is not above the bound that is found from shorter segments
use Rattle.std.proofs.Common.{◌≡◌, ◌⊎◌, inl, inr, ℕ, zero, suc, ◌+◌, ◌-◌, ◌*◌, ◌/◌, ◌≤◌, ◌<◌, min, List, [], ◌∷◌, length, refl, sym, ap, ◌∙◌, subst, true, arith}
use Rattle.std.specs.Prelude.{IsTrue}
use Rattle.std.specs.List.{All, sum}
use Rattle.std.proofs.lemmas.Bool.{cases_lt}
use Rattle.std.proofs.lemmas.List.Elements.{All-cons, All-nil, All-head, All-tail}
use Rattle.std.proofs.lemmas.List.Sums.{sum_by-cons}
use Rattle.dt_map.specs.declared.entry.Entry.{Entry}
use Rattle.dt_map.specs.Alike.{segment, are_alike, rise_by, are_stacked}
use Rattle.dt_map.specs.Runs.{natural_extent}
use Rattle.dt_map.proofs.Likeness.{both_true}
use Rattle.dt_tree.specs.Weights.{Weights, AreLight}
use Rattle.dt_normal.specs.Costs.{IsLeastOf}
use Rattle.dt_normal.specs.Splits.{IsBlockLength, IsLowest, alone}
use Rattle.dt_normal.specs.Table.{Table, least_run, cut_cost}
use Rattle.dt_normal.proofs.Bounds.{least_run-le, least_run_is_least, one_block}
use Rattle.dt_normal.proofs.Cells.{divided, is_block_length, how_many}
use Rattle.dt_check.specs.declared.blocks.Split.TheVariants.{Alike, Even, Stacked}
use Rattle.dt_check.specs.declared.level.Bound.{Bound}
use Rattle.dt_check.specs.declared.sums.Sums.{Sums}
use Rattle.dt_check.specs.Blocks.{IsSplit, split_cost}
use Rattle.dt_check.specs.Failing.{HoldsAt}
use Rattle.dt_check.specs.Levels.{AreKnown, IsBound, IsCutCost}
use Rattle.dt_check.specs.Rows.{table_in}
use Rattle.dt_check.specs.Sums.{IsFirst, two_parts}
use Rattle.dt_check.proofs.Ones.{run_most, low_few}

-- what is known where one segment is tested
pub record IsAt (w : Weights) (m : List Entry) (low : Table) (start len parts : ℕ) (sums : Sums) (bound : Bound) : Type 0 where
  pub light : AreLight w
  pub few : length m ≤ 1024
  pub some : 1 ≤ len
  pub inside : start + len ≤ length m
  pub known : AreKnown w m low (len - 1) sums
  pub least : IsLowest (IsFirst (len - 1)) (two_parts sums.runs.items sums.cuts.items start len) 2050000000 parts
  pub found : IsBound w m start len parts sums bound

-- the least run is the segment's value, or that of a first block of two or more
run_cases : (m : List Entry) (low : Table) (start len : ℕ) → 0 < len
    → (least_run m low start len ≡ low start len) ⊎ ((block : ℕ) × IsBlockLength len block × IsTrue (are_stacked m start block (len / block)) × (least_run m low start len ≡ low start block))
run_cases m low start len some =
    let least = (least_run_is_least m low start len some).1 in
    of least.0 least.1 least.2 least.3 least.4
  where
    of : (block count : ℕ) → count * block ≡ len → are_stacked m start block count ≡ true → least_run m low start len ≡ low start block
        → (least_run m low start len ≡ low start len) ⊎ ((block : ℕ) × IsBlockLength len block × IsTrue (are_stacked m start block (len / block)) × (least_run m low start len ≡ low start block))
    of block count whole stand is =
        elim (cases_lt 1 count) [
          | inl many ↦
              let part = is_block_length len block count some whole many in
              inr (block, part, subst (λ n. are_stacked m start block n ≡ true) (sym (how_many len block count (omega (arith, part.0)) whole)) stand, is)
          | inr one ↦ inl (is ∙ ap (low start) (single count whole (omega (arith, one))))
        ]
      where
        single : (n : ℕ) → n * block ≡ len → n ≤ 1 → block ≡ len
        single zero e le = absurd (omega (arith, e, some))
        single (suc zero) e le = omega (arith, e)
        single (suc (suc n)) e le = absurd (omega arith)

-- a node over one block, which is the segment itself
over_one : (w : Weights) (m : List Entry) (low : Table) (start len : ℕ) → 1 ≤ len → HoldsAt w m low start len → low start len ≤ alone w + least_run m low start len
over_one w m low start len some here =
    let stand = both_true (are_alike m start len 1) (rise_by (natural_extent (segment m start len)) m start len 1) (one_block m start len) in
    let one : 1 * len ≡ len = omega arith in
    let cut = here.cuts (len ∷ []) (All-cons (λ n. 0 < n) len [] some (All-nil (λ n. 0 < n))) (sum_by-cons (λ (x : ℕ). x) len [] ∙ omega arith) in
    omega (arith, cut, here.alike len 1 one stand.0, here.even len 1 (natural_extent (segment m start len)) one stand.0 stand.1)

-- the cheapest parts, two or more of them
parts_hold : (w : Weights) (m : List Entry) (low : Table) (start len parts : ℕ) (sums : Sums) (bound : Bound) → IsAt w m low start len parts sums bound → 2 ≤ len
    → HoldsAt w m low start len → low start len ≤ w.group + w.part + parts
parts_hold w m low start len parts sums bound at long here =
    elim at.least.found [
      | inl none ↦ omega (arith, none, at.few, at.inside, low_few w m low start len at.light (at.some, at.inside) here (λ l s k segment one. at.known.holds s k segment (omega arith)))
      | inr first ↦
          let k : ℕ = first.0 in
          let rest = (at.known.cuts (start + first.0) (len - first.0) (omega (arith, first.1.1), omega (arith, at.inside, first.1.1)) (omega (arith, first.1.0))).0 in
          let run = at.known.runs start first.0 (first.1.0, omega (arith, at.inside, first.1.1)) first.1.1 in
          omega (
            arith,
            first.2,
            run,
            rest.3,
            here.cuts (first.0 ∷ rest.0) (All-cons (λ n. 0 < n) first.0 rest.0 first.1.0 rest.1) (omega (arith, sum_by-cons (λ (x : ℕ). x) first.0 rest.0, rest.2, first.1.1)),
          )
    ]

-- where a table holds, its value is within the bound
pub holds_within : (w : Weights) (m : List Entry) (low : Table) (start len parts : ℕ) (sums : Sums) (bound : Bound) → IsAt w m low start len parts sums bound
    → HoldsAt w m low start len → low start len ≤ bound.most
holds_within w m low start len parts sums bound at here =
    elim (cases_lt 1 len) [
      | inl long ↦
          let found = at.found.more long in
          more long found.0 found.1 found.2 found.3 found.4 found.5
      | inr one ↦
          let single : len ≡ 1 = omega (arith, at.some) in
          omega (arith, here.leaf single, (at.found.one single).0)
    ]
  where
    more : 2 ≤ len → (index vector : ℕ) → IsLowest (IsSplit Alike m start len) (split_cost w Alike sums.runs.items start len) (w.group + w.part + parts) index
        → IsLowest (IsSplit Even m start len) (split_cost w Even sums.runs.items start len) index vector
        → IsLowest (IsSplit Stacked m start len) (split_cost w Stacked sums.lows.items start len) vector bound.stacked
        → bound.most ≡ min vector (alone w + bound.stacked) → low start len ≤ bound.most
    more long index vector alike even stacked is =
        omega (arith, is, below_vector, below_stacked)
      where
        run_at : (n : ℕ) → IsBlockLength len n → table_in sums.runs.items start n ≡ least_run m low start n
        run_at n part = at.known.runs start n (part.0, omega (arith, at.inside, part.1)) (omega (arith, part.1))

        below_index : low start len ≤ index
        below_index =
            elim alike.found [
              | inl same ↦ omega (arith, same, parts_hold w m low start len parts sums bound at long here)
              | inr split ↦ omega (arith, split.2, run_at split.0 split.1.0, here.alike split.0 (len / split.0) (divided len split.0 split.1.0).whole split.1.1)
            ]

        below_vector : low start len ≤ vector
        below_vector =
            elim even.found [
              | inl same ↦ omega (arith, same, below_index)
              | inr split ↦ omega (arith, split.2, run_at split.0 split.1.0, here.even split.0 (len / split.0) split.1.1.1.0 (divided len split.0 split.1.0).whole split.1.1.0 split.1.1.1.1)
            ]

        below_stacked : low start len ≤ alone w + bound.stacked
        below_stacked =
            elim stacked.found [
              | inl same ↦ omega (arith, same, below_vector)
              | inr split ↦
                  omega (
                    arith,
                    split.2,
                    at.known.lows start split.0 (split.1.0.0, omega (arith, at.inside, split.1.0.1)) (omega (arith, split.1.0.1)),
                    least_run-le m low start len split.0 (len / split.0) at.some (divided len split.0 split.1.0).whole split.1.1,
                    over_one w m low start len at.some here,
                  )
            ]

-- within the bound, a node over one block costs no less than the value
single_block : (len block count : ℕ) → 0 < len → count * block ≡ len → count ≤ 1 → (block ≡ len) × (count ≡ 1)
single_block len block zero some e le = absurd (omega (arith, e))
single_block len block (suc zero) some e le = (omega (arith, e), refl)
single_block len block (suc (suc n)) some e le = absurd (omega arith)

-- what the bound says, where a segment has two or more entries
record Bounded (w : Weights) (m : List Entry) (start len parts most stacked : ℕ) (sums : Sums) : Type 0 where
  index : ℕ
  vector : ℕ
  alike : IsLowest (IsSplit Alike m start len) (split_cost w Alike sums.runs.items start len) (w.group + w.part + parts) index
  even : IsLowest (IsSplit Even m start len) (split_cost w Even sums.runs.items start len) index vector
  stack : IsLowest (IsSplit Stacked m start len) (split_cost w Stacked sums.lows.items start len) vector stacked
  least : most ≡ min vector (alone w + stacked)

bounded : (w : Weights) (m : List Entry) (low : Table) (start len parts : ℕ) (sums : Sums) (bound : Bound) → IsAt w m low start len parts sums bound → 2 ≤ len
    → Bounded w m start len parts bound.most bound.stacked sums
bounded w m low start len parts sums bound at long =
    let found = at.found.more long in
    record { index = found.0; vector = found.1; alike = found.2; even = found.3; stack = found.4; least = found.5 }

-- the numbers of a shorter block
run_of : (w : Weights) (m : List Entry) (low : Table) (start len parts n : ℕ) (sums : Sums) (bound : Bound) → IsAt w m low start len parts sums bound → IsBlockLength len n
    → table_in sums.runs.items start n ≡ least_run m low start n
run_of w m low start len parts n sums bound at part = at.known.runs start n (part.0, omega (arith, at.inside, part.1)) (omega (arith, part.1))

low_of : (w : Weights) (m : List Entry) (low : Table) (start len parts n : ℕ) (sums : Sums) (bound : Bound) → IsAt w m low start len parts sums bound → IsBlockLength len n
    → table_in sums.lows.items start n ≡ low start n
low_of w m low start len parts n sums bound at part = at.known.lows start n (part.0, omega (arith, at.inside, part.1)) (omega (arith, part.1))

many_of : (len block : ℕ) → IsBlockLength len block → 2 ≤ len
many_of len block part = omega (arith, part.0, part.1)

-- of a value within the bound, that a node over the segment as one block costs no less
over_run : (w : Weights) (m : List Entry) (low : Table) (start len parts : ℕ) (sums : Sums) (bound : Bound) → IsAt w m low start len parts sums bound → low start len ≤ bound.most
    → low start len ≤ alone w + least_run m low start len
over_run w m low start len parts sums bound at within =
    elim (run_cases m low start len at.some) [
      | inl same ↦ omega (arith, same)
      | inr split ↦
          let block : ℕ = split.0 in
          let h = bounded w m low start len parts sums bound at (many_of len split.0 split.1) in
          omega (arith, within, h.least, h.stack.each split.0 (split.1, split.2), low_of w m low start len parts split.0 sums bound at split.1, split.3)
    ]

positive_sum : (k : ℕ) (cut : List ℕ) → All (λ n. 0 < n) (k ∷ cut) → 0 < k
positive_sum k cut all = All-head (λ n. 0 < n) k cut all

cut_within : (w : Weights) (m : List Entry) (low : Table) (start len parts : ℕ) (sums : Sums) (bound : Bound) → IsAt w m low start len parts sums bound → low start len ≤ bound.most
    → (cut : List ℕ) → All (λ n. 0 < n) cut → sum cut ≡ len → low start len ≤ w.group + cut_cost w m low start cut
cut_within w m low start len parts sums bound at within [] positive whole = absurd (omega (arith, whole, at.some))
cut_within w m low start len parts sums bound at within (k ∷ cut) positive whole =
    let all : k + sum cut ≡ len = sym (sum_by-cons (λ (x : ℕ). x) k cut) ∙ whole in
    let some : 0 < k = positive_sum k cut positive in
    elim (cases_lt k len) [
      | inl less ↦
          let h = bounded w m low start len parts sums bound at (omega (arith, some, less)) in
          let run = at.known.runs start k (some, omega (arith, at.inside, less)) (omega (arith, less)) in
          let rest = (at.known.cuts (start + k) (len - k) (omega (arith, less), omega (arith, at.inside, less)) (omega (arith, some))).1 (cut_cost w m low (start + k) cut)
          (cut, All-tail (λ n. 0 < n) k cut positive, omega (arith, all), refl) in
          omega (arith, within, h.least, h.even.starts, h.alike.starts, at.least.each k (some, omega (arith, less)), run, rest)
      | inr from ↦
          let same : k ≡ len = omega (arith, all) in
          omega (arith, over_run w m low start len parts sums bound at within, ap (least_run m low start) same)
    ]

pub within_holds : (w : Weights) (m : List Entry) (low : Table) (start len parts : ℕ) (sums : Sums) (bound : Bound) → IsAt w m low start len parts sums bound → low start len ≤ bound.most
    → HoldsAt w m low start len
within_holds w m low start len parts sums bound at within = record {
  leaf = λ one. omega (arith, within, (at.found.one one).0);
  cuts = cut_within w m low start len parts sums bound at within;
  alike = λ block count whole stand. elim (cases_lt 1 count) [
    | inl many ↦
        let part = is_block_length len block count at.some whole many in
        let few : len / block ≡ count = how_many len block count (omega (arith, part.0)) whole in
        let h = bounded w m low start len parts sums bound at (many_of len block part) in
        let each = h.alike.each block (part, subst (λ n. are_alike m start block n ≡ true) (sym few) stand) in
        omega (arith, within, h.least, h.even.starts, each, ap (λ n. w.place * n) few, run_of w m low start len parts block sums bound at part)
    | inr one ↦
        let single = single_block len block count at.some whole (omega (arith, one)) in
        omega (arith, over_run w m low start len parts sums bound at within, ap (least_run m low start) single.0, ap (λ n. w.place * n) single.1)
  ];
  even = λ block count step whole stand rise. elim (cases_lt 1 count) [
    | inl many ↦
        let part = is_block_length len block count at.some whole many in
        let few : len / block ≡ count = how_many len block count (omega (arith, part.0)) whole in
        let h = bounded w m low start len parts sums bound at (many_of len block part) in
        let each = h.even.each block (part, (subst (λ n. are_alike m start block n ≡ true) (sym few) stand, (step, subst (λ n. rise_by step m start block n ≡ true) (sym few) rise))) in
        omega (arith, within, h.least, each, run_of w m low start len parts block sums bound at part)
    | inr one ↦
        let single = single_block len block count at.some whole (omega (arith, one)) in
        omega (arith, over_run w m low start len parts sums bound at within, ap (least_run m low start) single.0)
  ];
}

-- the least run, as it is found
pub run_found : (w : Weights) (m : List Entry) (low : Table) (start len parts : ℕ) (sums : Sums) (bound : Bound) → IsAt w m low start len parts sums bound → low start len ≤ bound.most
    → min (low start len) bound.stacked ≡ least_run m low start len
run_found w m low start len parts sums bound at within =
    omega (arith, below, above)
  where
    below : min (low start len) bound.stacked ≤ least_run m low start len
    below =
        elim (run_cases m low start len at.some) [
          | inl same ↦ omega (arith, same)
          | inr split ↦
              let h = bounded w m low start len parts sums bound at (many_of len split.0 split.1) in
              omega (arith, h.stack.each split.0 (split.1, split.2), low_of w m low start len parts split.0 sums bound at split.1, split.3)
        ]

    above : least_run m low start len ≤ min (low start len) bound.stacked
    above =
        elim (cases_lt 1 len) [
          | inr one ↦
              let single : len ≡ 1 = omega (arith, at.some) in
              omega (arith, run_most m low start len, within, (at.found.one single).0, (at.found.one single).1)
          | inl long ↦
              let h = bounded w m low start len parts sums bound at long in
              elim h.stack.found [
                | inl same ↦ omega (arith, run_most m low start len, within, h.least, same)
                | inr split ↦
                    omega (
                      arith,
                      run_most m low start len,
                      least_run-le m low start len split.0 (len / split.0) at.some (divided len split.0 split.1.0).whole split.1.1,
                      low_of w m low start len parts split.0 sums bound at split.1.0,
                      split.2,
                    )
              ]
        ]

-- the least sum over the cuts, as it is found
pub cut_found : (w : Weights) (m : List Entry) (low : Table) (start len parts : ℕ) (sums : Sums) (bound : Bound) → IsAt w m low start len parts sums bound → HoldsAt w m low start len
    → IsLeastOf (IsCutCost w m low start len) (w.part + min (least_run m low start len) parts)
cut_found w m low start len parts sums bound at here = (reached, λ cost cut. least cost cut.0 cut.1 cut.2 cut.3)
  where
    value_few : low start len ≤ 1000000 + len * 2000000
    value_few = low_few w m low start len at.light (at.some, at.inside) here (λ long s k segment one. at.known.holds s k segment (omega (arith, long)))

    reached : IsCutCost w m low start len (w.part + min (least_run m low start len) parts)
    reached =
        elim (cases_lt parts (least_run m low start len)) [
          | inr from ↦ (
            len ∷ [],
            All-cons (λ n. 0 < n) len [] at.some (All-nil (λ n. 0 < n)),
            sum_by-cons (λ (x : ℕ). x) len [] ∙ omega arith,
            omega (arith, from),
          )
          | inl less ↦ elim at.least.found [
            | inl none ↦ absurd (omega (arith, none, less, run_most m low start len, value_few, at.few, at.inside))
            | inr first ↦
                let rest = (at.known.cuts (start + first.0) (len - first.0) (omega (arith, first.1.0, first.1.1, at.some), omega (arith, at.inside, first.1.1)) (omega (arith, first.1.0))).0 in
                let run = at.known.runs start first.0 (first.1.0, omega (arith, at.inside, first.1.1)) first.1.1 in (
                  first.0 ∷ rest.0,
                  All-cons (λ n. 0 < n) first.0 rest.0 first.1.0 rest.1,
                  sum_by-cons (λ (x : ℕ). x) first.0 rest.0 ∙ omega (arith, rest.2, first.1.0, first.1.1),
                  omega (arith, less, first.2, run, rest.3),
                )
          ]
        ]

    least : (cost : ℕ) (cut : List ℕ) → All (λ n. 0 < n) cut → sum cut ≡ len → cut_cost w m low start cut ≡ cost → w.part + min (least_run m low start len) parts ≤ cost
    least cost [] positive whole is = absurd (omega (arith, whole, at.some))
    least cost (k ∷ cut) positive whole is =
        let all : k + sum cut ≡ len = sym (sum_by-cons (λ (x : ℕ). x) k cut) ∙ whole in
        let some : 0 < k = positive_sum k cut positive in
        elim (cases_lt k len) [
          | inl less ↦
              let run = at.known.runs start k (some, omega (arith, at.inside, less)) (omega (arith, less)) in
              let rest = (at.known.cuts (start + k) (len - k) (omega (arith, less), omega (arith, at.inside, less)) (omega (arith, some))).1 (cut_cost w m low (start + k) cut)
              (cut, All-tail (λ n. 0 < n) k cut positive, omega (arith, all), refl) in
              omega (arith, is, at.least.each k (some, omega (arith, less)), run, rest)
          | inr from ↦
              let same : k ≡ len = omega (arith, all) in
              omega (arith, is, ap (least_run m low start) same)
        ]
