-- what rows say of a segment, and rows that grow
use Rattle.std.proofs.Common.{◌≡◌, ℕ, zero, suc, ◌+◌, ◌-◌, ◌*◌, ◌≤◌, ◌<◌, ◌/◌, ◌%◌, IsTrue, nat_le, take, pos, List, [], ◌∷◌, ◌++◌, length, drop, get_or, replicate, refl, sym, ap, subst, ◌∙◌, arith, below_more, length-append}
use Rattle.std.proofs.lemmas.List.{get_or_append_left, get_or_default, get_or_push, get_or-replicate, length-drop, length-replicate, take_all, take_at}
use Rattle.std.proofs.lemmas.Nat.{div-add-mod'}
use Rattle.std.proofs.lemmas.Bool.{leb-true, le-leb}
use Rattle.std.specs.Global.{Vec}
use Rattle.dt_map.specs.declared.entry.Entry.{Entry}
use Rattle.dt_map.specs.Alike.{segment}
use Rattle.dt_map.specs.Runs.{natural_extent}
use Rattle.dt_alike.specs.declared.likeness.Blocks.{Blocks}
use Rattle.dt_alike.specs.declared.likeness.Likeness.{Likeness}
use Rattle.dt_alike.specs.Blocks.{IsRun}
use Rattle.dt_alike.specs.Extents.{AreExtents}
use Rattle.dt_alike.specs.First.{AreFirsts}
use Rattle.dt_alike.specs.Likeness.{AreBlocks, IsLikeness, IsRow, AreRows}
use Rattle.dt_alike.specs.Reach.{IsReach, AreReaches}

-- the row of a start, and what it says of a length
pub row_at : (m : List Entry) (rows : List (Vec Likeness)) (start : ℕ) (row : Vec Likeness) → AreRows m rows → start < length m → length m ≤ start + length rows
    → row ≡ get_or rows (length m - 1 - start) row → IsRow m start row.items
row_at m rows start row are inside enough is =
    let place : length m - suc (length m - 1 - start) ≡ start = omega arith in
    subst (λ (r : Vec Likeness). IsRow m start r.items) (sym is) (subst (λ n. IsRow m n (get_or rows (length m - 1 - start) row).items) place (are.row (length m - 1 - start) row (omega arith)))

pub likeness_in : (m : List Entry) (start len : ℕ) (row : List Likeness) (a : Likeness) → IsRow m start row → 1 ≤ len → start + len ≤ length m
    → a ≡ get_or row (len - 1) a → IsLikeness m start len a
likeness_in m start zero row a is some inside at = absurd (omega arith)
likeness_in m start (suc k) row a is some inside at =
    let same : suc k - 1 ≡ k = omega arith in
    let here : a ≡ get_or row k a = at ∙ ap (λ n. get_or row n a) same in
    subst (IsLikeness m start (suc k)) (sym here) (is.known k a (omega (arith, is.each)))

-- a row as far as it goes
pub record Known (m : List Entry) (start k : ℕ) (row : List Likeness) : Type 0 where
  pub each : length row ≡ k
  pub known : (j : ℕ) (other : Likeness) → j < k → IsLikeness m start (suc j) (get_or row j other)

pub none_known : (m : List Entry) (start : ℕ) → Known m start 0 []
none_known m start = record { each = refl; known = λ j other lt. absurd (omega arith) }

pub one_known : (m : List Entry) (start k : ℕ) (row : List Likeness) (a : Likeness) → Known m start k row → IsLikeness m start (suc k) a → Known m start (k + 1) (row ++ a ∷ [])
one_known m start k row a known is = record {
  each = length-append row (a ∷ []) ∙ ap (λ n. n + 1) known.each;
  known = λ j other lt. below_more (λ i. IsLikeness m start (suc i) (get_or (row ++ a ∷ []) i other)) k
      (λ i below. rw (get_or_append_left row (a ∷ []) other i (omega (arith, known.each))) (known.known i other below))
      (rw (get_or_push row a other k known.each) is) j lt;
}

pub all_known : (m : List Entry) (start k : ℕ) (row : List Likeness) → start + k ≡ length m → Known m start k row → IsRow m start row
all_known m start k row end known = record { each = omega (arith, known.each); known = λ j other lt. known.known j other (omega (arith, known.each)) }

-- a number of a list, as code reads it
read_at : (xs : List ℕ) (k x : ℕ) → k < length xs → x ≡ get_or xs k x → x ≡ get_or xs k 0
read_at xs k x lt is = is ∙ get_or_default xs k x 0 lt

-- the extents of the entries from a start on
extents_from : (m : List Entry) (start : ℕ) (extents : List ℕ) → AreExtents (take (length m - start) (drop start m)) extents → AreExtents (drop start m) extents
extents_from m start extents are = rw (take_all (length m - start) (drop start m) (omega (arith, length-drop start m))) at are

pub natural_at : (m : List Entry) (start k natural : ℕ) (firsts extents : List ℕ) → AreFirsts m start firsts
    → AreExtents (take (length m - start) (drop start m)) extents → k < length firsts → natural ≡ get_or extents k natural
    → pos natural ≡ natural_extent (segment m start (suc k))
natural_at m start k natural firsts extents are_firsts told lt is =
    let are = extents_from m start extents told in
    let inside : k < length (drop start m) = omega (arith, length-drop start m, are_firsts.each) in
    ap pos (read_at extents k natural (omega (arith, are.each)) is) ∙ are.extent k inside

pub natural_next : (m : List Entry) (start k natural : ℕ) (firsts extents : List ℕ) → AreFirsts m start firsts
    → AreExtents (take (length m - start) (drop start m)) extents → k < length firsts → natural ≡ get_or extents k natural
    → pos natural ≡ natural_extent (segment m start (k + 1))
natural_next m start k natural firsts extents are_firsts told lt is =
    let next : k + 1 ≡ suc k = omega arith in
    rw next (natural_at m start k natural firsts extents are_firsts told lt is)

pub known_of : (m : List Entry) (start k first : ℕ) (blocks : Blocks) (natural : ℕ) (firsts extents : List ℕ) → AreFirsts m start firsts
    → AreExtents (take (length m - start) (drop start m)) extents → k < length firsts → first ≡ get_or firsts k first → natural ≡ get_or extents k natural
    → AreBlocks m start (k + 1) blocks → IsLikeness m start (suc k) (record { first = first; blocks = blocks; natural = natural })
known_of m start k first blocks natural firsts extents are_firsts told lt at_first at_natural are =
    let next : k + 1 ≡ suc k = omega arith in
    record {
      first = read_at firsts k first lt at_first ∙ are_firsts.first k lt;
      blocks = rw next at are;
      natural = natural_at m start k natural firsts extents are_firsts told lt at_natural;
    }

-- rows from the last start on
pub record Rows (m : List Entry) (k : ℕ) (reaches : List ℕ) (rows : List (Vec Likeness)) : Type 0 where
  pub each : length rows ≡ k
  pub inside : k ≤ length m
  pub reach : AreReaches m (length m - k) reaches
  pub said : AreRows m rows

no_reach : (m : List Entry) (k : ℕ) → k < length m → IsReach m (length m) k 0
no_reach m k lt = record { inside = omega arith; other_inside = omega arith; same = refl; stops = λ more other_more same. absurd (omega arith) }

pub none_rows : (m : List Entry) (reaches : List ℕ) → reaches ≡ replicate (length m) 0 → Rows m 0 reaches []
none_rows m reaches is = record {
  each = refl;
  inside = omega arith;
  reach = record {
    each = ap length is ∙ length-replicate (length m) 0;
    reach = λ k lt.
        let zero_at : get_or reaches k 0 ≡ 0 = ap (λ (xs : List ℕ). get_or xs k 0) is ∙ get_or-replicate (length m) k 0 0 lt in
        let whole : length m - 0 ≡ length m = omega arith in
        rw (zero_at, whole) (no_reach m k lt);
  };
  said = record { few = omega arith; row = λ k other lt. absurd (omega arith) };
}

pub next_reaches : (m : List Entry) (k : ℕ) (before now : List ℕ) (rows : List (Vec Likeness)) → Rows m k before rows → k < length m → now ≡ before
    → AreReaches m (length m - 1 - k + 1) now
next_reaches m k before now rows known lt is =
    let start : length m - 1 - k + 1 ≡ length m - k = omega arith in
    rw (is, start) known.reach

pub one_row : (m : List Entry) (k : ℕ) (before reaches : List ℕ) (rows : List (Vec Likeness)) (row : Vec Likeness) → Rows m k before rows → k < length m
    → AreReaches m (length m - 1 - k) reaches → IsRow m (length m - 1 - k) row.items → Rows m (k + 1) reaches (rows ++ row ∷ [])
one_row m k before reaches rows row known lt reach is =
    let start : length m - 1 - k ≡ length m - (k + 1) = omega arith in
    let place : length m - 1 - k ≡ length m - suc k = omega arith in
    let whole : length (rows ++ row ∷ []) ≡ k + 1 = length-append rows (row ∷ []) ∙ ap (λ n. n + 1) known.each in
    record {
      each = whole;
      inside = omega arith;
      reach = subst (λ n. AreReaches m n reaches) start reach;
      said = record {
        few = omega arith;
        row = λ j other below. below_more (λ i. IsRow m (length m - suc i) (get_or (rows ++ row ∷ []) i other).items) k
            (λ i less. rw (get_or_append_left rows (row ∷ []) other i (omega (arith, known.each))) (known.said.row i other (omega (arith, known.each))))
            (rw (get_or_push rows row other k known.each) (subst (λ n. IsRow m n row.items) place is)) j (omega arith);
      };
    }

-- a number of blocks that make up a segment is told by the greatest one
pub run_decides : (Holds : ℕ → Type 0) (m : List Entry) (i j block run : ℕ) → i < j → j ≤ length m → 1 ≤ block → (j - i) % block ≡ 0 → IsRun Holds m i block run
    → (IsTrue (nat_le ((j - i) / block) run) → Holds ((j - i) / block)) × (Holds ((j - i) / block) → IsTrue (nat_le ((j - i) / block) run))
run_decides Holds m i j block run some inside block_some whole is =
    let count : ℕ = (j - i) / block in
    let parts = div-add-mod' (j - i) block in
    let all : i + count * block ≤ length m = omega (arith, parts) in
    (λ yes. is.holds count (leb-true count run yes), λ h. le-leb count run (is.stops count all h))

-- a list that was lent and came back whole
pub came_back : (len : ℕ) (xs ys : List ℕ) → length xs ≡ len → take len (xs ++ drop (length xs) ys) ≡ xs
came_back len xs ys same = take_at xs (drop (length xs) ys) len same

pub row_back : (m : List Entry) (k len : ℕ) (before reaches : List ℕ) (rows : List (Vec Likeness)) (row : Vec Likeness) → Rows m k before rows → k < length m
    → len ≡ length before → AreReaches m (length m - 1 - k) reaches → IsRow m (length m - 1 - k) row.items
    → Rows m (k + 1) (take len (reaches ++ drop (length reaches) before)) (rows ++ row ∷ [])
row_back m k len before reaches rows row known lt same reach is =
    rw (came_back len reaches before (omega (arith, reach.each, known.reach.each))) (one_row m k before reaches rows row known lt reach is)
