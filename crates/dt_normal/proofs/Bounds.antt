-- a valid table bounds every tree from below
use Rattle.std.proofs.Common.{◌≡◌, ◌⊎◌, inl, inr, ℕ, zero, suc, ◌+◌, ◌*◌, ◌/◌, ◌%◌, ◌≤◌, ◌<◌, ◌==◌, min, Bool, true, false, ◌&&◌, cond, ℤ, pos, negsuc, ◌+ℤ◌, ◌*ℤ◌, List, [], ◌∷◌, length, drop, sum, refl, sym, ap, ◌∙◌, subst, arith, length-append}
use Rattle.std.proofs.lemmas.Int.{ints}
use Rattle.std.proofs.lemmas.Bool.{cases_lt}
use Rattle.std.proofs.lemmas.Bool.Decides.{Decides-eqb, Decides-int_eq}
use Rattle.std.proofs.lemmas.List.{take_all, length-take-le, length-drop}
use Rattle.std.proofs.lemmas.List.Elements.{All-cons, All-nil}
use Rattle.std.proofs.lemmas.List.Sums.{sum_by-cons}
use Rattle.std.proofs.Math.Nat.{mul-div_cancel, mul-mod_left, mod-add-div}
use Rattle.std.specs.List.{All}
use Rattle.dt_map.specs.declared.entry.Entry.{Entry}
use Rattle.dt_map.specs.Typemap.{shift}
use Rattle.dt_map.specs.Runs.{natural_extent, placed_at, even, run}
use Rattle.dt_map.specs.Alike.{segment, block_of, first_disp, alike, are_alike, are_stacked}
use Rattle.dt_map.proofs.Summaries.{length-shift}
use Rattle.dt_map.proofs.Likeness.{alike_is_equivalence}
use Rattle.dt_map.proofs.Seats.{Sits, sits_inside, segment_sits, sits_second, sits_at, sits_copy, length-placed_at, length-even, length-run}
use Rattle.dt_map.proofs.Stacks.{runs_stacked, copies_alike, copies_rise}
use Rattle.dt_tree.specs.Weights.{Weights}
use Rattle.dt_tree.specs.Tree.{Tree, leaf, vector, index, group, Parts, no_parts, part, flat, flat_parts, IsTree, AreTrees}
use Rattle.dt_tree.specs.Cost.{cost_of, cost_of_parts}
use Rattle.dt_tree.proofs.Subtrees.{places_an_entry, run-pos, placed_at-pos, first_of_run, parts_place, part_block}
use Rattle.dt_normal.specs.Table.{Table, is_split, least_to, least_run, cut_cost, IsValid}
use Rattle.dt_normal.specs.Laws.{TableBoundsTrees, ReachedIsLeast, LeastRunIsLeast, TooHighIsNotValid}

-- the least of the values that pass
pub least_to-le : (test : ℕ → Bool) (value : ℕ → ℕ) (most n k : ℕ) → 0 < k → k ≤ n → test k ≡ true → least_to test value most n ≤ value k
least_to-le test value most zero k some within passes = absurd (omega arith)
least_to-le test value most (suc n) k some within passes =
    elim (cases_lt k (suc n)) [
      | inl less ↦ let before = least_to-le test value most n k some (omega arith) passes in omega (arith, before)
      | inr from ↦
          let same : k ≡ suc n = omega arith in
          let this : cond (test (suc n)) (value (suc n)) most ≡ value k = ap (λ b. cond b (value (suc n)) most) (ap test (sym same) ∙ passes) ∙ ap value (sym same) in
          omega (arith, this)
    ]

-- and it is one of them, or what it began with
abbrev Reached : (ℕ → Bool) → (ℕ → ℕ) → ℕ → ℕ → ℕ → Type 0
Reached test value most n least = (least ≡ most) ⊎ ((k : ℕ) × (0 < k) × (k ≤ n) × (test k ≡ true) × (least ≡ value k))

lesser_reached : (test : ℕ → Bool) (value : ℕ → ℕ) (most n a b : ℕ) → Reached test value most n a → Reached test value most n b → Reached test value most n (min a b)
lesser_reached test value most n a b h k =
    elim (cases_lt a b) [
      | inl less ↦ subst (Reached test value most n) (omega arith) h
      | inr from ↦ subst (Reached test value most n) (omega arith) k
    ]

more_reached : (test : ℕ → Bool) (value : ℕ → ℕ) (most n least : ℕ) → Reached test value most n least → Reached test value most (suc n) least
more_reached test value most n least (inl same) = inl same
more_reached test value most n least (inr h) = inr (h.0, h.1, omega (arith, h.2), h.3, h.4)

this_reached : (test : ℕ → Bool) (value : ℕ → ℕ) (most n : ℕ) (b : Bool) → test (suc n) ≡ b → Reached test value most (suc n) (cond b (value (suc n)) most)
this_reached test value most n true passes = inr (suc n, omega arith, omega arith, passes, refl)
this_reached test value most n false passes = inl refl

least_to_reached : (test : ℕ → Bool) (value : ℕ → ℕ) (most n : ℕ) → Reached test value most n (least_to test value most n)
least_to_reached test value most zero = inl refl
least_to_reached test value most (suc n) =
    lesser_reached test value most (suc n) _ _ (this_reached test value most n (test (suc n)) refl)
    (more_reached test value most n _ (least_to_reached test value most n))

-- splits
both_true : (a b : Bool) → (a && b) ≡ true → (a ≡ true) × (b ≡ true)
both_true true true e = (refl, refl)
both_true true false e = cc
both_true false b e = cc

product_pos : (a b len : ℕ) → a * b ≡ len → 0 < len → (0 < a) × (0 < b)
product_pos zero b len e some = absurd (omega (arith, e))
product_pos (suc a) zero len e some = absurd (omega (arith, e))
product_pos (suc a) (suc b) len e some = (omega arith, omega arith)

factor_le : (a b len : ℕ) → 0 < a → a * b ≡ len → b ≤ len
factor_le zero b len some e = absurd (omega arith)
factor_le (suc a) b len some e = omega (arith, e)

pub is_split_of : (m : List Entry) (start len block count : ℕ) → 0 < block → count * block ≡ len → are_stacked m start block count ≡ true → is_split m start len block ≡ true
is_split_of m start len block count some e stacked =
    let whole : (len % block == 0) ≡ true = (Decides-eqb (len % block) 0).1 (ap (λ n. n % block) (sym e) ∙ mul-mod_left count block) in
    let few : len / block ≡ count = ap (λ n. n / block) (sym e) ∙ mul-div_cancel count some in
    ap (λ b. b && are_stacked m start block (len / block)) whole ∙ (ap (are_stacked m start block) few ∙ stacked)

pub least_run-le : (m : List Entry) (low : Table) (start len block count : ℕ) → 0 < len → count * block ≡ len → are_stacked m start block count ≡ true →
    least_run m low start len ≤ low start block
least_run-le m low start len block count some e stacked =
    let parts = product_pos count block len e some in
    least_to-le (is_split m start len) (low start) (low start len) len block parts.1 (factor_le count block len parts.0 e) (is_split_of m start len block count parts.1 e stacked)

-- the one new step of block lengths: copies in a block are stacked, so their least run is at most the value of the first one
pub runs : (m : List Entry) (low : Table) (y : ℤ) (block : ℕ) (es : List Entry) (i : ℕ) → Sits m y (run block es) i → 0 < block → 0 < length es →
    least_run m low i (length (run block es)) ≤ low i (length es)
runs m low y block es i sits some held =
    least_run-le m low i (length (run block es)) (length es) block (run-pos block es some held) (sym (length-run block es)) (runs_stacked m y block es i sits some held)

-- a block of copies, and its first copy
abbrev Bounded : List Entry → Table → Tree → ℕ → Type 0
Bounded m low tree most = (y : ℤ) (i : ℕ) → Sits m y (flat tree) i → low i (length (flat tree)) ≤ most

block_bounded : (m : List Entry) (low : Table) (child : Tree) (most : ℕ) → IsTree child → Bounded m low child most →
    (y : ℤ) (i block : ℕ) → Sits m y (run block (flat child)) i → 0 < block → least_run m low i (length (run block (flat child))) ≤ most
block_bounded m low child most ok below y i block sits some =
    let first = sits_at (i + 0 * length (flat child)) i (omega arith) (first_of_run m y i block (flat child) sits some) in
    omega (arith, runs m low y block (flat child) i sits some (places_an_entry child ok), below _ i first)

-- vectors and indices: blocks of copies at places
placed_bounded : (m : List Entry) (low : Table) (child : Tree) (most : ℕ) → IsTree child → Bounded m low child most →
    (y : ℤ) (i : ℕ) (places : List ℤ) (block : ℕ) → Sits m y (placed_at places (run block (flat child))) i → 0 < length places → 0 < block →
    least_run m low i (length (run block (flat child))) ≤ most
placed_bounded m low child most ok below y i places block sits placed some =
    let es = run block (flat child) in
    block_bounded m low child most ok below _ i block (sits_at (i + 0 * length es) i (omega arith) (sits_copy m y places es i 0 sits placed)) some

pub index_bounded : (w : Weights) (m : List Entry) (low : Table) → IsValid w m low → (child : Tree) (most : ℕ) → IsTree child → Bounded m low child most →
    (places : List ℤ) (block : ℕ) → 0 < length places → 0 < block → Bounded m low (index block places child) (w.index + w.place * length places + most)
index_bounded w m low valid child most ok below places block placed some y i sits =
    let es = run block (flat child) in
    let held = run-pos block (flat child) some (places_an_entry child ok) in
    let long = length-placed_at places es in
    let node = valid.alike i (length (placed_at places es)) (length es) (length places) (placed_at-pos places es placed held, sits_inside sits) (sym long) (copies_alike m y places es i sits) in
    omega (arith, node, placed_bounded m low child most ok below y i places block sits placed some)

pub vector_bounded : (w : Weights) (m : List Entry) (low : Table) → IsValid w m low → (child : Tree) (most : ℕ) → IsTree child → Bounded m low child most →
    (count block : ℕ) (stride : ℤ) → 0 < count → 0 < block → Bounded m low (vector count block stride child) (w.vector + most)
vector_bounded w m low valid child most ok below count block stride placed some y i sits =
    let es = run block (flat child) in
    let places = even count stride in
    let few = length-even count stride in
    let held = run-pos block (flat child) some (places_an_entry child ok) in
    let long : count * length es ≡ length (placed_at places es) = ap (λ n. n * length es) (sym few) ∙ sym (length-placed_at places es) in
    let alike = ap (are_alike m i (length es)) (sym few) ∙ copies_alike m y places es i sits in
    let node =
    valid.even i (length (placed_at places es)) (length es) count stride (placed_at-pos places es (omega (arith, placed, few)) held, sits_inside sits) long alike
    (copies_rise m y count stride es i sits held) in
    omega (arith, node, placed_bounded m low child most ok below y i places block sits (omega (arith, placed, few)) some)

-- groups: the cut into the parts' blocks
abbrev cut_of : Parts → List ℕ
cut_of no_parts = []
cut_of (part block disp child rest) = length (run block (flat child)) ∷ cut_of rest

cut_pos : (parts : Parts) → AreTrees parts → All (λ n. 0 < n) (cut_of parts)
cut_pos no_parts ok = All-nil (λ n. 0 < n)
cut_pos (part block disp child rest) ok =
    All-cons (λ n. 0 < n) (length (run block (flat child))) (cut_of rest) (run-pos block (flat child) ok.0 (places_an_entry child ok.1)) (cut_pos rest ok.2)

cut_sum : (parts : Parts) → sum (cut_of parts) ≡ length (flat_parts parts)
cut_sum no_parts = refl
cut_sum (part block disp child rest) =
    omega (arith, sum_by-cons (λ (x : ℕ). x) (length (run block (flat child))) (cut_of rest), cut_sum rest, length-append (shift disp (run block (flat child))) (flat_parts rest), length-shift disp (run block (flat child)))

-- all trees
mutual
  bounded : (w : Weights) (m : List Entry) (low : Table) → IsValid w m low → (tree : Tree) → IsTree tree → Bounded m low tree (cost_of w tree)
  bounded w m low valid (leaf kind) ok = λ y i sits. valid.leaf i (omega arith, sits_inside sits)
  bounded w m low valid (vector count block stride child) ok =
      vector_bounded w m low valid child (cost_of w child) ok.2 (bounded w m low valid child ok.2) count block stride ok.0 ok.1
  bounded w m low valid (index block places child) ok =
      index_bounded w m low valid child (cost_of w child) ok.2 (bounded w m low valid child ok.2) places block ok.1 ok.0
  bounded w m low valid (group parts) ok = λ y i sits.
      let node = valid.cuts i (length (flat_parts parts)) (cut_of parts) (parts_place parts ok.0 ok.1, sits_inside sits) (cut_pos parts ok.1) (cut_sum parts) in
      omega (arith, node, cuts_bounded w m low valid parts ok.1 y i sits)

  cuts_bounded : (w : Weights) (m : List Entry) (low : Table) → IsValid w m low → (parts : Parts) → AreTrees parts →
      (y : ℤ) (i : ℕ) → Sits m y (flat_parts parts) i → cut_cost w m low i (cut_of parts) ≤ cost_of_parts w parts
  cuts_bounded w m low valid no_parts ok = λ y i sits. omega arith
  cuts_bounded w m low valid (part block disp child rest) ok = λ y i sits.
      let es = run block (flat child) in
      let here = block_bounded m low child (cost_of w child) ok.1 (bounded w m low valid child ok.1) (disp +ℤ y) i block (part_block m y i block disp child rest sits) ok.0 in
      let after = sits_at (i + length (shift disp es)) (i + length es) (omega (arith, length-shift disp es)) (sits_second (shift disp es) (flat_parts rest) sits) in
      omega (arith, here, cuts_bounded w m low valid rest ok.2 y (i + length es) after)

pub table_bounds_trees : TableBoundsTrees
table_bounds_trees w m low valid start len base tree inside h =
    let long : length (flat tree) ≡ len = sym (length-shift base (flat tree)) ∙ (ap length h.1 ∙ length-segment) in
    let sits = segment_sits m base (flat tree) start len inside.1 (sym h.1) in
    omega (arith, ap (low start) long, bounded w m low valid tree h.0 base start sits)
  where
    length-segment : length (segment m start len) ≡ len
    length-segment = length-take-le len (drop start m) (omega (arith, inside.1, length-drop start m))

pub reached_is_least : ReachedIsLeast
reached_is_least w m low base tree valid h reached = (
  h,
  λ y other denotes.
      let some : 0 < length m = omega (arith, places_an_entry tree h.0, sym (length-shift base (flat tree)), ap length h.1) in
      let whole : segment m 0 (length m) ≡ m = take_all (length m) m (omega arith) in
      omega (arith, reached, table_bounds_trees w m low valid 0 (length m) y other (some, omega arith) (denotes.0, denotes.1 ∙ sym whole)),
)

-- a split into one block
both : (a b : Bool) → a ≡ true → b ≡ true → (a && b) ≡ true
both a b e f = ap (λ c. c && b) e ∙ f

no_steps : (step : ℤ) → pos 0 *ℤ step ≡ pos 0
no_steps (pos s) = omega (arith, ints)
no_steps (negsuc s) = omega (arith, ints)

pub one_block : (m : List Entry) (start len : ℕ) → are_stacked m start len 1 ≡ true
one_block m start len =
    let step = natural_extent (segment m start len) in
    let same : block_of m start len 0 ≡ segment m start len = ap (λ i. segment m i len) (none start len) in
    both _ _ (both _ _ (ap (λ b. alike b (segment m start len)) same ∙ alike_is_equivalence.0 (segment m start len)) refl)
    (both _ _ ((Decides-int_eq _ _).1 (ap first_disp same ∙ (still (first_disp (segment m start len)) ∙ ap (λ z. first_disp (segment m start len) +ℤ z) (sym (no_steps step))))) refl)
  where
    none : (i n : ℕ) → i + 0 * n ≡ i
    none i n = omega arith

    still : (d : ℤ) → d ≡ d +ℤ pos 0
    still d = omega (arith, ints)

split_of : (m : List Entry) (start len block : ℕ) → is_split m start len block ≡ true →
    (count : ℕ) × (count * block ≡ len) × (are_stacked m start block count ≡ true)
split_of m start len block h =
    let parts = both_true (len % block == 0) (are_stacked m start block (len / block)) h in
    (len / block, by_rest ((Decides-eqb (len % block) 0).0 parts.0), parts.1)
  where
    by_rest : len % block ≡ 0 → len / block * block ≡ len
    by_rest e = omega (arith, e, mod-add-div len block)

least_run_one_of : (m : List Entry) (low : Table) (start len least : ℕ) → Reached (is_split m start len) (low start) (low start len) len least →
    (block : ℕ) × (count : ℕ) × (count * block ≡ len) × (are_stacked m start block count ≡ true) × (least ≡ low start block)
least_run_one_of m low start len least (inl same) = (len, 1, omega arith, one_block m start len, same)
least_run_one_of m low start len least (inr h) =
    let split = split_of m start len h.0 h.3 in
    (h.0, split.0, split.1, split.2, h.4)

pub least_run_is_least : LeastRunIsLeast
least_run_is_least m low start len some = (
  λ block count e stacked. least_run-le m low start len block count some e stacked,
  least_run_one_of m low start len (least_run m low start len) (least_to_reached (is_split m start len) (low start) (low start len) len),
)

pub too_high_is_not_valid : TooHighIsNotValid
too_high_is_not_valid w m low start len base tree inside h high = λ valid. omega (arith, high, table_bounds_trees w m low valid start len base tree inside h)
