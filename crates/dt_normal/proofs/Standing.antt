-- trees, blocks and parts that stand for segments
use Rattle.std.proofs.Common.{◌≡◌, ℕ, zero, suc, ◌+◌, ◌*◌, ◌≤◌, ◌<◌, true, ℤ, pos, ◌+ℤ◌, ◌-ℤ◌, ◌*ℤ◌, List, [], ◌∷◌, ◌++◌, map, length, take, drop, get_or, refl, sym, ap, ◌∙◌, subst, arith, append-nil}
use Rattle.std.proofs.lemmas.Int.{ints}
use Rattle.std.proofs.lemmas.List.{length-map, length-take-le, length-drop, drop-drop}
use Rattle.std.proofs.Math.Seq.{take-add}
use Rattle.dt_map.specs.declared.entry.Entry.{Entry}
use Rattle.dt_offsets.specs.Offsets.{below}
use Rattle.dt_map.specs.Typemap.{shift}
use Rattle.dt_map.specs.Runs.{natural_extent, placed_at, even, run}
use Rattle.dt_map.specs.Alike.{segment, block_of, first_disp, are_alike, rise_by, are_stacked}
use Rattle.dt_map.proofs.Placings.{shift-shift, shift-append}
use Rattle.dt_map.proofs.Summaries.{length-shift}
use Rattle.dt_map.proofs.Likeness.{shift-zero, extent_of_shifted}
use Rattle.dt_map.proofs.Seats.{length-below}
use Rattle.dt_map.proofs.Stacks.{alike_joined, even_joined, stacked_joined}
use Rattle.dt_alike.proofs.Segments.{segment-suc}
use Rattle.dt_tree.specs.Cost.{cost_of, cost_of_parts}
use Rattle.dt_tree.specs.Weights.{Weights}
use Rattle.dt_tree.specs.Tree.{Tree, leaf, vector, index, group, Parts, no_parts, part, flat, flat_parts, has_part}
use Rattle.dt_normal.specs.Costs.{IsTreeCost, IsBlockCost, IsPartsCost}

-- segments
pub length-segment : (m : List Entry) (start len : ℕ) → start + len ≤ length m → length (segment m start len) ≡ len
length-segment m start len inside = length-take-le len (drop start m) (omega (arith, length-drop start m))

pub segment-add : (m : List Entry) (start k len : ℕ) → segment m start (k + len) ≡ segment m start k ++ segment m (start + k) len
segment-add m start k len = take-add k len (drop start m) ∙ ap (λ s. take k (drop start m) ++ take len s) (drops m start k)
  where
    drops : (m : List Entry) (a b : ℕ) → drop b (drop a m) ≡ drop (a + b) m
    drops m a b = drop-drop b a m

-- copies further on
pub placed-shift : (x : ℤ) (places : List ℤ) (es : List Entry) → shift x (placed_at places es) ≡ placed_at places (shift x es)
placed-shift x [] es = refl
placed-shift x (p ∷ places) es =
    let turned : p +ℤ x ≡ x +ℤ p = omega (arith, ints) in
    let here : shift x (shift p es) ≡ shift p (shift x es) = shift-shift x p es ∙ (ap (λ z. shift z es) turned ∙ sym (shift-shift p x es)) in
    shift-append x (shift p es) (placed_at places es)
    ∙ (ap (λ s. s ++ shift x (placed_at places es)) here ∙ ap (λ s. shift p (shift x es) ++ s) (placed-shift x places es))

pub run-shift : (x : ℤ) (block : ℕ) (es : List Entry) → shift x (run block es) ≡ run block (shift x es)
run-shift x block es =
    placed-shift x (even block (natural_extent es)) es ∙ ap (λ step. placed_at (even block step) (shift x es)) (sym (extent_of_shifted x es))

-- a block of one copy, and one place
alone : (es : List Entry) → shift (pos 0) es ++ [] ≡ es
alone es = append-nil (shift (pos 0) es) ∙ shift-zero es

no_steps : (step : ℤ) → placed_at (even 1 step) ≡ placed_at (pos 0 ∷ [])
no_steps step = ap placed_at (ap (λ z. z ∷ []) (none step))
  where
    none : (step : ℤ) → pos 0 *ℤ step ≡ pos 0
    none step = omega (arith, ints)

pub one_place : (es : List Entry) → placed_at (pos 0 ∷ []) es ≡ es
one_place es = alone es

pub one_step : (step : ℤ) (es : List Entry) → placed_at (even 1 step) es ≡ es
one_step step es = ap (λ f. f es) (no_steps step) ∙ one_place es

pub run_one : (es : List Entry) → run 1 es ≡ es
run_one es = one_step (natural_extent es) es

-- nodes over blocks
pub vector_stands : (m : List Entry) (start len count block : ℕ) (step base : ℤ) (tree : Tree) → shift base (run block (flat tree)) ≡ segment m start len
    → are_alike m start len count ≡ true → rise_by step m start len count ≡ true → shift base (flat (vector count block step tree)) ≡ segment m start (count * len)
vector_stands m start len count block step base tree same alike rise =
    placed-shift base (even count step) (run block (flat tree)) ∙ (ap (placed_at (even count step)) same ∙ sym (even_joined m start len count step alike rise))

-- how far a block of a segment begins from the first one
abbrev pub from_first : List Entry → ℕ → ℕ → ℕ → ℤ
from_first m start len k = first_disp (block_of m start len k) -ℤ first_disp (segment m start len)

-- where the blocks of a segment begin, from the first one on
abbrev pub from_firsts : List Entry → ℕ → ℕ → ℕ → List ℤ
from_firsts m start len count = map (from_first m start len) (below count)

pub length-from_firsts : (m : List Entry) (start len count : ℕ) → length (from_firsts m start len count) ≡ count
length-from_firsts m start len count = length-map (below count) (from_first m start len) ∙ length-below count

pub index_stands : (m : List Entry) (start len count block : ℕ) (base : ℤ) (tree : Tree) → shift base (run block (flat tree)) ≡ segment m start len
    → are_alike m start len count ≡ true → shift base (flat (index block (from_firsts m start len count) tree)) ≡ segment m start (count * len)
index_stands m start len count block base tree same alike =
    placed-shift base (from_firsts m start len count) (run block (flat tree)) ∙ (ap (placed_at (from_firsts m start len count)) same ∙ sym (alike_joined m start len count alike))

pub run_stands : (m : List Entry) (start len count : ℕ) (base : ℤ) (tree : Tree) → shift base (flat tree) ≡ segment m start len
    → are_stacked m start len count ≡ true → shift base (run count (flat tree)) ≡ segment m start (count * len)
run_stands m start len count base tree same stacked =
    run-shift base count (flat tree) ∙ (ap (run count) same ∙ sym (stacked_joined m start len count stacked))

pub part_stands : (m : List Entry) (start k len block : ℕ) (one base : ℤ) (tree : Tree) (rest : Parts) → shift one (run block (flat tree)) ≡ segment m start k
    → shift base (flat_parts rest) ≡ segment m (start + k) len → shift base (flat_parts (part block (one -ℤ base) tree rest)) ≡ segment m start (k + len)
part_stands m start k len block one base tree rest same after =
    let moved : (one -ℤ base) +ℤ base ≡ one = omega (arith, ints) in
    let here = shift-shift base (one -ℤ base) (run block (flat tree)) ∙ (ap (λ z. shift z (run block (flat tree))) moved ∙ same) in
    shift-append base (shift (one -ℤ base) (run block (flat tree))) (flat_parts rest)
    ∙ (ap (λ s. s ++ shift base (flat_parts rest)) here ∙ (ap (λ s. segment m start k ++ s) after ∙ sym (segment-add m start k len)))

-- what they cost
pub leaf_cost : (w : Weights) (m : List Entry) (start : ℕ) → start + 1 ≤ length m → IsTreeCost w m start 1 w.leaf
leaf_cost w m start inside =
    let some : Entry = record { kind = Rattle.dt_kinds.specs.declared.kind.Kind.TheVariants.Byte; disp = pos 0 } in
    let e : Entry = get_or m start some in
    (leaf e.kind, e.disp, (tt, moved e.kind e.disp ∙ sym (segment-suc m start 0 some (omega arith))), refl)
  where
    moved : (k : Rattle.dt_kinds.specs.declared.kind.Kind.Kind) (d : ℤ) → shift d (flat (leaf k)) ≡ (let e : Entry = record { kind = k; disp = d } in e) ∷ []
    moved k d = ap (λ z. (let e : Entry = record { kind = k; disp = z } in e) ∷ []) (omega (arith, ints))

pub even_cost : (w : Weights) (m : List Entry) (start len count cost : ℕ) (step : ℤ) → 0 < count → are_alike m start len count ≡ true
    → rise_by step m start len count ≡ true → IsBlockCost w m start len cost → IsTreeCost w m start (count * len) (w.vector + cost)
even_cost w m start len count cost step some alike rise (block, tree, base, blocks, is, same, costs) =
    (vector count block step tree, base, ((some, blocks, is), vector_stands m start len count block step base tree same alike rise), ap (λ c. w.vector + c) costs)

pub alike_cost : (w : Weights) (m : List Entry) (start len count cost : ℕ) → 0 < count → are_alike m start len count ≡ true
    → IsBlockCost w m start len cost → IsTreeCost w m start (count * len) (w.index + w.place * count + cost)
alike_cost w m start len count cost some alike (block, tree, base, blocks, is, same, costs) =
    let long = length-from_firsts m start len count in (
      index block (from_firsts m start len count) tree,
      base,
      ((blocks, omega (arith, some, long), is), index_stands m start len count block base tree same alike),
      ap (λ n. w.index + w.place * n + cost_of w tree) long ∙ ap (λ c. w.index + w.place * count + c) costs,
    )

pub stacked_cost : (w : Weights) (m : List Entry) (start len count cost : ℕ) → 0 < count → are_stacked m start len count ≡ true
    → IsTreeCost w m start len cost → IsBlockCost w m start (count * len) cost
stacked_cost w m start len count cost some stacked (tree, base, (is, same), costs) =
    (count, tree, base, some, is, run_stands m start len count base tree same stacked, costs)

pub block_of_tree : (w : Weights) (m : List Entry) (start len cost : ℕ) → IsTreeCost w m start len cost → IsBlockCost w m start len cost
block_of_tree w m start len cost (tree, base, (is, same), costs) = (1, tree, base, omega arith, is, ap (shift base) (run_one (flat tree)) ∙ same, costs)

pub vector_of_block : (w : Weights) (m : List Entry) (start len cost : ℕ) → IsBlockCost w m start len cost → IsTreeCost w m start len (w.vector + cost)
vector_of_block w m start len cost (block, tree, base, some, is, same, costs) = (
  vector 1 block (pos 0) tree,
  base,
  ((omega arith, some, is), ap (shift base) (one_step (pos 0) (run block (flat tree))) ∙ same),
  ap (λ c. w.vector + c) costs,
)

pub index_of_block : (w : Weights) (m : List Entry) (start len cost : ℕ) → IsBlockCost w m start len cost → IsTreeCost w m start len (w.index + w.place + cost)
index_of_block w m start len cost (block, tree, base, some, is, same, costs) = (
  index block (pos 0 ∷ []) tree,
  base,
  ((some, omega arith, is), ap (shift base) (one_place (run block (flat tree))) ∙ same),
  omega (arith, costs),
)

pub group_of_parts : (w : Weights) (m : List Entry) (start len most cost : ℕ) → 0 < len → start + len ≤ length m → IsPartsCost w m start len most cost
    → IsTreeCost w m start len (w.group + cost)
group_of_parts w m start len most cost some inside (parts, base, are, first, same, costs) =
    (group parts, base, ((held parts (omega (arith, some, ap length same, length-shift base (flat_parts parts), length-segment m start len inside)), are), same), ap (λ c. w.group + c) costs)
  where
    held : (parts : Parts) → 0 < length (flat_parts parts) → has_part parts
    held no_parts some = absurd (omega arith)
    held (part block disp child rest) some = tt

pub length_of : (m : List Entry) (start len : ℕ) (base : ℤ) (es : List Entry) → start + len ≤ length m → shift base es ≡ segment m start len → length es ≡ len
length_of m start len base es inside same = sym (length-shift base es) ∙ (ap length same ∙ length-segment m start len inside)

pub part_of_block : (w : Weights) (m : List Entry) (start k len most one cost : ℕ) → start + k ≤ length m → IsBlockCost w m start k one
    → IsPartsCost w m (start + k) len most cost → IsPartsCost w m start (k + len) k (w.part + one + cost)
part_of_block w m start k len most one cost inside (block, tree, base, some, is, same, costs) (parts, after, are, first, then, more) = (
  part block (base -ℤ after) tree parts,
  after,
  (some, is, are),
  omega (arith, length_of m start k base (run block (flat tree)) inside same),
  part_stands m start k len block base after tree parts same then,
  ap (λ c. w.part + c + cost_of_parts w parts) costs ∙ ap (λ c. w.part + one + c) more,
)

pub parts_of_none : (w : Weights) (m : List Entry) (start : ℕ) → IsPartsCost w m start 0 0 0
parts_of_none w m start = (no_parts, pos 0, tt, omega arith, refl, refl)

pub parts_of_block : (w : Weights) (m : List Entry) (start len cost : ℕ) → start + len ≤ length m → IsBlockCost w m start len cost
    → IsPartsCost w m start len len (w.part + cost)
parts_of_block w m start len cost inside h =
    let whole : len + 0 ≡ len = omega arith in
    let all : w.part + cost + 0 ≡ w.part + cost = omega arith in
    rw (whole, all) at (part_of_block w m start len 0 0 cost 0 inside h (parts_of_none w m (start + len)))

pub fewer_first : (w : Weights) (m : List Entry) (start len most more cost : ℕ) → most ≤ more → IsPartsCost w m start len most cost → IsPartsCost w m start len more cost
fewer_first w m start len most more cost le (parts, base, are, first, same, costs) = (parts, base, are, omega (arith, le, first), same, costs)

-- a leaf for each entry, so that least costs are bounded
pub leaves_cost : (w : Weights) (m : List Entry) (start len : ℕ) → start + len ≤ length m → IsPartsCost w m start len 1 (len * (w.part + w.leaf))
leaves_cost w m start zero inside =
    let none : 0 ≡ 0 * (w.part + w.leaf) = omega arith in
    subst (IsPartsCost w m start 0 1) none (fewer_first w m start 0 0 1 0 (omega arith) (parts_of_none w m start))
leaves_cost w m start (suc n) inside =
    let one : start + 1 ≤ length m = omega arith in
    let rest = leaves_cost w m (start + 1) n (omega arith) in
    let next : 1 + n ≡ suc n = omega arith in
    let all : w.part + w.leaf + n * (w.part + w.leaf) ≡ suc n * (w.part + w.leaf) = omega arith in
    rw (next, all) at (part_of_block w m start 1 n 1 w.leaf (n * (w.part + w.leaf)) one (block_of_tree w m start 1 w.leaf (leaf_cost w m start one)) rest)
