-- cheapest trees over those of their children
use mir.Syntax.{w64}
use mir.Val.{to_z, of_z}
use Rattle.std.proofs.Common.{◌≡◌, ℕ, zero, suc, ◌+◌, ◌*◌, ◌/◌, ◌≤◌, ◌<◌, Bool, true, ◌&&◌, ℤ, pos, negsuc, nat_abs, ◌+ℤ◌, ◌-ℤ◌, ◌*ℤ◌, List, [], ◌∷◌, ◌++◌, map, length, get_or, refl, sym, ap, ◌∙◌, subst, arith, inl, inr}
use Rattle.std.proofs.lemmas.Bool.{cases_lt}
use Rattle.std.proofs.lemmas.Int.{ints}
use Rattle.std.proofs.lemmas.Bool.Decides.{Decides-int_eq}
use Rattle.std.proofs.lemmas.List.{map_push, get_or-map}
use Rattle.std.proofs.lemmas.List.Folds.{list_all-append}
use Rattle.std.specs.List.{list_all}
use Rattle.dt_kinds.specs.Displacement.{FitsDisp}
use Rattle.dt_map.specs.declared.entry.Entry.{Entry}
use Rattle.dt_offsets.specs.Offsets.{below}
use Rattle.dt_map.specs.Typemap.{shift}
use Rattle.dt_map.specs.Runs.{run}
use Rattle.dt_map.specs.Alike.{segment, block_of, first_disp, rise_by}
use Rattle.dt_map.proofs.Likeness.{both_true}
use Rattle.dt_map.proofs.Seats.{length-below, get_or-below}
use Rattle.dt_alike.specs.Blocks.{AreStacked}
use Rattle.dt_alike.specs.Step.{entry_at, step_between}
use Rattle.dt_alike.proofs.Reaching.{disp_at}
use Rattle.dt_alike.proofs.Segments.{segment-suc}
use Rattle.dt_tree.specs.declared.node.Node.{Node}
use Rattle.dt_tree.specs.declared.node.Node.TheVariants.{Group}
use Rattle.dt_tree.specs.declared.node.PartOf.{PartOf}
use Rattle.dt_tree.specs.Node.{tree_of, trees_of}
use Rattle.dt_tree.proofs.Limits.{step_back}
use Rattle.dt_tree.proofs.Nodes.{of_group}
use Rattle.dt_tree.specs.Cost.{cost_of}
use Rattle.dt_tree.specs.Tidy.{first_place}
use Rattle.dt_tree.specs.Tree.{Tree, leaf, vector, index, group, no_parts, part, flat}
use Rattle.dt_tree.specs.Weights.{Weights}
use Rattle.dt_normal.specs.declared.form.Form.TheVariants.{Vectors, Indices, Block}
use Rattle.dt_normal.specs.declared.form.Wrap.TheVariants.{Vector, Index, Part}
use Rattle.dt_normal.specs.Costs.{IsLeastOf, IsTreeCost}
use Rattle.dt_normal.specs.Forms.{IsForm, IsBlockAt, IsCheapest, IsCheapestBlock}
use Rattle.dt_normal.specs.Places.{places_of}
use Rattle.dt_normal.specs.Splits.{IsBlockLength}
use Rattle.dt_normal.proofs.Standing.{from_first, from_firsts, length-from_firsts, vector_stands, index_stands, run_stands, one_step, one_place}
use Rattle.dt_normal.proofs.Cells.{divided, first_cell_is}

-- where segments begin
pub disp_of : (m : List Entry) (i len : ℕ) → 1 ≤ len → i < length m → first_disp (segment m i len) ≡ (entry_at m i).disp
disp_of m i zero some inside = absurd (omega arith)
disp_of m i (suc n) some inside = disp_at m i n (entry_at [] 0) inside

each_below : (p : ℕ → Bool) (n : ℕ) → list_all p (below n) ≡ true → (k : ℕ) → k < n → p k ≡ true
each_below p zero all k lt = absurd (omega arith)
each_below p (suc n) all k lt =
    let parts = both_true (list_all p (below n)) (p n && true) (sym (list_all-append p (below n) (n ∷ [])) ∙ all) in
    elim (cases_lt k n) [
      | inl less ↦ each_below p n parts.0 k less
      | inr from ↦
          let same : k ≡ n = omega arith in
          ap p same ∙ (both_true (p n) true parts.1).0
    ]

-- the step of blocks that rise
step_is : (m : List Entry) (start len count : ℕ) (step : ℤ) → 1 ≤ len → start + count * len ≤ length m → 1 < count → rise_by step m start len count ≡ true
    → step ≡ step_between m start (start + len)
step_is m start len zero step some inside many rise = absurd (omega arith)
step_is m start len (suc zero) step some inside many rise = absurd (omega arith)
step_is m start len (suc (suc n)) step some inside many rise =
    let second : start + 1 * len ≡ start + len = omega arith in
    let at = (Decides-int_eq (first_disp (block_of m start len 1)) (first_disp (segment m start len) +ℤ (pos 1 *ℤ step))).0 (each_below _ (suc (suc n)) rise 1 (omega arith)) in
    let there : first_disp (block_of m start len 1) ≡ (entry_at m (start + len)).disp = ap (λ i. first_disp (segment m i len)) second ∙ disp_of m (start + len) len some (omega arith) in
    let here = disp_of m start len some (omega arith) in
    by (first_disp (block_of m start len 1)) (first_disp (segment m start len)) (entry_at m (start + len)).disp (entry_at m start).disp at there here
  where
    once : (s : ℤ) → pos 1 *ℤ s ≡ s
    once (pos s) = omega (arith, ints)
    once (negsuc s) = omega (arith, ints)

    by : (a b c d : ℤ) → a ≡ b +ℤ (pos 1 *ℤ step) → a ≡ c → b ≡ d → step ≡ c -ℤ d
    by a b c d e f g = omega (arith, ints, once step, e, f, g)

times_le : (len a b : ℕ) → a ≤ b → a * len ≤ b * len
times_le len zero b le = omega arith
times_le len (suc a) zero le = absurd (omega arith)
times_le len (suc a) (suc b) le = omega (arith, times_le len a b (omega arith))

map_below : (f g : ℕ → ℤ) (n : ℕ) → ((k : ℕ) → k < n → f k ≡ g k) → map f (below n) ≡ map g (below n)
map_below f g zero each = refl
map_below f g (suc n) each =
    map_push f (below n) n
    ∙ (ap (λ l. l ++ f n ∷ []) (map_below f g n (λ k lt. each k (omega arith))) ∙ (ap (λ d. map g (below n) ++ d ∷ []) (each n (omega arith)) ∙ sym (map_push g (below n) n)))

-- and their places
places_are : (m : List Entry) (start len count : ℕ) → 1 ≤ len → start + count * len ≤ length m → from_firsts m start len count ≡ places_of m start len count
places_are m start len zero some inside = refl
places_are m start len (suc n) some inside = map_below (from_first m start len) (λ k. step_between m start (start + k * len)) (suc n) one
  where
    one : (k : ℕ) → k < suc n → from_first m start len k ≡ step_between m start (start + k * len)
    one k lt =
        let fits : start + k * len < length m = omega (arith, inside, some, times_le len k n (omega arith)) in
        ap (λ d. d -ℤ first_disp (segment m start len)) (disp_of m (start + k * len) len some fits) ∙ ap (λ d. (entry_at m (start + k * len)).disp -ℤ d) (disp_of m start len some (omega (arith, fits)))

-- the first place is 0
first_is_zero : (m : List Entry) (start len count : ℕ) → 0 < count → first_place (places_of m start len count) ≡ pos 0
first_is_zero m start len count some = first_of (places_of m start len count) ∙ (get_or-map (λ k. step_between m start (start + k * len)) (below count) 0 0 (pos 0) (omega (arith, some, length-below count)) ∙ still)
  where
    first_of : (xs : List ℤ) → first_place xs ≡ get_or xs 0 (pos 0)
    first_of [] = refl
    first_of (x ∷ xs) = refl

    none : (d : ℤ) → d -ℤ d ≡ pos 0
    none d = omega (arith, ints)

    still : step_between m start (start + get_or (below count) 0 0 * len) ≡ pos 0
    still =
        let zero_at = get_or-below count 0 0 some in
        let same : start + get_or (below count) 0 0 * len ≡ start = ap (λ k. start + k * len) zero_at ∙ omega arith in
        ap (step_between m start) same ∙ none (entry_at m start).disp

two_or_more : (count copies : ℕ) → 1 < count → 1 ≤ copies → 2 ≤ count * copies
two_or_more zero copies many some = absurd (omega arith)
two_or_more (suc zero) copies many some = absurd (omega arith)
two_or_more (suc (suc n)) copies many some = omega (arith, some)

pub vector_cheapest : (w : Weights) (m : List Entry) (start len block copies : ℕ) (stride : ℤ) (child : Tree) → start + len ≤ length m → IsForm w m start len (Vectors block)
    → IsCheapestBlock w m start block copies child → stride ≡ step_between m start (start + block) → IsCheapest w m start len (vector (len / block) copies stride child)
vector_cheapest w m start len block copies stride child inside form cheapest is =
    let part = divided len block form.0.0 in
    let count : ℕ = len / block in
    let even = form.0.1 in
    let step : even.1.0 ≡ stride = step_is m start block (len / block) even.1.0 form.0.0.0 (omega (arith, inside, part.whole)) part.many even.1.1 ∙ sym is in
    let rise : rise_by stride m start block (len / block) ≡ true = subst (λ s. rise_by s m start block (len / block) ≡ true) step even.1.1 in
    let stands = vector_stands m start block (len / block) copies stride (entry_at m start).disp child cheapest.stands even.0 rise in
    let few : len / block ≡ 1 → ⊥ = λ one. absurd (omega (arith, one, part.many)) in
    record {
      denotes = ((omega (arith, part.many), cheapest.some, cheapest.is), subst (λ l. shift (entry_at m start).disp (flat (vector (len / block) copies stride child)) ≡ segment m start l) part.whole stands);
      tidy = (two_or_more (len / block) copies part.many cheapest.some, (λ one. absurd (few one)), cheapest.tidy);
      least = form.1 (cost_of w child) cheapest.least;
    }

pub index_cheapest : (w : Weights) (m : List Entry) (start len block copies : ℕ) (places : List ℤ) (child : Tree) → start + len ≤ length m → IsForm w m start len (Indices block)
    → IsCheapestBlock w m start block copies child → places ≡ places_of m start block (len / block) → IsCheapest w m start len (index copies places child)
index_cheapest w m start len block copies places child inside form cheapest is =
    let part = divided len block form.0.0 in
    let same : from_firsts m start block (len / block) ≡ places = places_are m start block (len / block) form.0.0.0 (omega (arith, inside, part.whole)) ∙ sym is in
    let long : length places ≡ len / block = ap length (sym same) ∙ length-from_firsts m start block (len / block) in
    let stands = index_stands m start block (len / block) copies (entry_at m start).disp child cheapest.stands form.0.1 in
    let price : w.index + w.place * (len / block) + cost_of w child ≡ w.index + w.place * length places + cost_of w child = ap (λ n. w.index + w.place * n + cost_of w child) (sym long) in
    record {
      denotes = (
        (cheapest.some, omega (arith, part.many, long), cheapest.is),
        ap (λ p. shift (entry_at m start).disp (flat (index copies p child))) (sym same)
            ∙ subst (λ l. shift (entry_at m start).disp (flat (index copies (from_firsts m start block (len / block)) child)) ≡ segment m start l) part.whole stands,
      );
      tidy = (
        subst (λ n. 2 ≤ n * copies) (sym long) (two_or_more (len / block) copies part.many cheapest.some),
        ap first_place is ∙ first_is_zero m start block (len / block) (omega (arith, part.many)),
        cheapest.tidy,
      );
      least = subst (IsLeastOf (IsTreeCost w m start len)) price (form.1 (cost_of w child) cheapest.least);
    }

-- a node over one block that is a whole segment
whole_block : (w : Weights) (m : List Entry) (start len block : ℕ) (child : Tree) → IsBlockLength len block → AreStacked m start block (len / block) → IsCheapest w m start block child
    → shift (entry_at m start).disp (run (len / block) (flat child)) ≡ segment m start len
whole_block w m start len block child is stacked cheapest =
    let part = divided len block is in
    subst (λ l. shift (entry_at m start).disp (run (len / block) (flat child)) ≡ segment m start l) part.whole
    (run_stands m start block (len / block) (entry_at m start).disp child cheapest.denotes.1 stacked)

pub wrapped_vector : (w : Weights) (m : List Entry) (start len block : ℕ) (child : Tree) → IsForm w m start len (Block Vector block) → IsCheapest w m start block child
    → IsCheapest w m start len (vector 1 (len / block) (pos 0) child)
wrapped_vector w m start len block child form cheapest =
    let part = divided len block form.0.0 in
    record {
      denotes = (
        (omega arith, omega (arith, part.many), cheapest.denotes.0),
        ap (shift (entry_at m start).disp) (one_step (pos 0) (run (len / block) (flat child))) ∙ whole_block w m start len block child form.0.0 form.0.1 cheapest,
      );
      tidy = (omega (arith, part.many), (λ one. refl), cheapest.tidy);
      least = form.1 (cost_of w child) cheapest.least;
    }

pub wrapped_index : (w : Weights) (m : List Entry) (start len block : ℕ) (places : List ℤ) (child : Tree) → IsForm w m start len (Block Index block) → IsCheapest w m start block child
    → places ≡ pos 0 ∷ [] → IsCheapest w m start len (index (len / block) places child)
wrapped_index w m start len block places child form cheapest is =
    let part = divided len block form.0.0 in
    let least = form.1 (cost_of w child) cheapest.least in
    let price : w.index + w.place + cost_of w child ≡ w.index + w.place * 1 + cost_of w child = omega arith in
    subst (λ p. IsCheapest w m start len (index (len / block) p child)) (sym is) (record {
      denotes = (
        (omega (arith, part.many), omega arith, cheapest.denotes.0),
        ap (shift (entry_at m start).disp) (one_place (run (len / block) (flat child))) ∙ whole_block w m start len block child form.0.0 form.0.1 cheapest,
      );
      tidy = (omega (arith, part.many), refl, cheapest.tidy);
      least = subst (IsLeastOf (IsTreeCost w m start len)) price least;
    })

pub wrapped_part : (w : Weights) (m : List Entry) (start len block : ℕ) (child : Tree) → IsForm w m start len (Block Part block) → IsCheapest w m start block child
    → IsCheapest w m start len (group (part (len / block) (pos 0) child no_parts))
wrapped_part w m start len block child form cheapest =
    let divides = divided len block form.0.0 in
    let least = form.1 (cost_of w child) cheapest.least in
    let price : w.group + w.part + cost_of w child ≡ w.group + (w.part + cost_of w child + 0) = omega arith in
    record {
      denotes = (
        (tt, (omega (arith, divides.many), cheapest.denotes.0, tt)),
        ap (shift (entry_at m start).disp) (one_place (run (len / block) (flat child))) ∙ whole_block w m start len block child form.0.0 form.0.1 cheapest,
      );
      tidy = (omega (arith, divides.many), refl, ((λ one. absurd (omega (arith, one, divides.many))), cheapest.tidy, tt));
      least = subst (IsLeastOf (IsTreeCost w m start len)) price least;
    }

-- copies of a cheapest tree
pub copies_cheapest : (w : Weights) (m : List Entry) (start len size : ℕ) (child : Tree) → IsBlockAt w m start len size → IsCheapest w m start size child
    → IsCheapestBlock w m start len (len / size) child
copies_cheapest w m start len size child at cheapest =
    let least = at.least (cost_of w child) cheapest.least in
    record {
      some = one_or_more (len / size) at.whole;
      is = cheapest.denotes.0;
      stands = subst (λ l. shift (entry_at m start).disp (run (len / size) (flat child)) ≡ segment m start l) at.whole
          (run_stands m start size (len / size) (entry_at m start).disp child cheapest.denotes.1 at.stacked);
      tidy = cheapest.tidy;
      least = least;
      longest = λ one block count cost whole many stand h. at.longest (single one) block count cost whole many stand h (cost_of w child) least;
    }
  where
    one_or_more : (count : ℕ) → count * size ≡ len → 1 ≤ count
    one_or_more zero e = absurd (omega (arith, e, at.some, at.within))
    one_or_more (suc n) e = omega arith

    single : len / size ≡ 1 → size ≡ len
    single one =
        let e : 1 * size ≡ len = ap (λ n. n * size) (sym one) ∙ at.whole in
        omega (arith, e)

pub leaf_cheapest : (w : Weights) (m : List Entry) (start : ℕ) (kind : Rattle.dt_kinds.specs.declared.kind.Kind.Kind) → start + 1 ≤ length m → kind ≡ (entry_at m start).kind
    → IsCheapest w m start 1 (leaf kind)
leaf_cheapest w m start kind inside is =
    subst (λ k. IsCheapest w m start 1 (leaf k)) (sym is) (record {
      denotes = (tt, moved (entry_at m start).kind (entry_at m start).disp ∙ sym (segment-suc m start 0 (entry_at [] 0) (omega arith)));
      tidy = tt;
      least = (first_cell_is w m start (record { tree = w.leaf; block = w.leaf; parts = w.part + w.leaf }) inside refl refl refl).tree;
    })
  where
    moved : (k : Rattle.dt_kinds.specs.declared.kind.Kind.Kind) (d : ℤ) → shift d (flat (leaf k)) ≡ (let e : Entry = record { kind = k; disp = d } in e) ∷ []
    moved k d = ap (λ z. (let e : Entry = record { kind = k; disp = z } in e) ∷ []) (omega (arith, ints))

pub places_more : (m : List Entry) (start len k : ℕ) (place : ℤ) (before now : List ℤ) → before ≡ places_of m start len k → place ≡ step_between m start (start + k * len)
    → now ≡ before ++ place ∷ [] → now ≡ places_of m start len (k + 1)
places_more m start len k place before now is at more =
    let next : k + 1 ≡ suc k = omega arith in
    more
    ∙ (ap (λ l. l ++ place ∷ []) is
    ∙ (ap (λ d. places_of m start len k ++ d ∷ []) at ∙ (sym (map_push (λ i. step_between m start (start + i * len)) (below k) k) ∙ ap (places_of m start len) (sym next))))

pub wrapped_parts : (w : Weights) (m : List Entry) (start len block : ℕ) (node : Node) (none now : List (PartOf Node)) → IsForm w m start len (Block Part block)
    → IsCheapest w m start block (tree_of node) → none ≡ [] → now ≡ none ++ (let p : PartOf Node = record { block = len / block; disp = pos 0; node = node } in p) ∷ []
    → IsCheapest w m start len (tree_of (Group now))
wrapped_parts w m start len block node none now form cheapest empty one =
    let whole = one ∙ ap (λ l. l ++ (let p : PartOf Node = record { block = len / block; disp = pos 0; node = node } in p) ∷ []) empty in
    subst (IsCheapest w m start len) (sym (of_group now ∙ ap (λ l. group (trees_of l)) whole)) (wrapped_part w m start len block (tree_of node) form cheapest)

pub difference_near : (a b : ℤ) → FitsDisp a → FitsDisp b → nat_abs (to_z w64 (of_z w64 (to_z w64 (of_z w64 a) -ℤ to_z w64 (of_z w64 b)))) ≤ 2305843009213693952
difference_near a b fits other =
    let one : nat_abs a ≤ 1152921504606846976 = omega (arith, ints, fits) in
    let two : nat_abs b ≤ 1152921504606846976 = omega (arith, ints, other) in
    let apart : nat_abs (a -ℤ b) ≤ 2305843009213693952 = omega (arith, ints, one, two) in
    let back =
    ap (λ z. to_z w64 (of_z w64 (z -ℤ to_z w64 (of_z w64 b)))) (step_back a (omega (arith, one)))
    ∙ (ap (λ z. to_z w64 (of_z w64 (a -ℤ z))) (step_back b (omega (arith, two))) ∙ step_back (a -ℤ b) apart) in
    subst (λ z. nat_abs z ≤ 2305843009213693952) (sym back) apart
