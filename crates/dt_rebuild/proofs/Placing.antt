-- what the constructors of a tree place
use Rattle.std.proofs.Common.{◌≡◌, ℕ, ◌+ℤ◌, ◌*ℤ◌, ℤ, pos, Option, None, List, [], ◌∷◌, ◌++◌, map, refl, sym, ap, ◌∙◌, arith}
use Rattle.std.proofs.lemmas.Int.{ints}
use Rattle.std.proofs.lemmas.Grind.{flat_map-append}
use Rattle.std.specs.List.{flat_map}
use Rattle.dt_form.specs.declared.form.FormOf.{FormOf}
use Rattle.dt_map.specs.declared.entry.Entry.{Entry}
use Rattle.dt_map.specs.Bounds.{extent_of}
use Rattle.dt_map.specs.Constructors.{copies_at}
use Rattle.dt_map.specs.Placing.{place}
use Rattle.dt_map.specs.Runs.{natural_extent, placed_at, run}
use Rattle.dt_map.specs.Typemap.{Marked, shift}
use Rattle.dt_map.proofs.Placings.{shift-shift, shift-append}
use Rattle.dt_map.proofs.Summaries.{placed_marks-append}
use Rattle.dt_offsets.specs.declared.marks.Marks.{Marks}
use Rattle.dt_offsets.specs.Offsets.{below, row_offsets}
use Rattle.dt_offsets.specs.Span.{joined_marks}
use Rattle.dt_type.specs.declared.datatype.Seen.{Seen, out-roll-Seen}
use Rattle.dt_type.specs.Constructors.{hvector_offsets, hindexed_block_offsets}
use Rattle.dt_type.specs.Datatype.{Layer, typemap_of}
use Rattle.dt_type.specs.Form.{result_of, map_by, weight_by, depth_by, part_members}
use Rattle.dt_tree.specs.Tree.{Tree, leaf, vector, index, group, Parts, no_parts, part, flat, flat_parts}
use Rattle.dt_rebuild.specs.Built.{form_of_tree, type_of_tree, typed}

-- entries with marks, and without
abbrev pub with_marks : List Entry → Option Marks → Marked
with_marks entries marks = record { entries = entries; marks = marks }

abbrev pub bare : List Entry → Marked
bare entries = record { entries = entries; marks = None }

-- what is seen of the datatype of a form
layer : FormOf Seen → Layer
layer form = record { entries = (map_by form).entries; marks = (map_by form).marks; form = form; weight = weight_by form; depth = depth_by form }

abbrev typemap_in : Layer → Marked
typemap_in l = record { entries = l.entries; marks = l.marks }

pub typemap_is : (form : FormOf Seen) → typemap_of (result_of form) ≡ (let m : Marked = record { entries = (map_by form).entries; marks = (map_by form).marks } in m)
typemap_is form = ap typemap_in (out-roll-Seen (record { entries = (map_by form).entries; marks = (map_by form).marks; form = form; weight = weight_by form; depth = depth_by form }))

pub typemap_bare : (form : FormOf Seen) (es : List Entry) → map_by form ≡ bare es → typemap_of (result_of form) ≡ bare es
typemap_bare form es h = typemap_is form ∙ ap (λ (m : Marked). let n : Marked = record { entries = m.entries; marks = m.marks } in n) h

-- copies of bare entries
copies_entries : (offsets : List ℤ) (es : List Entry) → (copies_at offsets (bare es)).entries ≡ placed_at offsets es
copies_entries [] es = refl
copies_entries (x ∷ offsets) es = ap (λ l. shift x es ++ l) (copies_entries offsets es)

copies_marks : (offsets : List ℤ) (es : List Entry) → (copies_at offsets (bare es)).marks ≡ None
copies_marks [] es = refl
copies_marks (x ∷ offsets) es = copies_marks offsets es

both : (es fs : List Entry) (a b : Option Marks) → es ≡ fs → a ≡ b → (let m : Marked = record { entries = es; marks = a } in m) ≡ record { entries = fs; marks = b }
both es fs a b p q = ap (λ l. let m : Marked = record { entries = l; marks = a } in m) p ∙ ap (λ o. let m : Marked = record { entries = fs; marks = o } in m) q

copies_bare : (offsets : List ℤ) (es : List Entry) → copies_at offsets (bare es) ≡ bare (placed_at offsets es)
copies_bare offsets es = both _ _ _ _ (copies_entries offsets es) (copies_marks offsets es)

-- a row of copies is a block of them at its place
row_of : (x e : ℤ) (ks : List ℕ) (es : List Entry) → placed_at (map (λ j. x +ℤ (pos j *ℤ e)) ks) es ≡ shift x (placed_at (map (λ j. pos j *ℤ e) ks) es)
row_of x e [] es = refl
row_of x e (k ∷ ks) es =
    let turned : (pos k *ℤ e) +ℤ x ≡ x +ℤ (pos k *ℤ e) = swap (pos k *ℤ e) x in
    ap (λ y. shift y es ++ placed_at (map (λ j. x +ℤ (pos j *ℤ e)) ks) es) (sym turned)
    ∙ (ap (λ l. shift ((pos k *ℤ e) +ℤ x) es ++ l) (row_of x e ks es)
    ∙ (ap (λ l. l ++ shift x (placed_at (map (λ j. pos j *ℤ e) ks) es)) (sym (shift-shift x (pos k *ℤ e) es))
    ∙ sym (shift-append x (shift (pos k *ℤ e) es) (placed_at (map (λ j. pos j *ℤ e) ks) es))))
  where
    swap : (a b : ℤ) → a +ℤ b ≡ b +ℤ a
    swap a b = omega (arith, ints)

pub row_is_run : (x : ℤ) (block : ℕ) (es : List Entry) → placed_at (row_offsets x block (natural_extent es)) es ≡ shift x (run block es)
row_is_run x block es = row_of x (natural_extent es) (below block) es

placed-append : (xs ys : List ℤ) (es : List Entry) → placed_at (xs ++ ys) es ≡ placed_at xs es ++ placed_at ys es
placed-append xs ys es = flat_map-append (λ x. shift x es) xs ys

-- blocks at places
blocks_at : (block : ℕ) (places : List ℤ) (es : List Entry) → placed_at (hindexed_block_offsets block places (natural_extent es)) es ≡ placed_at places (run block es)
blocks_at block [] es = refl
blocks_at block (x ∷ places) es =
    placed-append (row_offsets x block (natural_extent es)) (hindexed_block_offsets block places (natural_extent es)) es
    ∙ (ap (λ l. l ++ placed_at (hindexed_block_offsets block places (natural_extent es)) es) (row_is_run x block es) ∙ ap (λ l. shift x (run block es) ++ l) (blocks_at block places es))

evenly : (block : ℕ) (stride : ℤ) (ks : List ℕ) (es : List Entry) →
    placed_at (flat_map (λ i. row_offsets (pos i *ℤ stride) block (natural_extent es)) ks) es ≡ placed_at (map (λ i. pos i *ℤ stride) ks) (run block es)
evenly block stride [] es = refl
evenly block stride (k ∷ ks) es =
    placed-append (row_offsets (pos k *ℤ stride) block (natural_extent es)) (flat_map (λ i. row_offsets (pos i *ℤ stride) block (natural_extent es)) ks) es
    ∙ (ap (λ l. l ++ placed_at (flat_map (λ i. row_offsets (pos i *ℤ stride) block (natural_extent es)) ks) es) (row_is_run (pos k *ℤ stride) block es)
    ∙ ap (λ l. shift (pos k *ℤ stride) (run block es) ++ l) (evenly block stride ks es))

-- members placed one after another
joined : (ms ns : List (ℤ × Marked)) (es fs : List Entry) → place ms ≡ bare es → place ns ≡ bare fs → place (ms ++ ns) ≡ bare (es ++ fs)
joined ms ns es fs p q =
    both _ _ _ _
    (flat_map-append (λ (member : ℤ × Marked). shift member.0 member.1.entries) ms ns ∙ (ap (λ (m : Marked). m.entries ++ (place ns).entries) p ∙ ap (λ (m : Marked). es ++ m.entries) q))
    (placed_marks-append ms ns ∙ (ap (λ (m : Marked). joined_marks m.marks (place ns).marks) p ∙ ap (λ (m : Marked). m.marks) q))

-- a node's constructor places what the node does, and no marks
mutual
  pub node_places : (tree : Tree) → map_by (form_of_tree tree) ≡ bare (flat tree)
  node_places (leaf kind) = refl
  node_places (vector count block stride child) =
      let old = typemap_bare (form_of_tree child) (flat child) (node_places child) in
      ap (λ m. copies_at (hvector_offsets count block stride (extent_of m)) m) old
      ∙ (copies_bare (hvector_offsets count block stride (natural_extent (flat child))) (flat child) ∙ ap bare (evenly block stride (below count) (flat child)))
  node_places (index block places child) =
      let old = typemap_bare (form_of_tree child) (flat child) (node_places child) in
      ap (λ m. copies_at (hindexed_block_offsets block places (extent_of m)) m) old
      ∙ (copies_bare (hindexed_block_offsets block places (natural_extent (flat child))) (flat child) ∙ ap bare (blocks_at block places (flat child)))
  node_places (group parts) = parts_place parts

  parts_place : (parts : Parts) → place (flat_map part_members (typed parts)) ≡ bare (flat_parts parts)
  parts_place no_parts = refl
  parts_place (part block disp child rest) =
      let old = typemap_bare (form_of_tree child) (flat child) (node_places child) in
      joined (map (λ x. (x, typemap_of (type_of_tree child))) (row_offsets disp block (extent_of (typemap_of (type_of_tree child))))) (flat_map part_members (typed rest))
      (shift disp (run block (flat child))) (flat_parts rest)
      (ap (λ m. copies_at (row_offsets disp block (extent_of m)) m) old
      ∙ (copies_bare (row_offsets disp block (natural_extent (flat child))) (flat child) ∙ ap bare (row_is_run disp block (flat child))))
      (parts_place rest)
