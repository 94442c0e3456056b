-- the text of a tree is cut into its words again
use Rattle.std.proofs.Common.{◌≡◌, true, ◌==◌, ℤ, List, [], ◌∷◌, ◌++◌, map, length, codes, decimal, refl, ap, ◌∙◌, arith}
use Rattle.std.specs.Fmt.{signed_decimal}
use Rattle.std.specs.List.{AllByRecursion, join_with_byte, list_all}
use Rattle.std.proofs.lemmas.List.Splits.{slice_split_none, slice_split_at}
use Rattle.dt_kinds.specs.Kind.{name_of}
use Rattle.dt_tree.specs.Rule.{numbers_fit, parts_fit, part_count, is_step}
use Rattle.dt_tree.specs.Tree.{Tree, leaf, vector, index, group, Parts, no_parts, part}
use Rattle.dt_tree.proofs.Limits.{vector_fits, index_fits, part_fits, group_fits, step_fits}
use Rattle.dt_spelling.specs.Laws.{CutsIntoWords}
use Rattle.dt_spelling.specs.Spelling.{Word, Words, space, words_of, words_of_parts, words_in}
use Rattle.dt_spelling.proofs.Numbers.{both_true, IsSpaceless, passes_spaceless, decimal_spaceless, signed_spaceless, name_spaceless}

-- words without spaces, joined and cut
pub cut_again : (w : Word) (ws : Words) → IsSpaceless w → AllByRecursion IsSpaceless ws → words_in (join_with_byte space (w ∷ ws)) ≡ w ∷ ws
cut_again w [] h hs = slice_split_none (λ b. b == space) w h
cut_again w (v ∷ ws) h hs =
    slice_split_at (λ b. b == space) w space (join_with_byte space (v ∷ ws)) h refl ∙ ap (λ (rest : Words). w ∷ rest) (cut_again v ws hs.0 hs.1)

abbrev AreSpaceless : Words → Type 0
AreSpaceless words = AllByRecursion IsSpaceless words

joined : (xs ys : Words) → AreSpaceless xs → AreSpaceless ys → AreSpaceless (xs ++ ys)
joined [] ys h k = k
joined (x ∷ xs) ys h k = (h.0, joined xs ys h.1 k)

places_spaceless : (places : List ℤ) → list_all is_step places ≡ true → AreSpaceless (map signed_decimal places)
places_spaceless [] e = tt
places_spaceless (x ∷ places) e =
    let h = both_true (is_step x) (list_all is_step places) e in
    (signed_spaceless x (omega (arith, step_fits x h.0)), places_spaceless places h.1)

mutual
  tree_spaceless : (tree : Tree) → numbers_fit tree ≡ true → AreSpaceless (words_of tree)
  tree_spaceless (leaf kind) e = (passes_spaceless (codes "leaf") refl, (name_spaceless kind, tt))
  tree_spaceless (vector count block stride child) e =
      let h = vector_fits count block stride child e in
      (passes_spaceless (codes "vector") refl, (decimal_spaceless count (omega (arith, h.count_fits)), (decimal_spaceless block (omega (arith, h.block_fits)), (signed_spaceless stride (omega (arith, h.stride_fits)), tree_spaceless child h.child_fits))))
  tree_spaceless (index block places child) e =
      let h = index_fits block places child e in
      (passes_spaceless (codes "index") refl, (decimal_spaceless (length places) (omega (arith, h.number_fits)), (decimal_spaceless block (omega (arith, h.block_fits)), joined (map signed_decimal places) (words_of child) (places_spaceless places h.places_fit) (tree_spaceless child h.child_fits))))
  tree_spaceless (group parts) e =
      let h = group_fits parts e in
      (passes_spaceless (codes "struct") refl, (decimal_spaceless (part_count parts) (omega (arith, h.1)), parts_spaceless parts h.2))

  parts_spaceless : (parts : Parts) → parts_fit parts ≡ true → AreSpaceless (words_of_parts parts)
  parts_spaceless no_parts e = tt
  parts_spaceless (part block disp child rest) e =
      let h = part_fits block disp child rest e in
      (decimal_spaceless block (omega (arith, h.block_fits)), (signed_spaceless disp (omega (arith, h.disp_fits)), joined (words_of child) (words_of_parts rest) (tree_spaceless child h.child_fits) (parts_spaceless rest h.rest_fits)))

pub cuts_into_words : CutsIntoWords
cuts_into_words (leaf kind) e = let h = tree_spaceless (leaf kind) e in cut_again (codes "leaf") (name_of kind ∷ []) h.0 h.1
cuts_into_words (vector count block stride child) e =
    let h = tree_spaceless (vector count block stride child) e in
    cut_again (codes "vector") (decimal count ∷ decimal block ∷ signed_decimal stride ∷ words_of child) h.0 h.1
cuts_into_words (index block places child) e =
    let h = tree_spaceless (index block places child) e in
    cut_again (codes "index") (decimal (length places) ∷ decimal block ∷ (map signed_decimal places ++ words_of child)) h.0 h.1
cuts_into_words (group parts) e =
    let h = tree_spaceless (group parts) e in
    cut_again (codes "struct") (decimal (part_count parts) ∷ words_of_parts parts) h.0 h.1
