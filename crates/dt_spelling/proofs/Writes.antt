-- the words of a node, one node at a time
use Rattle.std.proofs.Common.{◌≡◌, ℕ, ◌-◌, List, [], ◌∷◌, ◌++◌, map, flat_map, length, take, codes, decimal, sym, ap, ◌∙◌, refl, append_assoc, append-nil, arith}
use Rattle.std.specs.Fmt.{signed_decimal}
use Rattle.std.specs.List.{join_with_byte}
use Rattle.std.proofs.lemmas.List.{length_push, take_at}
use Rattle.dt_tree.proofs.Nodes.{nodes}
use Rattle.dt_kinds.specs.Kind.{name_of}
use Rattle.dt_tree.specs.Rule.{part_count}
use Rattle.dt_tree.specs.Tree.{Tree, leaf, vector, index, group}
use Rattle.dt_spelling.specs.Spelling.{Words, Word, ended, space, words_of, words_of_parts, text_of}

pub more_words : (xs ys : Words) → flat_map ended (xs ++ ys) ≡ flat_map ended xs ++ flat_map ended ys
more_words [] ys = refl
more_words (x ∷ xs) ys = ap (λ t. ended x ++ t) (more_words xs ys) ∙ sym (append_assoc (ended x) (flat_map ended xs) (flat_map ended ys))

pub ruleset writes = (nodes, append_assoc, more_words)

-- words with a space behind each are the words with one space between any two, and a space
pub ended_words : (w : Word) (ws : Words) → flat_map ended (w ∷ ws) ≡ join_with_byte space (w ∷ ws) ++ space ∷ []
ended_words w [] = append-nil (ended w)
ended_words w (v ∷ ws) = ap (λ t. ended w ++ t) (ended_words v ws) ∙ (append_assoc w (space ∷ []) _ ∙ sym (append_assoc w (space ∷ join_with_byte space (v ∷ ws)) (space ∷ [])))

pub ended_tree : (tree : Tree) → flat_map ended (words_of tree) ≡ text_of tree ++ space ∷ []
ended_tree (leaf kind) = ended_words (codes "leaf") (name_of kind ∷ [])
ended_tree (vector count block stride child) = ended_words (codes "vector") (decimal count ∷ decimal block ∷ signed_decimal stride ∷ words_of child)
ended_tree (index block places child) = ended_words (codes "index") (decimal (length places) ∷ decimal block ∷ (map signed_decimal places ++ words_of child))
ended_tree (group parts) = ended_words (codes "struct") (decimal (part_count parts) ∷ words_of_parts parts)

-- without the last byte they are the text
pub all_but_last : (tree : Tree) (whole text : List ℕ) (n : ℕ) → whole ≡ flat_map ended (words_of tree) → length whole ≡ n → text ≡ take (n - 1) whole → text ≡ text_of tree
all_but_last tree whole text n is len e =
    let same : whole ≡ text_of tree ++ space ∷ [] = is ∙ ended_tree tree in
    let short : length (text_of tree) ≡ n - 1 = omega (arith, len, ap length same, length_push (text_of tree) space) in
    e ∙ (ap (take (n - 1)) same ∙ take_at (text_of tree) (space ∷ []) (n - 1) short)
