-- lines joined from words, and texts from lines
use Rattle.std.proofs.Common.{◌≡◌, ℕ, ◌+◌, ◌<◌, ◌≤◌, Bool, cond, true, false, List, [], ◌∷◌, ◌++◌, map, take, length, get_or, codes, refl, sym, ap, ◌∙◌, arith, append_assoc, append-nil}
use Rattle.std.specs.List.{filter, flat_map, join_with_byte}
use Rattle.std.proofs.lemmas.List.{take_more, map_push, take_all}
use Rattle.dt_tree.specs.Tree.{Tree, leaf, vector, index, group}
use Rattle.dt_spelling.specs.Spelling.{space, words_of, text_of as tree_text}
use Rattle.dt_cert.specs.Text.{text_of_line}

pub ruleset joins = (append_assoc)

-- the words of a tree behind a word
tree_behind : (tree : Tree) → join_with_byte space (codes "tree" ∷ words_of tree) ≡ codes "tree" ++ space ∷ tree_text tree
tree_behind (leaf kind) = refl
tree_behind (vector count block stride child) = refl
tree_behind (index block places child) = refl
tree_behind (group parts) = refl

pub tree_joined : (before text : List ℕ) (tree : Tree) → text ≡ tree_text tree → ((before ++ codes "tree ") ++ text) ++ 10 ∷ [] ≡ before ++ text_of_line (codes "tree" ∷ words_of tree)
tree_joined before text tree is =
    ap (λ t. ((before ++ codes "tree ") ++ t) ++ 10 ∷ []) is
    ∙ (ap (λ t. t ++ 10 ∷ []) (append_assoc before (codes "tree ") (tree_text tree)) ∙ (append_assoc before (codes "tree " ++ tree_text tree) (10 ∷ []) ∙ ap (λ t. before ++ (t ++ 10 ∷ [])) (sym (tree_behind tree))))

-- lines of a list
pub lines_mapped : {X : Type 0} {Y : Type 0} (line : Y → List ℕ) (f : X → Y) (xs : List X) → flat_map (λ x. line (f x)) xs ≡ flat_map line (map f xs)
lines_mapped line f [] = refl
lines_mapped line f (x ∷ xs) = ap (λ t. line (f x) ++ t) (lines_mapped line f xs)

pub lines_filtered : {X : Type 0} (line : X → List ℕ) (test : X → Bool) (xs : List X) → flat_map (λ x. cond (test x) (line x) []) xs ≡ flat_map line (filter test xs)
lines_filtered line test [] = refl
lines_filtered line test (x ∷ xs) = of (test x) (lines_filtered line test xs)
  where
    of : (b : Bool) → flat_map (λ y. cond (test y) (line y) []) xs ≡ flat_map line (filter test xs) → cond b (line x) [] ++ flat_map (λ y. cond (test y) (line y) []) xs ≡ flat_map line (cond b (x ∷ filter test xs) (filter test xs))
    of true h = ap (λ t. line x ++ t) h
    of false h = h
