-- a text read one node, place or part at a time
use Rattle.std.proofs.Common.{◌≡◌, ℕ, suc, ◌+◌, ◌≤◌, ◌<◌, ℤ, List, [], ◌∷◌, ◌++◌, length, drop, Option, Some, None, Result, Ok, Err, refl, sym, ap, ◌∙◌, arith, add-one, append_assoc}
use mir.Syntax.{w64}
use mir.Val.{to_z, of_z}
use Rattle.dt_tree.specs.declared.node.Node.{Node}
use Rattle.dt_tree.specs.declared.node.Node.TheVariants.{Group}
use Rattle.dt_tree.specs.declared.node.PartOf.{PartOf}
use Rattle.dt_tree.specs.Node.{tree_of, trees_of, parts_of}
use Rattle.dt_tree.specs.Tree.{Tree, group, part}
use Rattle.dt_tree.proofs.Limits.{step_fits, step_back}
use Rattle.dt_tree.proofs.Nodes.{of_leaf, of_vector, of_index, of_group}
use Rattle.dt_spelling.specs.Reading.{Reader, Spent, bind, on_ok, give, read_as, item_at, step_in, places_at, part_at, parts_at, node_at, one_at, only, part_seen, parts_seen, with_front, with_parts, words_from}
use Rattle.dt_spelling.specs.Spelling.{Word, Words, words_in}
use Rattle.dt_spelling.proofs.Numbers.{step_means}
use Rattle.dt_spelling.proofs.Rests.{from_within, from_past}

read_ok : {A : Type 0} (o : Option A) (here behind rest : Words) (x : A) → read_as o here behind ≡ Ok (x, rest) → (o ≡ Some x) × (behind ≡ rest)
read_ok None here behind rest x e = cc
read_ok {A} (Some y) here behind rest x e =
    let same : ◌≡◌ {A = A × Words} (y, behind) (x, rest) = cc in
    (ap (λ (p : A × Words). Some p.0) same, ap (λ (p : A × Words). p.1) same)

pub node_more : (levels below spare : ℕ) (words : Words) → levels ≡ below + 1 → node_at levels spare words ≡ one_at (node_at below) below spare words
unfolding node_at
node_more levels below spare words is = ap (λ n. node_at n spare words) (is ∙ add-one below)

pub node_none : (levels spare : ℕ) (words : Words) → levels ≡ 0 → node_at levels spare words ≡ Err words
unfolding node_at
node_none levels spare words is = ap (λ n. node_at n spare words) is

pub parts_as : (parts : List (PartOf Node)) → parts_of (parts_seen parts) ≡ trees_of parts
parts_as [] = refl
parts_as (p ∷ parts) = ap (part p.block p.disp (tree_of p.node)) (parts_as parts)

pub group_seen : (parts : List (PartOf Node)) → tree_of (Group parts) ≡ group (parts_of (parts_seen parts))
group_seen parts = of_group parts ∙ ap group (sym (parts_as parts))

some_words : (tree : Tree) (text : List ℕ) → only tree (words_in text) ≡ Err (words_in text)
some_words tree [] = refl
some_words tree (b ∷ text) = grind arith

pub only_past : (tree : Tree) (text : List ℕ) (at : ℕ) → length text < at → only tree (words_from text at) ≡ Ok tree
only_past tree text at gt = ap (only tree) (from_past text at gt)

pub only_within : (tree : Tree) (text : List ℕ) (at : ℕ) → at ≤ length text → only tree (words_from text at) ≡ Err (words_from text at)
only_within tree text at le =
    let e = from_within text at le in
    ap (only tree) e ∙ (some_words tree (drop at text) ∙ ap (λ (ws : Words). let r : Result Tree Words = Err ws in r) (sym e))

pub ruleset steps = (of_leaf, of_vector, of_index, group_seen, node_more, node_none, only_past, only_within)

-- a loop's step: what was read stands in front of what is read then
push_front : {A : Type 0} (front : List A) (x : A) (r : Result (List A × Words) Words) → with_front front (on_ok r (λ more. give (x ∷ more))) ≡ with_front (front ++ x ∷ []) r
push_front front x (Ok more) = ap (λ xs. Ok (xs, more.1)) (sym (append_assoc front (x ∷ []) more.0))
push_front front x (Err left) = refl

pub places_step : (front : List ℤ) (n m : ℕ) (words rest : Words) (x : ℤ) → n ≡ suc m → item_at step_in words ≡ Ok (x, rest) →
    with_front front (places_at n words) ≡ with_front (front ++ x ∷ []) (places_at m rest)
unfolding bind
places_step front n m words rest x is read =
    ap (λ k. with_front front (places_at k words)) is
    ∙ (ap (λ (r : Result (ℤ × Words) Words). with_front front (on_ok r (λ first behind. on_ok (places_at m behind) (λ more. give (first ∷ more))))) read
    ∙ push_front front x (places_at m rest))

push_parts : (front : List (PartOf Tree)) (x : PartOf Tree) (r : Result (Spent (List (PartOf Tree)) × Words) Words) →
    with_parts front (on_ok r (λ more. give (x ∷ more.0, more.1))) ≡ with_parts (front ++ x ∷ []) r
push_parts front x (Ok more) = ap (λ xs. Ok ((xs, more.0.1), more.1)) (sym (append_assoc front (x ∷ []) more.0.0))
push_parts front x (Err left) = refl

pub parts_step : (below : ℕ → Reader (Spent Tree)) (front : List (PartOf Tree)) (n m spare left : ℕ) (words rest : Words) (x : PartOf Tree) → n ≡ suc m →
    part_at below spare words ≡ Ok ((x, left), rest) →
    with_parts front (parts_at below n spare words) ≡ with_parts (front ++ x ∷ []) (parts_at below m left rest)
unfolding bind
parts_step below front n m spare left words rest x is read =
    ap (λ k. with_parts front (parts_at below k spare words)) is
    ∙ (ap (λ (r : Result (Spent (PartOf Tree) × Words) Words). with_parts front (on_ok r (λ first behind. on_ok (parts_at below m first.1 behind) (λ more. give (first.0 ∷ more.0, more.1))))) read
    ∙ push_parts front x (parts_at below m left rest))

pub seen_push : (parts : List (PartOf Node)) (p : PartOf Node) → parts_seen (parts ++ p ∷ []) ≡ parts_seen parts ++ part_seen p ∷ []
seen_push [] p = refl
seen_push (q ∷ parts) p = ap (λ (ps : List (PartOf Tree)). part_seen q ∷ ps) (seen_push parts p)

-- what one word spelled
pub item_ok : {A : Type 0} (spelled : Word → Option A) (words rest : Words) (x : A) → item_at spelled words ≡ Ok (x, rest) →
    (word : Word) × (words ≡ word ∷ rest) × (spelled word ≡ Some x)
item_ok spelled [] rest x e = cc
item_ok spelled (word ∷ words) rest x e = let h = read_ok (spelled word) (word ∷ words) words rest x e in (word, ap (λ (ws : Words). word ∷ ws) h.1, h.0)

-- a stride, place or displacement that was read, read back from its bits
pub step_again : (words rest : Words) (x : ℤ) → item_at step_in words ≡ Ok (x, rest) → to_z w64 (of_z w64 x) ≡ x
step_again words rest x e = let h = item_ok step_in words rest x e in step_back x (step_fits x (step_means h.0 x h.2).0)
