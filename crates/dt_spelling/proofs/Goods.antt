-- the readers of nodes take words from the front and nothing else, and what they take is spelled so
use Rattle.std.proofs.Common.{◌≡◌, ◌⊎◌, inl, inr, ℕ, zero, suc, ◌+◌, ◌-◌, ◌*◌, ◌/◌, ◌≤◌, min, Bool, true, false, cond, ◌&&◌, nat_le, ℤ, pos, Option, Some, None, List, [], ◌∷◌, ◌++◌, map, length, codes, decimal, bytes_eq, refl, sym, ap, subst, ◌∙◌, append-nil, arith}
use Rattle.std.specs.Fmt.{signed_decimal}
use Rattle.std.specs.List.{list_all}
use Rattle.std.proofs.lemmas.Slice.Eq.{bytes_eq-Decides}
use Rattle.dt_kinds.specs.declared.kind.Kind.{Kind}
use Rattle.dt_kinds.specs.declared.kind.Kind.TheVariants.{Byte}
use Rattle.dt_kinds.specs.Kind.{name_of}
use Rattle.dt_tree.specs.declared.node.PartOf.{PartOf}
use Rattle.dt_tree.specs.Node.{parts_of}
use Rattle.dt_tree.specs.Rule.{numbers_fit, parts_fit, part_count, is_count, is_step, depth_of, depth_of_parts, words_of_parts as size_of_parts}
use Rattle.dt_tree.specs.Tree.{Tree, leaf, vector, index, group}
use Rattle.dt_spelling.specs.declared.head.Head.{Head}
use Rattle.dt_spelling.specs.declared.head.Head.TheVariants.{Leaf, Vector, Index, Group}
use Rattle.dt_spelling.specs.Reading.{Reader, Spent, ◌>>=◌, give, item_at, number_in, step_in, kind_in, head_word, has_room, head_named, head_in, with_room, leaf_at, vector_at, index_at, places_at, part_at, parts_at, group_at, behind_head, one_at, node_at}
use Rattle.dt_spelling.specs.Spelling.{Word, Words, words_of, words_of_parts}
use Rattle.dt_spelling.proofs.Again.{size_of, head_spelled}
use Rattle.dt_spelling.proofs.Numbers.{both_true, is_le, le_is, passed, number_spelled, number_means, step_spelled, step_means, kind_spelled, kind_means}
use Rattle.dt_spelling.proofs.Readers.{Good, bind_good, give_good, item_good}

-- words that stand one behind another
front_word : (u v : Words) (w : Word) (ws : Words) → u ≡ w ∷ [] → v ≡ ws → u ++ v ≡ w ∷ ws
front_word u v w ws a b = ap (λ (x : Words). x ++ v) a ∙ ap (λ (x : Words). w ∷ x) b

last_words : (u ws : Words) → u ≡ ws → u ++ [] ≡ ws
last_words u ws a = append-nil u ∙ a

two_words : (u v ws us : Words) → u ≡ ws → v ≡ us → u ++ (v ++ []) ≡ ws ++ us
two_words u v ws us a b = ap (λ (x : Words). x ++ (v ++ [])) a ∙ ap (λ (x : Words). ws ++ x) (last_words v us b)

-- one word
abbrev IsNumber : ℕ → ℕ → Words → Type 0
IsNumber most n u = (u ≡ decimal n ∷ []) × (1 ≤ n) × (n ≤ most)

number_good : (most : ℕ) → 1 ≤ most → Good (IsNumber most) (item_at (number_in most))
number_good most some = item_good (IsNumber most) (number_in most) (decimal 1) 1 (number_spelled most (decimal 1) 1 (omega arith) some (omega arith) refl)
    (λ w y e. let h = number_means most w y e in (ap (λ (x : Word). x ∷ []) h.2, h.0, h.1))

abbrev IsStep : ℤ → Words → Type 0
IsStep x u = (u ≡ signed_decimal x ∷ []) × (is_step x ≡ true)

step_good : Good IsStep (item_at step_in)
step_good = item_good IsStep step_in (signed_decimal (pos 0)) (pos 0) (step_spelled (signed_decimal (pos 0)) (pos 0) refl refl)
    (λ w y e. let h = step_means w y e in (ap (λ (x : Word). x ∷ []) h.1, h.0))

abbrev IsKind : Kind → Words → Type 0
IsKind kind u = u ≡ name_of kind ∷ []

kind_good : Good IsKind (item_at kind_in)
kind_good = item_good IsKind kind_in (name_of Byte) Byte (kind_spelled Byte) (λ w y e. ap (λ (x : Word). x ∷ []) (kind_means w y e))

chosen : {A : Type 0} (b : Bool) (x y z : A) → cond b x y ≡ z → ((b ≡ true) × (x ≡ z)) ⊎ ((b ≡ false) × (y ≡ z))
chosen true x y z e = inl (refl, e)
chosen false x y z e = inr (refl, e)

named_as : (w : Word) (h k : Head) (other : Option Head) → (other ≡ Some h → w ≡ head_word h) → cond (bytes_eq w (head_word k)) (Some k) other ≡ Some h → w ≡ head_word h
named_as w h k other rest e = elim (chosen (bytes_eq w (head_word k)) (Some k) other (Some h) e) [
  | inl p ↦ let same : k ≡ h = cc (p.1) in (bytes_eq-Decides w (head_word k)).0 p.0 ∙ ap head_word same
  | inr p ↦ rest p.1
]

head_named_means : (w : Word) (h : Head) → head_named w ≡ Some h → w ≡ head_word h
unfolding head_named
head_named_means w h e =
    named_as w h Leaf _ (named_as w h Vector _ (named_as w h Index _ (named_as w h Group None (λ p. cc p)))) e

abbrev IsHead : ℕ → ℕ → Head → Words → Type 0
IsHead levels spare h u = (u ≡ head_word h ∷ []) × (has_room levels spare h ≡ true)

with_room_means : (levels spare : ℕ) (o : Option Head) (h : Head) → with_room levels spare o ≡ Some h → (o ≡ Some h) × (has_room levels spare h ≡ true)
with_room_means levels spare None h e = cc
with_room_means levels spare (Some k) h e =
    let p = passed (has_room levels spare k) k h e in (ap Some p.1, subst (λ x. has_room levels spare x ≡ true) p.1 p.0)

head_good : (levels spare : ℕ) → Good (IsHead levels spare) (item_at (head_in levels spare))
unfolding head_in
head_good levels spare = item_good (IsHead levels spare) (head_in levels spare) (head_word Leaf) Leaf (head_spelled levels spare Leaf refl)
    (λ w h e. let p = with_room_means levels spare (head_named w) h e in (ap (λ (x : Word). x ∷ []) (head_named_means w h p.0), p.1))

-- places
abbrev ArePlaces : ℕ → List ℤ → Words → Type 0
ArePlaces n places u = (u ≡ map signed_decimal places) × (list_all is_step places ≡ true) × (length places ≡ n)

and_true : (a b : Bool) → a ≡ true → b ≡ true → (a && b) ≡ true
and_true a b p q = ap (λ x. x && b) p ∙ q

places_good : (n : ℕ) → Good (ArePlaces n) (places_at n)
places_good zero = give_good (ArePlaces zero) [] (refl, refl, refl)
places_good (suc n) =
    bind_good IsStep (ArePlaces (suc n)) (item_at step_in) (λ first. places_at n >>= λ more. give (first ∷ more)) step_good (λ x u a.
    bind_good (ArePlaces n) (λ y v. ArePlaces (suc n) y (u ++ v)) (places_at n) (λ more. give (x ∷ more)) (places_good n) (λ xs v b.
    give_good (λ y w. ArePlaces (suc n) y (u ++ (v ++ w))) (x ∷ xs) (
      front_word u (v ++ []) (signed_decimal x) (map signed_decimal xs) a.0 (last_words v (map signed_decimal xs) b.0),
      and_true (is_step x) (list_all is_step xs) a.1 b.1,
      ap suc b.2,
    )))

-- nodes
pub record IsNode (levels spare : ℕ) (y : Spent Tree) (u : Words) : Type 0 where
  pub words : u ≡ words_of y.0
  pub numbers : numbers_fit y.0 ≡ true
  pub shallow : depth_of y.0 ≤ levels
  pub spent : size_of y.0 + y.1 ≡ 1 + spare

count_is : (n : ℕ) → 1 ≤ n → n ≤ 1024 → is_count n ≡ true
count_is n low high = and_true (nat_le 1 n) (nat_le n 1024) (le_is 1 n low) (le_is n 1024 high)

leaf_good : (levels spare : ℕ) → Good (λ y v. IsNode (suc levels) spare y (codes "leaf" ∷ v)) (leaf_at spare)
unfolding leaf_at
leaf_good levels spare =
    bind_good IsKind (λ y v. IsNode (suc levels) spare y (codes "leaf" ∷ v)) (item_at kind_in) (λ kind. give (leaf kind, spare)) kind_good (λ kind u a.
    give_good (λ y v. IsNode (suc levels) spare y (codes "leaf" ∷ (u ++ v))) (leaf kind, spare) (record {
      words = ap (λ (ws : Words). codes "leaf" ∷ ws) (last_words u (name_of kind ∷ []) a);
      numbers = refl;
      shallow = omega arith;
      spent = refl;
    }))

module _ (below : ℕ → Reader (Spent Tree)) (levels spare : ℕ) (good : (s : ℕ) → Good (IsNode levels s) (below s)) where
  vector_good : 1 ≤ spare → Good (λ y v. IsNode (suc levels) spare y (codes "vector" ∷ v)) (vector_at below spare)
  unfolding vector_at
  vector_good room =
      bind_good (IsNumber 1024) _ (item_at (number_in 1024)) _ (number_good 1024 (omega arith)) (λ count u a.
      bind_good (IsNumber 1024) _ (item_at (number_in 1024)) _ (number_good 1024 (omega arith)) (λ block v b.
      bind_good IsStep _ (item_at step_in) _ step_good (λ stride w c.
      bind_good (IsNode levels (spare - 1)) _ (below (spare - 1)) _ (good (spare - 1)) (λ child x d.
      give_good (λ y z. IsNode (suc levels) spare y (codes "vector" ∷ (u ++ (v ++ (w ++ (x ++ z)))))) (vector count block stride child.0, child.1) (record {
        words = ap (λ (ws : Words). codes "vector" ∷ ws)
            (front_word u _ (decimal count) _ a.0 (front_word v _ (decimal block) _ b.0 (front_word w _ (signed_decimal stride) _ c.0 (last_words x (words_of child.0) d.words))));
        numbers = and_true (is_count count) _ (count_is count a.1 a.2) (and_true (is_count block) _ (count_is block b.1 b.2) (and_true (is_step stride) (numbers_fit child.0) c.1 d.numbers));
        shallow = let h = d.shallow in omega arith;
        spent = let h = d.spent in omega arith;
      })))))

  index_good : 2 ≤ spare → Good (λ y v. IsNode (suc levels) spare y (codes "index" ∷ v)) (index_at below spare)
  unfolding index_at
  index_good room =
      let most : 1 ≤ min (spare - 1) 1024 = omega arith in
      bind_good (IsNumber (min (spare - 1) 1024)) _ (item_at (number_in (min (spare - 1) 1024))) _ (number_good (min (spare - 1) 1024) most) (λ n u a.
      bind_good (IsNumber 1024) _ (item_at (number_in 1024)) _ (number_good 1024 (omega arith)) (λ block v b.
      bind_good (ArePlaces n) _ (places_at n) _ (places_good n) (λ places w c.
      bind_good (IsNode levels (spare - 1 - n)) _ (below (spare - 1 - n)) _ (good (spare - 1 - n)) (λ child x d.
      give_good (λ y z. IsNode (suc levels) spare y (codes "index" ∷ (u ++ (v ++ (w ++ (x ++ z)))))) (index block places child.0, child.1) (
      let low = a.1 in
      let high : n ≤ min (spare - 1) 1024 = a.2 in
      let deep = d.shallow in
      let spent = d.spent in
      let same = c.2 in
      let few : is_count (length places) ≡ true = count_is (length places) (omega arith) (omega arith) in
      record {
        words = ap (λ (ws : Words). codes "index" ∷ ws)
            (front_word u _ (decimal (length places)) _ (a.0 ∙ ap (λ (m : ℕ). decimal m ∷ []) (sym same)) (front_word v _ (decimal block) _ b.0 (two_words w x (map signed_decimal places) (words_of child.0) c.0 d.words)));
        numbers = and_true (is_count block) _ (count_is block b.1 b.2) (and_true (is_count (length places)) _ few (and_true (list_all is_step places) (numbers_fit child.0) c.1 d.numbers));
        shallow = omega arith;
        spent = omega arith;
      })))))

  pub record IsPart (room : ℕ) (y : Spent (PartOf Tree)) (u : Words) : Type 0 where
    pub words : u ≡ decimal (y.0).block ∷ signed_decimal (y.0).disp ∷ words_of (y.0).node
    pub block : is_count (y.0).block ≡ true
    pub disp : is_step (y.0).disp ≡ true
    pub numbers : numbers_fit (y.0).node ≡ true
    pub shallow : depth_of (y.0).node ≤ levels
    pub spent : size_of (y.0).node + y.1 ≡ 1 + room

  part_good : (room : ℕ) → Good (IsPart room) (part_at below room)
  unfolding part_at
  part_good room =
      bind_good (IsNumber 1024) _ (item_at (number_in 1024)) _ (number_good 1024 (omega arith)) (λ block u a.
      bind_good IsStep _ (item_at step_in) _ step_good (λ disp v b.
      bind_good (IsNode levels room) _ (below room) _ (good room) (λ child w c.
      give_good (λ y z. IsPart room y (u ++ (v ++ (w ++ z)))) (record { block = block; disp = disp; node = child.0 }, child.1) (record {
        words = front_word u _ (decimal block) _ a.0 (front_word v _ (signed_decimal disp) _ b.0 (last_words w (words_of child.0) c.words));
        block = count_is block a.1 a.2;
        disp = b.1;
        numbers = c.numbers;
        shallow = c.shallow;
        spent = c.spent;
      }))))

  pub record AreParts (n room : ℕ) (y : Spent (List (PartOf Tree))) (u : Words) : Type 0 where
    pub words : u ≡ words_of_parts (parts_of y.0)
    pub count : part_count (parts_of y.0) ≡ n
    pub numbers : parts_fit (parts_of y.0) ≡ true
    pub shallow : depth_of_parts (parts_of y.0) ≤ levels
    pub spent : size_of_parts (parts_of y.0) + y.1 ≡ 2 * n + room

  parts_good : (n room : ℕ) → Good (AreParts n room) (parts_at below n room)
  parts_good zero room = give_good (AreParts zero room) ([], room) (record { words = refl; count = refl; numbers = refl; shallow = omega arith; spent = omega arith })
  parts_good (suc n) room =
      bind_good (IsPart room) _ (part_at below room) _ (part_good room) (λ first u a.
      bind_good (AreParts n first.1) _ (parts_at below n first.1) _ (parts_good n first.1) (λ more v b.
      give_good (λ y z. AreParts (suc n) room y (u ++ (v ++ z))) (first.0 ∷ more.0, more.1) (
      let deep = a.shallow in
      let deeper = b.shallow in
      let spent = a.spent in
      let left = b.spent in
      let count = b.count in
      record {
        words = two_words u v (decimal (first.0).block ∷ signed_decimal (first.0).disp ∷ words_of (first.0).node) (words_of_parts (parts_of more.0)) a.words b.words;
        count = omega arith;
        numbers = and_true (is_count (first.0).block) _ a.block (and_true (is_step (first.0).disp) _ a.disp (and_true (numbers_fit (first.0).node) (parts_fit (parts_of more.0)) a.numbers b.numbers));
        shallow = omega arith;
        spent = omega arith;
      })))

  group_good : 2 ≤ spare → Good (λ y v. IsNode (suc levels) spare y (codes "struct" ∷ v)) (group_at below spare)
  unfolding group_at
  group_good room =
      let most : 1 ≤ min (spare / 2) 1024 = omega arith in
      bind_good (IsNumber (min (spare / 2) 1024)) _ (item_at (number_in (min (spare / 2) 1024))) _ (number_good (min (spare / 2) 1024) most) (λ n u a.
      bind_good (AreParts n (spare - n - n)) _ (parts_at below n (spare - n - n)) _ (parts_good n (spare - n - n)) (λ parts v b.
      give_good (λ y z. IsNode (suc levels) spare y (codes "struct" ∷ (u ++ (v ++ z)))) (group (parts_of parts.0), parts.1) (
      let low = a.1 in
      let high : n ≤ min (spare / 2) 1024 = a.2 in
      let deep = b.shallow in
      let spent = b.spent in
      let count = b.count in
      let few : is_count (part_count (parts_of parts.0)) ≡ true = count_is (part_count (parts_of parts.0)) (omega arith) (omega arith) in
      record {
        words = ap (λ (ws : Words). codes "struct" ∷ ws)
            (front_word u _ (decimal (part_count (parts_of parts.0))) _ (a.0 ∙ ap (λ (m : ℕ). decimal m ∷ []) (sym count)) (last_words v (words_of_parts (parts_of parts.0)) b.words));
        numbers = and_true (is_count (part_count (parts_of parts.0))) (parts_fit (parts_of parts.0)) few b.numbers;
        shallow = omega arith;
        spent = omega arith;
      })))

-- a node and all below it
module _ (below : ℕ → Reader (Spent Tree)) (levels spare : ℕ) (good : 1 ≤ levels → (s : ℕ) → Good (IsNode levels s) (below s)) where
  behind_good : (h : Head) → has_room levels spare h ≡ true → Good (λ y v. IsNode (suc levels) spare y (head_word h ∷ v)) (behind_head below spare h)
  behind_good Leaf room = leaf_good levels spare
  behind_good Vector room =
      let h = both_true (nat_le 1 levels) (nat_le 1 spare) room in vector_good below levels spare (good (is_le 1 levels h.0)) (is_le 1 spare h.1)
  behind_good Index room =
      let h = both_true (nat_le 1 levels) (nat_le 2 spare) room in index_good below levels spare (good (is_le 1 levels h.0)) (is_le 2 spare h.1)
  behind_good Group room =
      let h = both_true (nat_le 1 levels) (nat_le 2 spare) room in group_good below levels spare (good (is_le 1 levels h.0)) (is_le 2 spare h.1)

  one_good : Good (IsNode (suc levels) spare) (one_at below levels spare)
  unfolding one_at
  one_good =
      bind_good (IsHead levels spare) (IsNode (suc levels) spare) (item_at (head_in levels spare)) (λ head. behind_head below spare head) (head_good levels spare) (λ h u a.
      subst (λ (ws : Words). Good (λ y v. IsNode (suc levels) spare y (ws ++ v)) (behind_head below spare h)) (sym a.0) (behind_good h a.1))

pub node_good : (levels spare : ℕ) → 1 ≤ levels → Good (IsNode levels spare) (node_at levels spare)
unfolding node_at
node_good zero spare some = absurd (omega arith)
node_good (suc levels) spare some = one_good (node_at levels) levels spare (λ more s. node_good levels s more)
