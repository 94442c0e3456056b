-- depth and weight of the datatypes of tidy trees
use Rattle.std.proofs.Common.{◌≡◌, inl, inr, ℕ, zero, suc, ◌+◌, ◌*◌, ◌≤◌, ◌<◌, max, ℤ, List, [], ◌∷◌, map, length, refl, ap, arith}
use Rattle.std.proofs.lemmas.Bool.{cases_lt}
use Rattle.std.proofs.Math.Nat.{mul_assoc, mul-zero}
use Rattle.std.proofs.lemmas.List.Sums.{sum_by-cons}
use Rattle.std.specs.List.{sum_by}
use Rattle.dt_form.specs.declared.form.FormOf.{FormOf}
use Rattle.dt_form.specs.declared.form.PartOf.{PartOf}
use Rattle.dt_type.specs.declared.datatype.Seen.{Seen, out-roll-Seen}
use Rattle.dt_type.specs.Datatype.{Layer, weight_of, depth_of as depth_seen}
use Rattle.dt_type.specs.Form.{result_of, map_by, weight_by, depth_by, deepest}
use Rattle.dt_tree.specs.Rule.{depth_of, depth_of_parts, part_count}
use Rattle.dt_tree.specs.Tidy.{ArePlural, IsTidy, AreTidy}
use Rattle.dt_tree.specs.Tree.{Tree, leaf, vector, index, group, Parts, no_parts, part, flat, flat_parts, IsTree, AreTrees}
use Rattle.dt_tree.proofs.Amounts.{number_of_vector, number_of_index, number_of_part}
use Rattle.dt_tree.proofs.Subtrees.{places_an_entry, parts_place}
use Rattle.dt_rebuild.specs.Built.{form_of_tree, type_of_tree, typed}
use Rattle.dt_rebuild.specs.Laws.{TidyIsLight}

-- what is seen of the datatype of a form
pub depth_is : (form : FormOf Seen) → depth_seen (result_of form) ≡ depth_by form
depth_is form =
    ap (λ (l : Layer). l.depth) (out-roll-Seen (record { entries = (map_by form).entries; marks = (map_by form).marks; form = form; weight = weight_by form; depth = depth_by form }))

pub weight_is : (form : FormOf Seen) → weight_of (result_of form) ≡ weight_by form
weight_is form =
    ap (λ (l : Layer). l.weight) (out-roll-Seen (record { entries = (map_by form).entries; marks = (map_by form).marks; form = form; weight = weight_by form; depth = depth_by form }))

-- the datatype of a tree is as deep as the tree
mutual
  pub as_deep : (tree : Tree) → depth_by (form_of_tree tree) ≡ depth_of tree
  as_deep (leaf kind) = refl
  as_deep (vector count block stride child) = let seen = depth_is (form_of_tree child) in let same = as_deep child in omega arith
  as_deep (index block places child) = let seen = depth_is (form_of_tree child) in let same = as_deep child in omega arith
  as_deep (group parts) = let same = deep_parts parts in omega arith

  deep_parts : (parts : Parts) → deepest (map (λ (p : PartOf Seen). p.old) (typed parts)) ≡ depth_of_parts parts
  deep_parts no_parts = refl
  deep_parts (part block disp child rest) =
      let seen = depth_is (form_of_tree child) in
      let same = as_deep child in
      let more = deep_parts rest in
      omega arith

-- a constructor over one old type is a level deeper, and weighs more by 1 and its items
pub one_deeper : (old : FormOf Seen) → max (depth_seen (result_of old)) 0 ≡ depth_by old
one_deeper old = let seen = depth_is old in omega arith

pub one_heavier : (old : FormOf Seen) → sum_by weight_of (result_of old ∷ []) ≡ weight_by old
one_heavier old = let seen = weight_is old in let whole = sum_by-cons weight_of (result_of old) [] in omega arith

-- at least twice as many entries
twice : (n each : ℕ) → 2 ≤ n → each + each ≤ n * each
twice zero each h = absurd (omega arith)
twice (suc zero) each h = absurd (omega arith)
twice (suc (suc n)) each h = omega arith

pub vector_twice : (count block : ℕ) (stride : ℤ) (child : Tree) → 2 ≤ count * block → length (flat child) + length (flat child) ≤ length (flat (vector count block stride child))
vector_twice count block stride child two =
    let number = number_of_vector count block stride child in
    let regrouped = mul_assoc count block (length (flat child)) in
    let more = twice (count * block) (length (flat child)) two in
    omega arith

pub index_twice : (block : ℕ) (places : List ℤ) (child : Tree) → 2 ≤ length places * block → length (flat child) + length (flat child) ≤ length (flat (index block places child))
index_twice block places child two =
    let number = number_of_index block places child in
    let regrouped = mul_assoc (length places) block (length (flat child)) in
    let more = twice (length places * block) (length (flat child)) two in
    omega arith

-- a part has at least the entries of its child, and twice as many in a longer block
at_least : (n each : ℕ) → 0 < n → each ≤ n * each
at_least zero each h = absurd (omega arith)
at_least (suc n) each h = omega arith

pub part_has : (block : ℕ) (disp : ℤ) (child : Tree) (rest : Parts) → 0 < block → length (flat child) + length (flat_parts rest) ≤ length (flat_parts (part block disp child rest))
part_has block disp child rest some = let number = number_of_part block disp child rest in let more = at_least block (length (flat child)) some in omega arith

pub part_twice : (block : ℕ) (disp : ℤ) (child : Tree) (rest : Parts) → 2 ≤ block →
    length (flat child) + length (flat child) + length (flat_parts rest) ≤ length (flat_parts (part block disp child rest))
part_twice block disp child rest two = let number = number_of_part block disp child rest in let more = twice block (length (flat child)) two in omega arith

-- a group that is plural has at least two entries
pub plural_two : (parts : Parts) → AreTrees parts → ArePlural parts → 2 ≤ length (flat_parts parts)
plural_two no_parts ok plural = absurd plural
plural_two (part block disp child no_parts) ok plural =
    let some = places_an_entry child ok.1 in
    let more = part_twice block disp child no_parts plural in
    omega arith
plural_two (part block disp child (part block' disp' child' rest)) ok plural =
    let some = places_an_entry child ok.1 in
    let others = parts_place (part block' disp' child' rest) tt ok.2 in
    let more = part_has block disp child (part block' disp' child' rest) ok.0 in
    omega arith

-- an index writes down no more places than three for each entry that it has beyond its child
index_places : (p b n : ℕ) → 0 < n → 2 ≤ p * b → p + 1 + 4 * n ≤ 4 * (p * (b * n))
index_places p b n some two = elim (cases_lt p 2) [ inl one ↦ few p b n some two one | inr more ↦ many p b n some more (some_factor p b two) ]
  where
    some_factor : (p b : ℕ) → 2 ≤ p * b → 0 < b
    some_factor p zero two = absurd (omega (arith, mul-zero p))
    some_factor p (suc b) two = omega arith

    few : (p b n : ℕ) → 0 < n → 2 ≤ p * b → p < 2 → p + 1 + 4 * n ≤ 4 * (p * (b * n))
    few zero b n some two lt = absurd (omega arith)
    few (suc zero) b n some two lt = let more = twice b n (omega arith) in omega arith
    few (suc (suc p)) b n some two lt = absurd (omega arith)

    times_le : (p x y : ℕ) → x ≤ y → p * x ≤ p * y
    times_le zero x y h = omega arith
    times_le (suc p) x y h = let more = times_le p x y h in omega arith

    count_up : (p n : ℕ) → 0 < n → 2 ≤ p → p + 1 + 4 * n ≤ 4 * (p * n)
    count_up zero n some two = absurd (omega arith)
    count_up (suc zero) n some two = absurd (omega arith)
    count_up (suc (suc zero)) n some two = omega arith
    count_up (suc (suc (suc p))) n some two = let less = count_up (suc (suc p)) n some (omega arith) in omega arith

    many : (p b n : ℕ) → 0 < n → 2 ≤ p → 0 < b → p + 1 + 4 * n ≤ 4 * (p * (b * n))
    many p b n some more factor =
        let each = at_least b n factor in
        let whole = times_le p n (b * n) each in
        let steps = count_up p n some more in
        omega arith

abbrev olds_weigh : Parts → ℕ
olds_weigh parts = sum_by weight_of (map (λ (p : PartOf Seen). p.old) (typed parts))

-- a datatype weighs 4 for each entry, less 3
length-typed : (parts : Parts) → length (typed parts) ≡ part_count parts
length-typed no_parts = refl
length-typed (part block disp child rest) = let h = length-typed rest in omega arith

mutual
  pub weighs : (tree : Tree) → IsTree tree → IsTidy tree → weight_by (form_of_tree tree) + 3 ≤ 4 * length (flat tree)
  weighs (leaf kind) ok tidy = omega arith
  weighs (vector count block stride child) ok tidy =
      let whole = sum_by-cons weight_of (type_of_tree child) [] in
      let seen = weight_is (form_of_tree child) in
      let inner = weighs child ok.2 tidy.2 in
      let some = places_an_entry child ok.2 in
      let more = vector_twice count block stride child tidy.0 in
      omega arith
  weighs (index block places child) ok tidy =
      let whole = sum_by-cons weight_of (type_of_tree child) [] in
      let seen = weight_is (form_of_tree child) in
      let inner = weighs child ok.2 tidy.2 in
      let some = places_an_entry child ok.2 in
      let number = number_of_index block places child in
      let more = index_places (length places) block (length (flat child)) some tidy.0 in
      omega arith
  weighs (group no_parts) ok tidy = absurd ok.0
  weighs (group (part block disp child no_parts)) ok tidy =
      let whole = sum_by-cons weight_of (type_of_tree child) [] in
      let seen = weight_is (form_of_tree child) in
      let inner = weighs child ok.1.1 tidy.2.1 in
      let some = places_an_entry child ok.1.1 in
      let more = part_twice block disp child no_parts tidy.0 in
      omega arith
  weighs (group (part block disp child (part block' disp' child' rest))) ok tidy =
      let all = weigh_parts (part block disp child (part block' disp' child' rest)) ok.1 tidy.2 in
      let listed = length-typed rest in
      omega arith

  weigh_parts : (parts : Parts) → AreTrees parts → AreTidy parts → olds_weigh parts + 3 * part_count parts ≤ 4 * length (flat_parts parts)
  weigh_parts no_parts ok tidy = omega arith
  weigh_parts (part block disp child rest) ok tidy =
      let whole : olds_weigh (part block disp child rest) ≡ weight_of (type_of_tree child) + olds_weigh rest =
      sum_by-cons weight_of (type_of_tree child) (map (λ (p : PartOf Seen). p.old) (typed rest)) in
      let seen = weight_is (form_of_tree child) in
      let inner = weighs child ok.1 tidy.1 in
      let others = weigh_parts rest ok.2 tidy.2 in
      let more = part_has block disp child rest ok.0 in
      omega arith

pub tidy_is_light : TidyIsLight
tidy_is_light tree ok tidy few = let seen = weight_is (form_of_tree tree) in let h = weighs tree ok tidy in omega arith
