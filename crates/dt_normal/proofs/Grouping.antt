-- groups of cheapest parts, made one after another
use Rattle.std.proofs.Common.{◌≡◌, ◌⊎◌, inl, inr, ℕ, ◌+◌, ◌-◌, ◌*◌, ◌≤◌, ◌<◌, ℤ, pos, ◌+ℤ◌, ◌-ℤ◌, List, [], ◌∷◌, ◌++◌, length, refl, sym, ap, ◌∙◌, subst, arith, append_assoc, length-append}
use Rattle.std.proofs.lemmas.Int.{ints}
use Rattle.dt_map.specs.declared.entry.Entry.{Entry}
use Rattle.dt_map.specs.Typemap.{shift}
use Rattle.dt_map.specs.Runs.{run}
use Rattle.dt_map.specs.Alike.{segment}
use Rattle.dt_map.proofs.Placings.{shift-shift, shift-append}
use Rattle.dt_map.proofs.Summaries.{length-shift}
use Rattle.dt_map.proofs.Seats.{segment_sits, length-run}
use Rattle.dt_map.proofs.Stacks.{runs_stacked}
use Rattle.dt_alike.specs.Step.{entry_at, step_between}
use Rattle.dt_tree.specs.declared.node.Node.{Node}
use Rattle.dt_tree.specs.declared.node.PartOf.{PartOf}
use Rattle.dt_tree.specs.Node.{tree_of, trees_of}
use Rattle.dt_tree.specs.Cost.{cost_of, cost_of_parts}
use Rattle.dt_tree.specs.Tidy.{first_part, IsGroup, ArePlural, AreTidy}
use Rattle.dt_tree.specs.Tree.{Tree, leaf, vector, index, group, Parts, no_parts, part, flat, flat_parts, has_part, AreTrees}
use Rattle.dt_tree.specs.Weights.{Weights}
use Rattle.dt_tree.proofs.Subtrees.{places_an_entry, parts_place, run-pos}
use Rattle.dt_normal.specs.declared.form.Form.TheVariants.{Parts as GroupForm}
use Rattle.dt_normal.specs.Costs.{IsLeastOf, IsPartsCost}
use Rattle.dt_normal.specs.Forms.{IsForm, IsCheapest, IsCheapestBlock, IsFirstPart}
use Rattle.dt_normal.proofs.Standing.{segment-add, length_of, run_one, one_place, fewer_first, part_of_block}
use Rattle.dt_normal.proofs.Lower.{first_copy, tree_sits}

-- parts one after another, and further on
abbrev pub add : Parts → Parts → Parts
add no_parts more = more
add (part block disp child rest) more = part block disp child (add rest more)

abbrev pub further : ℤ → Parts → Parts
further x no_parts = no_parts
further x (part block disp child rest) = part block (disp +ℤ x) child (further x rest)

flat-add : (a b : Parts) → flat_parts (add a b) ≡ flat_parts a ++ flat_parts b
flat-add no_parts b = refl
flat-add (part block disp child rest) b =
    ap (λ s. shift disp (run block (flat child)) ++ s) (flat-add rest b) ∙ sym (append_assoc (shift disp (run block (flat child))) (flat_parts rest) (flat_parts b))

flat-further : (x : ℤ) (a : Parts) → flat_parts (further x a) ≡ shift x (flat_parts a)
flat-further x no_parts = refl
flat-further x (part block disp child rest) =
    ap (λ s. shift (disp +ℤ x) (run block (flat child)) ++ s) (flat-further x rest)
    ∙ (ap (λ s. s ++ shift x (flat_parts rest)) (sym (shift-shift x disp (run block (flat child)))) ∙ sym (shift-append x (shift disp (run block (flat child))) (flat_parts rest)))

trees-add : (a b : Parts) → AreTrees a → AreTrees b → AreTrees (add a b)
trees-add no_parts b are more = more
trees-add (part block disp child rest) b are more = (are.0, are.1, trees-add rest b are.2 more)

trees-further : (x : ℤ) (a : Parts) → AreTrees a → AreTrees (further x a)
trees-further x no_parts are = are
trees-further x (part block disp child rest) are = (are.0, are.1, trees-further x rest are.2)

cost-add : (w : Weights) (a b : Parts) → cost_of_parts w (add a b) ≡ cost_of_parts w a + cost_of_parts w b
cost-add w no_parts b = omega arith
cost-add w (part block disp child rest) b = omega (arith, cost-add w rest b)

cost-further : (w : Weights) (x : ℤ) (a : Parts) → cost_of_parts w (further x a) ≡ cost_of_parts w a
cost-further w x no_parts = refl
cost-further w x (part block disp child rest) = ap (λ c. w.part + cost_of w child + c) (cost-further w x rest)

tidy-add : (a b : Parts) → AreTidy a → AreTidy b → AreTidy (add a b)
tidy-add no_parts b are more = more
tidy-add (part block disp child rest) b are more = (are.0, are.1, tidy-add rest b are.2 more)

first-add : (a b : Parts) → has_part a → first_part (add a b) ≡ first_part a
first-add no_parts b some = absurd some
first-add (part block disp child rest) b some = refl

has-add : (a b : Parts) → has_part a → has_part (add a b)
has-add no_parts b some = absurd some
has-add (part block disp child rest) b some = tt

plural-add : (a : Parts) (block : ℕ) (disp : ℤ) (child : Tree) (rest : Parts) → has_part a → ArePlural (add a (part block disp child rest))
plural-add no_parts block disp child rest some = absurd some
plural-add (part b d c no_parts) block disp child rest some = tt
plural-add (part b d c (part _ _ _ _)) block disp child rest some = tt

-- parts of two segments side by side, from one base on
pub parts_joined : (w : Weights) (m : List Entry) (start k len : ℕ) (base other : ℤ) (a b : Parts) → shift base (flat_parts a) ≡ segment m start k
    → shift other (flat_parts b) ≡ segment m (start + k) len → shift base (flat_parts (add a (further (other -ℤ base) b))) ≡ segment m start (k + len)
parts_joined w m start k len base other a b one two =
    let back : (other -ℤ base) +ℤ base ≡ other = omega (arith, ints) in
    ap (shift base) (flat-add a (further (other -ℤ base) b))
    ∙ (shift-append base (flat_parts a) (flat_parts (further (other -ℤ base) b))
    ∙ (ap (λ s. s ++ shift base (flat_parts (further (other -ℤ base) b))) one
    ∙ (ap (λ s. segment m start k ++ shift base s) (flat-further (other -ℤ base) b)
    ∙ (ap (λ s. segment m start k ++ s) (shift-shift base (other -ℤ base) (flat_parts b) ∙ (ap (λ z. shift z (flat_parts b)) back ∙ two)) ∙ sym (segment-add m start k len)))))

-- a block of one copy is no group, where the first part is as short as it can be
nested : (w : Weights) (m : List Entry) (from left most next copies : ℕ) (child : Tree) → from + left ≤ length m → most ≤ left → IsFirstPart w m from left most next
    → IsCheapestBlock w m from next copies child → copies ≡ 1 → IsGroup child → ⊥
nested w m from left most next copies (leaf kind) inside less first block one is = is
nested w m from left most next copies (vector _ _ _ _) inside less first block one is = is
nested w m from left most next copies (index _ _ _) inside less first block one is = is
nested w m from left most next copies (group no_parts) inside less first block one is = absurd block.is.0
nested w m from left most next copies (group (part n disp child no_parts)) inside less first block one is =
    let stands : shift (entry_at m from).disp (flat (group (part n disp child no_parts))) ≡ segment m from next =
    ap (shift (entry_at m from).disp) (sym (run_one (flat (group (part n disp child no_parts)))) ∙ ap (λ c. run c (flat (group (part n disp child no_parts)))) (sym one)) ∙ block.stands in
    let within : from + next ≤ length m = omega (arith, first.within, less, inside) in
    let sits = segment_sits m (entry_at m from).disp (flat (group (part n disp child no_parts))) from next within (sym stands) in
    let inner = Rattle.dt_tree.proofs.Subtrees.part_block m (entry_at m from).disp from n disp child no_parts sits in
    let copy = first_copy m (disp +ℤ (entry_at m from).disp) from n (flat child) inner block.is.1.0 in
    let long : n * length (flat child) ≡ next =
    omega (arith, sym (length-run n (flat child)), length_of m from next (entry_at m from).disp (flat (group (part n disp child no_parts))) within stands, length-append (shift disp (run n (flat child))) [], length-shift disp (run n (flat child))) in
    let less_than =
    block.longest one (length (flat child)) n (cost_of w child) long (omega (arith, block.tidy.0))
    (runs_stacked m (disp +ℤ (entry_at m from).disp) n (flat child) from inner block.is.1.0 (places_an_entry child block.is.1.1)) (tree_sits w m copy.0 from (length (flat child)) child block.is.1.1 copy.1 refl) in
    past (cost_of w child) w.group w.part less_than
  where
    past : (c g p : ℕ) → g + (p + c + 0) < c → ⊥
    past c g p lt = omega arith
nested w m from left most next copies (group (part n disp child (part k further_on other rest))) inside less first block one is =
    let parts : Parts = part n disp child (part k further_on other rest) in
    let stands : shift (entry_at m from).disp (flat (group (part n disp child (part k further_on other rest)))) ≡ segment m from next =
    ap (shift (entry_at m from).disp) (sym (run_one (flat (group (part n disp child (part k further_on other rest))))) ∙ ap (λ c. run c (flat (group (part n disp child (part k further_on other rest))))) (sym one)) ∙ block.stands in
    let within : from + next ≤ length m = omega (arith, first.within, less, inside) in
    let long = length_of m from next (entry_at m from).disp (flat (group (part n disp child (part k further_on other rest)))) within stands in
    let short : length (run n (flat child)) ≤ next - 1 =
    omega (arith, long, length-append (shift disp (run n (flat child))) (flat_parts (part k further_on other rest)), length-shift disp (run n (flat child)), parts_place (part k further_on other rest) tt block.is.1.2) in
    let after = first.rest_least.0 in
    let whole : next + (left - next) ≡ left = omega (arith, first.within, less) in
    let all = parts_joined w m from next (left - next) (entry_at m from).disp after.1 (part n disp child (part k further_on other rest)) after.0 stands after.4 in
    let cost : IsPartsCost w m from left (next - 1) (cost_of_parts w (part n disp child (part k further_on other rest)) + first.rest) = (
      add (part n disp child (part k further_on other rest)) (further (after.1 -ℤ (entry_at m from).disp) after.0),
      (entry_at m from).disp,
      trees-add (part n disp child (part k further_on other rest)) (further (after.1 -ℤ (entry_at m from).disp) after.0) block.is.1 (trees-further (after.1 -ℤ (entry_at m from).disp) after.0 after.2),
      short,
      all ∙ ap (segment m from) whole,
      cost-add w (part n disp child (part k further_on other rest)) (further (after.1 -ℤ (entry_at m from).disp) after.0)
          ∙ ap (λ c. cost_of_parts w (part n disp child (part k further_on other rest)) + c) (cost-further w (after.1 -ℤ (entry_at m from).disp) after.0 ∙ after.5),
    ) in
    past w.group (cost_of_parts w (part n disp child (part k further_on other rest))) w.part first.rest
    (first.shortest (w.group + cost_of_parts w (part n disp child (part k further_on other rest))) _ block.least cost)
  where
    past : (g c p r : ℕ) → p + (g + c) + r < c + r → ⊥
    past g c p r lt = omega arith

-- a group as far as it goes, and the least cost of what is left
pub record GroupSoFar (w : Weights) (m : List Entry) (start len from : ℕ) (parts : Parts) : Type 0 where
  pub some : has_part parts
  pub began : start < from
  pub within : from ≤ start + len
  pub is : AreTrees parts
  pub stands : shift (entry_at m start).disp (flat_parts parts) ≡ segment m start (from - start)
  pub tidy : AreTidy parts
  pub first : first_part parts ≡ pos 0
  pub plural : ArePlural parts ⊎ (from < start + len)
  pub rest : ℕ
  pub rest_least : IsLeastOf (IsPartsCost w m from (start + len - from) (start + len - from)) rest
  pub best : ℕ
  pub best_least : IsLeastOf (IsPartsCost w m start len (len - 1)) best
  pub cost : cost_of_parts w parts + rest ≤ best

no_step : (d : ℤ) → d -ℤ d ≡ pos 0
no_step d = omega (arith, ints)

one_part : (w : Weights) (m : List Entry) (from next copies : ℕ) (child : Tree) → IsCheapestBlock w m from next copies child
    → shift (entry_at m from).disp (flat_parts (part copies (pos 0) child no_parts)) ≡ segment m from next
one_part w m from next copies child block = ap (shift (entry_at m from).disp) (one_place (run copies (flat child))) ∙ block.stands

rest_of : (w : Weights) (m : List Entry) (start len first rest : ℕ) → IsLeastOf (IsPartsCost w m (start + first) (len - first) (len - first)) rest
    → IsLeastOf (IsPartsCost w m (start + first) (start + len - (start + first)) (start + len - (start + first))) rest
rest_of w m start len first rest h =
    let same : len - first ≡ start + len - (start + first) = omega arith in
    subst (λ l. IsLeastOf (IsPartsCost w m (start + first) l l) rest) same h

best_of : (w : Weights) (m : List Entry) (start len first copies : ℕ) (child : Tree) → start + len ≤ length m → 2 ≤ len → (is : IsFirstPart w m start len (len - 1) first)
    → IsCheapestBlock w m start first copies child → IsLeastOf (IsPartsCost w m start len (len - 1)) (w.part + cost_of w child + is.rest)
best_of w m start len first copies child inside long is block =
    let whole : first + (len - first) ≡ len = omega (arith, is.within, long) in
    let reached = part_of_block w m start first (len - first) (len - first) (cost_of w child) is.rest (omega (arith, is.within, inside)) block.least.0 is.rest_least.0 in (
      fewer_first w m start len first (len - 1) (w.part + cost_of w child + is.rest) is.within (subst (λ l. IsPartsCost w m start l first (w.part + cost_of w child + is.rest)) whole reached),
      λ n h. is.least (cost_of w child) n block.least h,
    )

pub group_begun : (w : Weights) (m : List Entry) (start len first copies : ℕ) (disp : ℤ) (child : Tree) → start + len ≤ length m → 2 ≤ len → IsFirstPart w m start len (len - 1) first
    → IsCheapestBlock w m start first copies child → disp ≡ step_between m start start → GroupSoFar w m start len (start + first) (part copies disp child no_parts)
group_begun w m start len first copies disp child inside long is block at =
    let still : disp ≡ pos 0 = at ∙ no_step (entry_at m start).disp in
    let some = is.some in
    let within = is.within in
    let back : first ≡ start + first - start = omega arith in
    subst (λ d. GroupSoFar w m start len (start + first) (part copies d child no_parts)) (sym still) (record {
      some = tt;
      began = omega arith;
      within = omega arith;
      is = (block.some, block.is, tt);
      stands = one_part w m start first copies child block ∙ ap (segment m start) back;
      tidy = (nested w m start len (len - 1) first copies child inside (omega arith) is block, block.tidy, tt);
      first = refl;
      plural = inr (omega arith);
      rest = is.rest;
      rest_least = rest_of w m start len first is.rest is.rest_least;
      best = w.part + cost_of w child + is.rest;
      best_least = best_of w m start len first copies child inside long is block;
      cost = omega arith;
    })

pub group_more : (w : Weights) (m : List Entry) (start len from next copies : ℕ) (disp : ℤ) (child : Tree) (parts : Parts) → start + len ≤ length m → from < start + len
    → GroupSoFar w m start len from parts → IsFirstPart w m from (start + len - from) (start + len - from) next → IsCheapestBlock w m from next copies child → disp ≡ step_between m start from
    → GroupSoFar w m start len (from + next) (add parts (part copies disp child no_parts))
group_more w m start len from next copies disp child parts inside left so is block at =
    let some = is.some in
    let within = is.within in
    let began = so.began in
    let place : start + (from - start) ≡ from = omega arith in
    let more : (from - start) + next ≡ from + next - start = omega arith in
    let moved : pos 0 +ℤ ((entry_at m from).disp -ℤ (entry_at m start).disp) ≡ disp = none_first _ ∙ sym at in
    let here : shift (entry_at m from).disp (flat_parts (part copies (pos 0) child no_parts)) ≡ segment m (start + (from - start)) next =
    one_part w m from next copies child block ∙ ap (λ i. segment m i next) (sym place) in
    let joined = parts_joined w m start (from - start) next (entry_at m start).disp (entry_at m from).disp parts (part copies (pos 0) child no_parts) so.stands here in
    let price = is.least (cost_of w child) so.rest block.least so.rest_least.0 in
    let rests : start + len - from - next ≡ start + len - (from + next) = omega arith in
    record {
      some = has-add parts (part copies disp child no_parts) so.some;
      began = omega arith;
      within = omega arith;
      is = trees-add parts (part copies disp child no_parts) so.is (block.some, block.is, tt);
      stands = ap (λ d. shift (entry_at m start).disp (flat_parts (add parts (part copies d child no_parts)))) (sym moved) ∙ (joined ∙ ap (segment m start) more);
      tidy = tidy-add parts (part copies disp child no_parts) so.tidy
          (nested w m from (start + len - from) (start + len - from) next copies child (omega arith) (omega arith) is block, block.tidy, tt);
      first = first-add parts (part copies disp child no_parts) so.some ∙ so.first;
      plural = inl (plural-add parts copies disp child no_parts so.some);
      rest = is.rest;
      rest_least = subst (λ l. IsLeastOf (IsPartsCost w m (from + next) l l) is.rest) rests is.rest_least;
      best = so.best;
      best_least = so.best_least;
      cost = omega (arith, cost-add w parts (part copies disp child no_parts), price, so.cost);
    }
  where
    none_first : (d : ℤ) → pos 0 +ℤ d ≡ d
    none_first d = omega (arith, ints)

pub group_done : (w : Weights) (m : List Entry) (start len from : ℕ) (parts : Parts) → start + len ≤ from → GroupSoFar w m start len from parts → IsForm w m start len GroupForm
    → IsCheapest w m start len (group parts)
group_done w m start len from parts end so form =
    let within = so.within in
    let whole : from - start ≡ len = omega arith in
    let stands = so.stands ∙ ap (segment m start) whole in
    record {
      denotes = ((so.some, so.is), stands);
      tidy = (
        elim so.plural [
          | inl plural ↦ plural
          | inr less ↦ absurd (omega arith)
        ],
        so.first,
        so.tidy,
      );
      least = (
        (group parts, (entry_at m start).disp, ((so.some, so.is), stands), refl),
        λ n h. omega (arith, so.cost, (form.1 so.best so.best_least).1 n h),
      );
    }

pub trees-push : (parts : List (PartOf Node)) (p : PartOf Node) → trees_of (parts ++ p ∷ []) ≡ add (trees_of parts) (part p.block p.disp (tree_of p.node) no_parts)
trees-push [] p = refl
trees-push (q ∷ parts) p = ap (part q.block q.disp (tree_of q.node)) (trees-push parts p)

-- the first part, and one more
pub first_pushed : (w : Weights) (m entries : List Entry) (start len first copies : ℕ) (node : Node) (p : PartOf Node) (none now : List (PartOf Node)) → start + len ≤ length m → 2 ≤ len
    → IsFirstPart w m start len (len - 1) first → IsCheapestBlock w m start first copies (tree_of node) → entries ≡ m → p.block ≡ copies → p.disp ≡ step_between entries start start → p.node ≡ node
    → none ≡ [] → now ≡ none ++ p ∷ [] → GroupSoFar w m start len (start + first) (trees_of now)
first_pushed w m entries start len first copies node p none now inside long is block same at_block at_disp at_node empty one =
    let whole : now ≡ p ∷ [] = one ∙ ap (λ l. l ++ p ∷ []) empty in
    let cheapest = subst (λ b. IsCheapestBlock w m start first b (tree_of p.node)) (sym at_block) (subst (λ n. IsCheapestBlock w m start first copies (tree_of n)) (sym at_node) block) in
    subst (λ l. GroupSoFar w m start len (start + first) (trees_of l)) (sym whole)
    (group_begun w m start len first p.block p.disp (tree_of p.node) inside long is cheapest (at_disp ∙ ap (λ (l : List Entry). step_between l start start) same))

pub next_pushed : (w : Weights) (m entries : List Entry) (start len from next copies : ℕ) (node : Node) (p : PartOf Node) (parts now : List (PartOf Node)) → start + len ≤ length m → from < start + len
    → GroupSoFar w m start len from (trees_of parts) → IsFirstPart w m from (start + len - from) (start + len - from) next → IsCheapestBlock w m from next copies (tree_of node) → entries ≡ m
    → p.block ≡ copies → p.disp ≡ step_between entries start from → p.node ≡ node → now ≡ parts ++ p ∷ [] → GroupSoFar w m start len (from + next) (trees_of now)
next_pushed w m entries start len from next copies node p parts now inside left so is block same at_block at_disp at_node one =
    let cheapest = subst (λ b. IsCheapestBlock w m from next b (tree_of p.node)) (sym at_block) (subst (λ n. IsCheapestBlock w m from next copies (tree_of n)) (sym at_node) block) in
    subst (GroupSoFar w m start len (from + next)) (sym (ap trees_of one ∙ trees-push parts p))
    (group_more w m start len from next p.block p.disp (tree_of p.node) (trees_of parts) inside left so is cheapest (at_disp ∙ ap (λ (l : List Entry). step_between l start from) same))
