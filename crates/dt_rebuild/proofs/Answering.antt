-- answers of constructors that are called one after another
use Rattle.std.proofs.Common.{◌≡◌, inl, inr, true, ℕ, ◌+◌, ◌≤◌, ◌<◌, ℤ, pos, List, [], ◌∷◌, ◌++◌, drop, length, get_or, sym, ap, ◌∙◌, subst, arith, append_assoc, append-nil, Result, Ok, Err}
use Rattle.std.proofs.lemmas.Int.{ints}
use mir.Syntax.{w32}
use mir.Val.{to_z, of_z}
use Rattle.std.specs.List.{AllByRecursion}
use Rattle.dt_form.specs.declared.form.FormOf.{FormOf}
use Rattle.dt_form.specs.declared.form.FormOf.TheVariants.{Hvector, HindexedBlock, Struct}
use Rattle.dt_form.specs.declared.form.PartOf.{PartOf}
use Rattle.dt_type.specs.declared.datatype.Seen.{Seen}
use Rattle.dt_type.specs.declared.fault.CtorFault.{CtorFault}
use Rattle.dt_type.specs.Answer.{IsAnswer, IsMade}
use Rattle.dt_type.specs.Form.{result_of}
use Rattle.dt_tree.specs.declared.node.Node.{Node}
use Rattle.dt_tree.specs.declared.node.Node.TheVariants.{Vector, Index, Group}
use Rattle.dt_tree.specs.declared.node.PartOf.{PartOf as TreePartOf}
use Rattle.dt_tree.specs.Node.{tree_of, trees_of}
use Rattle.dt_tree.specs.Tree.{vector, index, group, part}
use Rattle.dt_tree.specs.Rule.{parts_fit, depth_of_parts}
use Rattle.dt_tree.proofs.Limits.{PartFits, part_fits, of_vector_fits, of_index_fits, of_group_fits}
use Rattle.dt_tree.proofs.Nodes.{of_leaf, of_vector, of_index, of_group, rest_more, rest_none, count_of}
use Rattle.dt_rebuild.specs.Answer.{IsTaken, IsFirstCause, IsRefusalIn, IsMadeBy, IsAnswerOf}
use Rattle.dt_rebuild.specs.Built.{form_of_tree, type_of_tree, typed, forms_in, forms_among}

-- a refusal among the first constructors
first_front : (forms more : List (FormOf Seen)) (fault : CtorFault) → IsFirstCause forms fault → IsFirstCause (forms ++ more) fault
first_front [] more fault h = absurd h
first_front (form ∷ forms) more fault (inl h) = inl h
first_front (form ∷ forms) more fault (inr h) = inr (h.0, first_front forms more fault h.1)

pub refused_front : (forms more : List (FormOf Seen)) (fault : CtorFault) → IsRefusalIn forms fault → IsRefusalIn (forms ++ more) fault
refused_front forms more fault (inl h) = inl h
refused_front forms more fault (inr h) = inr (first_front forms more fault h)

-- or after them, where they are taken
first_back : (forms more : List (FormOf Seen)) (fault : CtorFault) → AllByRecursion IsTaken forms → IsFirstCause more fault → IsFirstCause (forms ++ more) fault
first_back [] more fault all h = h
first_back (form ∷ forms) more fault all h = inr (all.0, first_back forms more fault all.1 h)

pub refused_back : (forms more : List (FormOf Seen)) (fault : CtorFault) → AllByRecursion IsTaken forms → IsRefusalIn more fault → IsRefusalIn (forms ++ more) fault
refused_back forms more fault all (inl h) = inl h
refused_back forms more fault all (inr h) = inr (first_back forms more fault all h)

pub taken_both : (forms more : List (FormOf Seen)) → AllByRecursion IsTaken forms → AllByRecursion IsTaken more → AllByRecursion IsTaken (forms ++ more)
taken_both [] more all rest = rest
taken_both (form ∷ forms) more all rest = (all.0, taken_both forms more all.1 rest)

-- one constructor more
taken : (form : FormOf Seen) (t : Seen) → IsMade form t → IsTaken form
taken form t made = record {
  arguments = made.arguments;
  allowed = record { in_range = made.in_range; shallow = made.shallow; light = made.light };
}

pub one_more : (forms : List (FormOf Seen)) (form : FormOf Seen) (answer : Result Seen CtorFault) → AllByRecursion IsTaken forms → IsAnswer form answer →
    IsAnswerOf (forms ++ form ∷ []) (result_of form) answer
one_more forms form (Ok t) all made = record { value = made.value; taken = taken_both forms (form ∷ []) all (taken form t made, tt) }
one_more forms form (Err fault) all cause = refused_back forms (form ∷ []) fault all (inr (inl cause))

-- a count or a block length, read back from its bits
pub count_back : (x : ℤ) (n : ℕ) → x ≡ pos n → n ≤ 1024 → to_z w32 (of_z w32 x) ≡ pos n
count_back x n is small = ap (λ z. to_z w32 (of_z w32 z)) is ∙ back n small
  where
    back : (n : ℕ) → n ≤ 1024 → to_z w32 (of_z w32 (pos n)) ≡ pos n
    back n small = omega (arith, ints)

-- each node after its children. A vector:
module _ (node : Node) (count block : ℕ) (stride : ℤ) (child : Node) (is : node ≡ Vector count block stride child) where
  vector_is : tree_of node ≡ vector count block stride (tree_of child)
  vector_is = ap tree_of is ∙ of_vector count block stride child

  pub vector_refused : (fault : CtorFault) (answer : Result Seen CtorFault) → IsRefusalIn (forms_in (tree_of child)) fault → answer ≡ Err fault →
      IsAnswerOf (forms_in (tree_of node)) (type_of_tree (tree_of node)) answer
  vector_refused fault answer h e =
      subst (λ t. IsAnswerOf (forms_in t) (type_of_tree t) answer) (sym vector_is)
      (subst (IsAnswerOf (forms_in (vector count block stride (tree_of child))) (type_of_tree (vector count block stride (tree_of child)))) (sym e)
      (refused_front (forms_in (tree_of child)) _ fault h))

  pub vector_made : (c b s : ℤ) (old : Seen) (answer : Result Seen CtorFault) → IsMadeBy (forms_in (tree_of child)) (type_of_tree (tree_of child)) old →
      c ≡ pos count → b ≡ pos block → s ≡ stride → IsAnswer (Hvector c b s old) answer → IsAnswerOf (forms_in (tree_of node)) (type_of_tree (tree_of node)) answer
  vector_made c b s old answer made counts blocks strides h =
      let same : Hvector c b s old ≡ form_of_tree (vector count block stride (tree_of child)) =
      ap (λ x. Hvector x b s old) counts ∙ (ap (λ x. Hvector (pos count) x s old) blocks ∙ (ap (λ x. Hvector (pos count) (pos block) x old) strides ∙ ap (Hvector (pos count) (pos block) stride) made.value)) in
      subst (λ t. IsAnswerOf (forms_in t) (type_of_tree t) answer) (sym vector_is)
      (one_more (forms_in (tree_of child)) (form_of_tree (vector count block stride (tree_of child))) answer made.taken (subst (λ f. IsAnswer f answer) same h))

-- an index
module _ (node : Node) (block : ℕ) (places : List ℤ) (child : Node) (is : node ≡ Index block places child) where
  index_is : tree_of node ≡ index block places (tree_of child)
  index_is = ap tree_of is ∙ of_index block places child

  pub index_refused : (fault : CtorFault) (answer : Result Seen CtorFault) → IsRefusalIn (forms_in (tree_of child)) fault → answer ≡ Err fault →
      IsAnswerOf (forms_in (tree_of node)) (type_of_tree (tree_of node)) answer
  index_refused fault answer h e =
      subst (λ t. IsAnswerOf (forms_in t) (type_of_tree t) answer) (sym index_is)
      (subst (IsAnswerOf (forms_in (index block places (tree_of child))) (type_of_tree (index block places (tree_of child)))) (sym e)
      (refused_front (forms_in (tree_of child)) _ fault h))

  pub index_made : (b : ℤ) (disps : List ℤ) (old : Seen) (answer : Result Seen CtorFault) → IsMadeBy (forms_in (tree_of child)) (type_of_tree (tree_of child)) old →
      b ≡ pos block → disps ≡ places → IsAnswer (HindexedBlock b disps old) answer → IsAnswerOf (forms_in (tree_of node)) (type_of_tree (tree_of node)) answer
  index_made b disps old answer made blocks same_places h =
      let same : HindexedBlock b disps old ≡ form_of_tree (index block places (tree_of child)) =
      ap (λ x. HindexedBlock x disps old) blocks ∙ (ap (λ x. HindexedBlock (pos block) x old) same_places ∙ ap (HindexedBlock (pos block) places) made.value) in
      subst (λ t. IsAnswerOf (forms_in t) (type_of_tree t) answer) (sym index_is)
      (one_more (forms_in (tree_of child)) (form_of_tree (index block places (tree_of child))) answer made.taken (subst (λ f. IsAnswer f answer) same h))

-- a group, once its parts' types are made
module _ (node : Node) (parts : List (TreePartOf Node)) (is : node ≡ Group parts) where
  group_is : tree_of node ≡ group (trees_of parts)
  group_is = ap tree_of is ∙ of_group parts

  pub group_refused : (fault : CtorFault) (answer : Result Seen CtorFault) → IsRefusalIn (forms_among (trees_of parts)) fault → answer ≡ Err fault →
      IsAnswerOf (forms_in (tree_of node)) (type_of_tree (tree_of node)) answer
  group_refused fault answer h e =
      subst (λ t. IsAnswerOf (forms_in t) (type_of_tree t) answer) (sym group_is)
      (subst (IsAnswerOf (forms_in (group (trees_of parts))) (type_of_tree (group (trees_of parts)))) (sym e)
      (refused_front (forms_among (trees_of parts)) _ fault h))

  pub group_made : (list : List (PartOf Seen)) (answer : Result Seen CtorFault) → list ≡ typed (trees_of parts) → AllByRecursion IsTaken (forms_among (trees_of parts)) →
      IsAnswer (Struct list) answer → IsAnswerOf (forms_in (tree_of node)) (type_of_tree (tree_of node)) answer
  group_made list answer same all h =
      subst (λ t. IsAnswerOf (forms_in t) (type_of_tree t) answer) (sym group_is)
      (one_more (forms_among (trees_of parts)) (form_of_tree (group (trees_of parts))) answer all (subst (λ f. IsAnswer f answer) (ap Struct same) h))

-- the step of the loop over parts
part_step : (parts : List (TreePartOf Node)) (i : ℕ) (p : TreePartOf Node) → i < length parts → p ≡ get_or parts i p →
    trees_of (drop i parts) ≡ part p.block p.disp (tree_of p.node) (trees_of (drop (i + 1) parts))
part_step parts i p lt is = rest_more parts i p lt is

abbrev typed_part : ℤ → ℤ → Seen → PartOf Seen
typed_part len disp old = record { len = len; disp = disp; old = old }

pub list_more : (parts : List (TreePartOf Node)) (i : ℕ) (p : TreePartOf Node) (list more : List (PartOf Seen)) (len : ℤ) (old : Seen) (whole : List (PartOf Seen)) → i < length parts → p ≡ get_or parts i p →
    list ++ typed (trees_of (drop i parts)) ≡ whole → len ≡ pos p.block → old ≡ type_of_tree (tree_of p.node) → more ≡ list ++ typed_part len p.disp old ∷ [] →
    more ++ typed (trees_of (drop (i + 1) parts)) ≡ whole
list_more parts i p list more len old whole lt is h lens olds next =
    let same : typed_part len p.disp old ≡ typed_part (pos p.block) p.disp (type_of_tree (tree_of p.node)) =
    ap (λ x. typed_part x p.disp old) lens ∙ ap (typed_part (pos p.block) p.disp) olds in
    ap (λ l. l ++ typed (trees_of (drop (i + 1) parts))) next
    ∙ (append_assoc list (typed_part len p.disp old ∷ []) (typed (trees_of (drop (i + 1) parts)))
    ∙ (ap (λ q. list ++ q ∷ typed (trees_of (drop (i + 1) parts))) same ∙ (sym (ap (λ t. list ++ typed t) (part_step parts i p lt is)) ∙ h)))

pub taken_more : (parts : List (TreePartOf Node)) (i : ℕ) (p : TreePartOf Node) (old : Seen) (Whole : Type 0) → i < length parts → p ≡ get_or parts i p →
    (AllByRecursion IsTaken (forms_among (trees_of (drop i parts))) → Whole) → IsMadeBy (forms_in (tree_of p.node)) (type_of_tree (tree_of p.node)) old →
    AllByRecursion IsTaken (forms_among (trees_of (drop (i + 1) parts))) → Whole
taken_more parts i p old Whole lt is h made rest =
    h (subst (λ t. AllByRecursion IsTaken (forms_among t)) (sym (part_step parts i p lt is))
    (taken_both (forms_in (tree_of p.node)) (forms_among (trees_of (drop (i + 1) parts))) made.taken rest))

pub refused_here : (parts : List (TreePartOf Node)) (i : ℕ) (p : TreePartOf Node) (fault : CtorFault) → i < length parts → p ≡ get_or parts i p →
    IsRefusalIn (forms_in (tree_of p.node)) fault → IsRefusalIn (forms_among (trees_of (drop i parts))) fault
refused_here parts i p fault lt is h =
    subst (λ t. IsRefusalIn (forms_among t) fault) (sym (part_step parts i p lt is)) (refused_front (forms_in (tree_of p.node)) (forms_among (trees_of (drop (i + 1) parts))) fault h)

pub refused_more : (parts : List (TreePartOf Node)) (i : ℕ) (p : TreePartOf Node) (old : Seen) (fault : CtorFault) → i < length parts → p ≡ get_or parts i p →
    IsMadeBy (forms_in (tree_of p.node)) (type_of_tree (tree_of p.node)) old → IsRefusalIn (forms_among (trees_of (drop (i + 1) parts))) fault →
    IsRefusalIn (forms_among (trees_of (drop i parts))) fault
refused_more parts i p old fault lt is made h =
    subst (λ t. IsRefusalIn (forms_among t) fault) (sym (part_step parts i p lt is)) (refused_back (forms_in (tree_of p.node)) (forms_among (trees_of (drop (i + 1) parts))) fault made.taken h)

pub fits_more : (parts : List (TreePartOf Node)) (i : ℕ) (p : TreePartOf Node) → i < length parts → p ≡ get_or parts i p → parts_fit (trees_of (drop i parts)) ≡ true →
    PartFits p.block p.disp (tree_of p.node) (trees_of (drop (i + 1) parts))
fits_more parts i p lt is fit = part_fits p.block p.disp (tree_of p.node) (trees_of (drop (i + 1) parts)) (sym (ap parts_fit (part_step parts i p lt is)) ∙ fit)

pub shallow_more : (parts : List (TreePartOf Node)) (i : ℕ) (p : TreePartOf Node) (limit : ℕ) → i < length parts → p ≡ get_or parts i p →
    depth_of_parts (trees_of (drop i parts)) < limit → depth_of_parts (trees_of (drop (i + 1) parts)) < limit
shallow_more parts i p limit lt is h = let same = ap depth_of_parts (part_step parts i p lt is) in omega arith

-- when all are made
pub list_done : (parts : List (TreePartOf Node)) (i : ℕ) (list whole : List (PartOf Seen)) → length parts ≤ i → list ++ typed (trees_of (drop i parts)) ≡ whole → list ≡ whole
list_done parts i list whole end h = sym (append-nil list) ∙ (sym (ap (λ t. list ++ typed t) (rest_none parts i end)) ∙ h)

pub nothing_after : (parts : List (TreePartOf Node)) (i : ℕ) → length parts ≤ i → AllByRecursion IsTaken (forms_among (trees_of (drop i parts)))
nothing_after parts i end = subst (λ t. AllByRecursion IsTaken (forms_among t)) (sym (rest_none parts i end)) tt

pub ruleset nodes = (vector_refused, vector_made, index_refused, index_made, group_refused, group_made, of_vector_fits, of_index_fits, of_group_fits, of_leaf, of_vector, of_index, of_group, rest_more, rest_none, count_of)

-- marks round what is made
pub one_around : (forms : List (FormOf Seen)) (form around : FormOf Seen) (t : Seen) (answer : Result Seen CtorFault) → IsMadeBy (forms ++ form ∷ []) (result_of form) t → IsAnswer around answer →
    IsAnswerOf (forms ++ form ∷ around ∷ []) (result_of around) answer
one_around forms form around t answer made h =
    subst (λ fs. IsAnswerOf fs (result_of around) answer) (append_assoc forms (form ∷ []) (around ∷ [])) (one_more (forms ++ form ∷ []) around answer made.taken h)

pub refused_inside : (forms : List (FormOf Seen)) (form around : FormOf Seen) (fault : CtorFault) → IsRefusalIn (forms ++ form ∷ []) fault → IsRefusalIn (forms ++ form ∷ around ∷ []) fault
refused_inside forms form around fault h = subst (λ fs. IsRefusalIn fs fault) (append_assoc forms (form ∷ []) (around ∷ [])) (refused_front (forms ++ form ∷ []) (around ∷ []) fault h)
