-- no constructor that a tree asks for has a bad argument
use Rattle.std.proofs.Common.{◌≡◌, ap, ◌∙◌, inl, inr, IsTrue, Bool, true, ◌&&◌, ℕ, ℤ, pos, Option, None, Some, List, [], ◌∷◌, ◌++◌, refl, subst, Result, IsErrOf}
use Rattle.std.proofs.Math.Dec.{leb-zero}
use Rattle.std.specs.List.{AllByRecursion, list_all}
use Rattle.dt_form.specs.Arguments.{is_count, takes_arguments}
use Rattle.dt_form.specs.declared.form.FormOf.{FormOf}
use Rattle.dt_offsets.specs.declared.marks.Marks.{Marks}
use Rattle.dt_type.specs.declared.datatype.Seen.{Seen}
use Rattle.dt_type.specs.declared.fault.CtorFault.{CtorFault}
use Rattle.dt_type.specs.declared.fault.CtorFault.TheVariants.{BadArgument}
use Rattle.dt_tree.specs.Tree.{Tree, leaf, vector, index, group, Parts, no_parts, part}
use Rattle.dt_rebuild.specs.Answer.{IsFirstCause, IsRefusalIn, IsAnswerOf}
use Rattle.dt_rebuild.specs.Built.{form_of_tree, typed, forms_in, forms_among, forms_within, forms_around, form_at, all_forms}

abbrev pub Takes : FormOf Seen → Type 0
Takes form = IsTrue (takes_arguments form)

takes_both : (forms more : List (FormOf Seen)) → AllByRecursion Takes forms → AllByRecursion Takes more → AllByRecursion Takes (forms ++ more)
takes_both [] more all rest = rest
takes_both (form ∷ forms) more all rest = (all.0, takes_both forms more all.1 rest)

count_is : (n : ℕ) → is_count (pos n) ≡ true
count_is n = leb-zero n

both : (a b : Bool) → a ≡ true → b ≡ true → (a && b) ≡ true
both a b p q = ap (λ x. x && b) p ∙ q

counts_are : (n m : ℕ) → (is_count (pos n) && is_count (pos m)) ≡ true
counts_are n m = both (is_count (pos n)) (is_count (pos m)) (count_is n) (count_is m)

parts_count : (parts : Parts) → list_all (λ p. is_count p.len) (typed parts) ≡ true
parts_count no_parts = refl
parts_count (part block disp child rest) = both (is_count (pos block)) (list_all (λ p. is_count p.len) (typed rest)) (count_is block) (parts_count rest)

pub takes_node : (tree : Tree) → Takes (form_of_tree tree)
takes_node (leaf kind) = refl
takes_node (vector count block stride child) = counts_are count block
takes_node (index block places child) = count_is block
takes_node (group parts) = parts_count parts

mutual
  takes_in : (tree : Tree) → AllByRecursion Takes (forms_in tree)
  takes_in (leaf kind) = tt
  takes_in (vector count block stride child) = takes_both (forms_in child) (form_of_tree (vector count block stride child) ∷ []) (takes_in child) (counts_are count block, tt)
  takes_in (index block places child) = takes_both (forms_in child) (form_of_tree (index block places child) ∷ []) (takes_in child) (count_is block, tt)
  takes_in (group parts) = takes_both (forms_among parts) (form_of_tree (group parts) ∷ []) (takes_among parts) (parts_count parts, tt)

  takes_among : (parts : Parts) → AllByRecursion Takes (forms_among parts)
  takes_among no_parts = tt
  takes_among (part block disp child rest) = takes_both (forms_in child) (forms_among rest) (takes_in child) (takes_among rest)

takes_within : (tree : Option Tree) → AllByRecursion Takes (forms_within tree)
takes_within None = tt
takes_within (Some tree) = takes_in tree

pub takes_at : (base : ℤ) (tree : Option Tree) → Takes (form_at base tree)
takes_at base None = refl
takes_at base (Some tree) = refl

takes_around : (marks : Option Marks) (form : FormOf Seen) → AllByRecursion Takes (forms_around marks form)
takes_around None form = tt
takes_around (Some marks) form = (refl, tt)

pub takes_all : (base : ℤ) (tree : Option Tree) (marks : Option Marks) → AllByRecursion Takes (all_forms base tree marks)
takes_all base tree marks =
    takes_both (forms_within tree) (form_at base tree ∷ forms_around marks (form_at base tree)) (takes_within tree) (takes_at base tree, takes_around marks (form_at base tree))

no_first : (forms : List (FormOf Seen)) → AllByRecursion Takes forms → IsFirstCause forms BadArgument → ⊥
no_first [] all h = h
no_first (form ∷ forms) all (inl bad) = bad all.0
no_first (form ∷ forms) all (inr h) = no_first forms all.1 h.1

no_fault : (forms : List (FormOf Seen)) → AllByRecursion Takes forms → IsRefusalIn forms BadArgument → ⊥
no_fault forms all (inl same) = cc same
no_fault forms all (inr h) = no_first forms all h

pub never_bad : (base : ℤ) (tree : Option Tree) (marks : Option Marks) (end : Seen) (answer : Result Seen CtorFault) → IsAnswerOf (all_forms base tree marks) end answer → ¬ IsErrOf answer BadArgument
never_bad base tree marks end answer h bad =
    no_fault (all_forms base tree marks) (takes_all base tree marks) (subst (IsAnswerOf (all_forms base tree marks) end) bad h)
