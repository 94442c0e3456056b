-- No constructor refuses that rebuilds a type, and what it makes places what the type does.
use Rattle.std.proofs.Common.{◌≡◌, ◌≤◌, ◌^◌, ℤ, pos, ◌-ℤ◌, ◌≤ℤ◌, ◌<ℤ◌, List, [], ◌∷◌, length, Option, Some, None, inl, inr, refl, sym, ap, subst, ◌∙◌, arith, Bor}
use Rattle.std.proofs.lemmas.Int.{ints, by_lt_z}
use Rattle.std.specs.List.{AllByRecursion}
use Rattle.std.specs.Option.{option_copied, option_map}
use Rattle.dt_form.specs.declared.form.FormOf.{FormOf}
use Rattle.dt_form.specs.declared.form.FormOf.TheVariants.{Named}
use Rattle.dt_kinds.specs.declared.kind.Kind.TheVariants.{Byte}
use Rattle.dt_map.specs.declared.entry.Entry.{Entry}
use Rattle.dt_map.specs.Bounds.{true_lb, true_ub, natural_ub}
use Rattle.dt_map.specs.Limits.{IsInRange, MarksFit}
use Rattle.dt_map.specs.Typemap.{Marked}
use Rattle.dt_offsets.specs.declared.marks.Marks.{Marks}
use Rattle.dt_rebuild.specs.Answer.{IsTaken, IsFirstCause, IsRefusalIn}
use Rattle.dt_rebuild.specs.Built.{form_at, built, all_forms}
use Rattle.dt_rebuild.proofs.Built.{marked_places, built_has_entries}
use Rattle.dt_rebuild.proofs.Measures.{one_deeper, one_heavier}
use Rattle.dt_rebuild.proofs.Taking.{tidy_is_taken}
use Rattle.dt_tree.specs.declared.node.Node.{Node}
use Rattle.dt_tree.specs.declared.tree.Tree.{Tree as Program}
use Rattle.dt_tree.specs.Node.{tree_of}
use Rattle.dt_tree.specs.Tree.{Tree}
use Rattle.dt_tree.specs.Weights.{Weights}
use Rattle.dt_type.specs.Answer.{IsCause}
use Rattle.dt_type.specs.Datatype.{typemap_of, entries_of, marks_of}
use Rattle.dt_type.specs.declared.datatype.Seen.{Seen}
use Rattle.dt_type.specs.declared.fault.CtorFault.{CtorFault}
use Rattle.dt_type.specs.declared.fault.CtorFault.TheVariants.{BadArgument, Overflow, TooDeep, TooHeavy, NoMemory}
use Rattle.dt_machine.specs.Choice.{MayBeTold, AreTooWide}

-- a constructor that no refusal keeps from its datatype fails for memory alone
cause_is_memory : (form : FormOf Seen) (fault : CtorFault) → IsTaken form → IsCause form fault → fault ≡ NoMemory
cause_is_memory form BadArgument taken c = absurd (c taken.arguments)
cause_is_memory form Overflow taken c = absurd (c.1 taken.allowed.in_range)
cause_is_memory form TooDeep taken c = let low = taken.allowed.shallow in let high = c.2 in absurd (omega (arith, low, high))
cause_is_memory form TooHeavy taken c = let low = taken.allowed.light in let high = c.3 in absurd (omega (arith, low, high))
cause_is_memory form NoMemory taken c = refl

first_is_memory : (forms : List (FormOf Seen)) (fault : CtorFault) → AllByRecursion IsTaken forms → IsFirstCause forms fault → fault ≡ NoMemory
first_is_memory [] fault all c = absurd c
first_is_memory (form ∷ forms) fault all (inl c) = cause_is_memory form fault all.0 c
first_is_memory (form ∷ forms) fault all (inr more) = first_is_memory forms fault all.1 more.1

pub only_memory : (forms : List (FormOf Seen)) (fault : CtorFault) → AllByRecursion IsTaken forms → IsRefusalIn forms fault → fault ≡ NoMemory
only_memory forms fault all (inl is) = is
only_memory forms fault all (inr c) = first_is_memory forms fault all c

-- the tree that is lent, where there is one
pub lent_by : (lent : Option (Bor Program)) (tree : Option Node) → option_copied lent ≡ tree → option_map (λ t. tree_of t.now) lent ≡ option_map tree_of tree
lent_by None tree is = ap (option_map tree_of) is
lent_by (Some t) tree is = ap (option_map tree_of) is

abbrev marked : List Entry → Option Marks → Marked
marked es marks = record { entries = es; marks = marks }

-- no copies of a byte
nothing_in_range : IsInRange (marked [] None)
nothing_in_range = record {
  lb = (omega (arith, ints), omega (arith, ints));
  ub = (omega (arith, ints), omega (arith, ints));
  true_lb = (omega (arith, ints), omega (arith, ints));
  true_ub = (omega (arith, ints), omega (arith, ints));
  size = omega arith;
}

nothing_taken : (base : ℤ) → IsTaken (form_at base None)
nothing_taken base =
    let deeper = one_deeper (Named Byte) in
    let heavier = one_heavier (Named Byte) in
    record {
      arguments = refl;
      allowed = record { in_range = nothing_in_range; shallow = omega (arith, deeper); light = omega (arith, heavier) };
    }

empty_taken : (base : ℤ) (marks : Option Marks) → IsInRange (marked [] marks) → AllByRecursion IsTaken (all_forms base None marks)
empty_taken base None fits = (nothing_taken base, tt)
empty_taken base (Some marks) fits =
    let deep = one_deeper (Named Byte) in
    let deeper = one_deeper (form_at base None) in
    let heavy = one_heavier (Named Byte) in
    let heavier = one_heavier (form_at base None) in (
      nothing_taken base,
      (
        record {
          arguments = refl;
          allowed = record {
            in_range = subst IsInRange (sym (marked_places marks (form_at base None) [] refl)) fits;
            shallow = omega (arith, deep, deeper);
            light = omega (arith, heavy, heavier);
          };
        },
        tt,
      ),
    )

not_above : (a b : ℤ) → (¬ (b <ℤ a)) → a ≤ℤ b
not_above a b not = by_lt_z b a (λ lt. absurd (not lt)) (λ le. le)

-- where the entries aren't too wide, and no more than 1,024
pub rebuilt_taken : (w : Weights) (es : List Entry) (base : ℤ) (tree : Option Tree) (marks : Option Marks) → MayBeTold w es base tree
    → IsInRange (marked es marks) → length es ≤ 1024 → (¬ AreTooWide es) → AllByRecursion IsTaken (all_forms base tree marks)
rebuilt_taken w es base None marks told fits few narrow = empty_taken base marks (subst (λ es. IsInRange (marked es marks)) told.0 fits)
rebuilt_taken w es base (Some tree) marks told fits few narrow =
    tidy_is_taken base tree marks es told.2.0 told.1 fits (record {
      few = few;
      span = not_above (true_ub es -ℤ true_lb es) (pos (2 ^ 59)) (λ wide. narrow (inl wide));
      natural = not_above (natural_ub es) (pos (2 ^ 60)) (λ high. narrow (inr high));
    })

-- marks of bounds in range are in range
pub marks_in_range : (es : List Entry) (marks : Option Marks) → IsInRange (marked es marks) → MarksFit marks
marks_in_range es None fits = tt
marks_in_range es (Some marks) fits = (fits.lb, fits.ub)

-- the entries and the marks of the type
pub rebuilt_places : (w : Weights) (t : Seen) (base : ℤ) (tree : Option Tree) → MayBeTold w (entries_of t) base tree
    → typemap_of (built base tree (marks_of t)) ≡ typemap_of t
rebuilt_places w t base None told = built_has_entries base None (marks_of t) ∙ ap (λ es. marked es (marks_of t)) (sym told.0)
rebuilt_places w t base (Some tree) told = built_has_entries base (Some tree) (marks_of t) ∙ ap (λ es. marked es (marks_of t)) told.2.0.1
