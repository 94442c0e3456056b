-- Refusals of commands on names of types: the first condition that holds.
use Rattle.std.proofs.Common.{◌≡◌, Bool, ℕ, ◌<◌, ℤ, true, false, List, [], ◌∷◌, Option, Some, None, IsTrue, inl, inr, refl, sym, ap, ◌∙◌}
use Rattle.std.proofs.lemmas.Bool.{cases_lt, false_from_ne_true, or_parts}
use Rattle.std.specs.Option.{is_none, is_some}
use Rattle.dt_kinds.specs.Name.{kind_of, is_left_out}
use Rattle.dt_reply.specs.declared.refusal.Refusal.{Refusal}
use Rattle.dt_reply.specs.declared.refusal.Refusal.TheVariants as refusal
use Rattle.dt_reply.specs.declared.reply.Reply.TheVariants.{Done}
use Rattle.dt_script.specs.declared.command.Command.TheVariants.{Child, Commit, Free}
use Rattle.dt_script.specs.Name.{begins_with_mpi}
use Rattle.dt_type.specs.declared.datatype.Seen.{Seen}
use Rattle.dt_type.specs.Basic.{is_basic}
use Rattle.dt_form.specs.Form.{olds_of}
use Rattle.dt_form.specs.Contents.{old_at}
use Rattle.dt_type.specs.Datatype.{form_of}
use Rattle.dt_machine.specs.declared.outcome.Change.TheVariants as change
use Rattle.dt_names.specs.declared.stop.Stop.{Stop}
use Rattle.dt_names.specs.declared.stop.Stop.TheVariants.{Refused, NoMemory}
use Rattle.dt_names.specs.declared.kept.Kept.{Kept}
use Rattle.dt_machine.specs.Outcome.{CanChange, IsStop, changed}
use Rattle.dt_machine.specs.Refusal.{new_type_row, conditions, IsRefusedBy, IsAllowed, LacksChild, NoMoreTypes}
use Rattle.dt_machine.specs.Row.{◌when◌, IsFirst, IsClear}
use Rattle.dt_machine.specs.State.{State, type_of, is_unknown, is_basic_word, is_type_taken, with_count}
use Rattle.dt_machine.specs.Step.{Performs}
use Rattle.dt_machine.proofs.Rows.{refused, allowed, behind_three, first_front, contrary, some_and, and_some}
use Rattle.dt_machine.proofs.Operations.{basic_by}
use Rattle.dt_machine.proofs.TypeWords.{missing, is_known, is_supported}
use Rattle.dt_names.proofs.WordLemmas.{only_memory, stands, reserved_is_basic, unknown_kind, plain_under}
use Rattle.dt_names.specs.Missing.{IsMissing}
use Rattle.dt_names.specs.Names.{under}

-- what stands where something does
here_of : (found : Option Kept) → is_none found ≡ false → (kept : Kept) × (found ≡ Some kept)
here_of None h = cc
here_of (Some kept) h = (kept, refl)

pub here : (s : State) (word : List ℕ) → is_none (type_of s word) ≡ false → (kept : Kept) × (type_of s word ≡ Some kept)
here s word h = here_of (type_of s word) h

-- a name that isn't taken stands for nothing
none_of : (found : Option Kept) → is_some found ≡ false → found ≡ None
none_of None h = refl
none_of (Some kept) h = cc

pub free_under : (s : State) (name : List ℕ) → is_type_taken s name ≡ false → under name s.types ≡ None
free_under s name free = none_of (under name s.types) (or_parts (begins_with_mpi name) (is_some (under name s.types)) free).1

-- where more types may be made
pub can_make : (s : State) → (¬ NoMoreTypes s) → s.made < 18446744073709551615
can_make s more =
    elim (cases_lt s.made 18446744073709551615) [ inl lt ↦ lt | inr le ↦ absurd (more (inr le)) ]

-- `commit TYPE`
pub commit_missing : (s : State) (ty : List ℕ) (stop : Stop) → IsMissing s.types ty stop → IsStop s (Commit ty) stop
commit_missing s ty = missing s ty (Commit ty) [] (λ _ first. first)

pub commit_allowed : (s : State) (ty : List ℕ) (kept : Kept) → type_of s ty ≡ Some kept → IsAllowed s (Commit ty)
commit_allowed s ty kept is = allowed s (Commit ty) (is_known s ty kept is, (is_supported s ty kept is, tt))

pub commit_basic : (s : State) (ty : List ℕ) (kept : Kept) → type_of s ty ≡ Some kept → begins_with_mpi ty ≡ true
    → Performs (Commit ty) s Done (with_count (changed change.Nothing s))
commit_basic s ty kept is reserved = (kept, is, refl, rw reserved refl)

pub commit_plain : (s : State) (ty : List ℕ) (kept : Kept) → type_of s ty ≡ Some kept → begins_with_mpi ty ≡ false
    → CanChange (change.Commit ty) s × Performs (Commit ty) s Done (with_count (changed (change.Commit ty) s))
commit_plain s ty kept is plain =
    let stands : under ty s.types ≡ Some kept = sym (plain_under s.types ty plain) ∙ is in
    (rw stands refl, (kept, is, refl, rw (plain, stands) refl))

-- `free TYPE`
pub free_missing : (s : State) (ty : List ℕ) (stop : Stop) → IsMissing s.types ty stop → IsStop s (Free ty) stop
free_missing s ty = missing s ty (Free ty) (refusal.BasicType when IsTrue (is_basic_word s ty) ∷ []) (λ _ first. first)

pub free_basic : (s : State) (ty : List ℕ) (kept : Kept) → type_of s ty ≡ Some kept → is_basic_word s ty ≡ true → IsRefusedBy s (Free ty) refusal.BasicType
free_basic s ty kept is basic = refused s (Free ty) refusal.BasicType (is_known s ty kept is, (is_supported s ty kept is, basic))

pub free_allowed : (s : State) (ty : List ℕ) (kept : Kept) → type_of s ty ≡ Some kept → is_basic_word s ty ≡ false → IsAllowed s (Free ty)
free_allowed s ty kept is derived =
    allowed s (Free ty) (is_known s ty kept is, (is_supported s ty kept is, (contrary (is_basic_word s ty) derived, tt)))

-- a reserved word that stands is basic, so a word that isn't is looked up
derived_plain : (s : State) (ty : List ℕ) (kept : Kept) → type_of s ty ≡ Some kept → is_basic_word s ty ≡ false → begins_with_mpi ty ≡ false
derived_plain s ty kept is derived =
    false_from_ne_true (begins_with_mpi ty) (λ reserved.
    let none : is_none (type_of s ty) ≡ true = rw reserved (unknown_kind (kind_of ty) (sym (reserved_is_basic s.types ty reserved) ∙ derived)) in
    let apart : true ≡ false = sym none ∙ ap is_none is in cc)

pub free_can : (s : State) (ty : List ℕ) (kept : Kept) → type_of s ty ≡ Some kept → is_basic_word s ty ≡ false → CanChange (change.Free ty) s
free_can s ty kept is derived other stands =
    sym (basic_by s ty other (plain_under s.types ty (derived_plain s ty kept is derived) ∙ stands)) ∙ derived

-- the names of a new type say nothing against it
module _ (s : State) (name : List ℕ) (unknown left_out : Bool) (names : IsClear (new_type_row s name unknown left_out [])) where
  pub names_known : unknown ≡ false
  names_known = false_from_ne_true unknown names.0

  pub names_free : is_type_taken s name ≡ false
  names_free = false_from_ne_true (is_type_taken s name) names.1.0

  pub names_supported : left_out ≡ false
  names_supported = false_from_ne_true left_out names.1.1.0

-- `child NAME = TYPE INT`
pub child_names : (s : State) (name ty : List ℕ) (k : ℤ) (refusal : Refusal) → IsFirst (new_type_row s name (is_unknown s ty) (is_left_out ty) []) refusal
    → IsRefusedBy s (Child name ty k) refusal
child_names s name ty k refusal first = refused s (Child name ty k) refusal (first_front (new_type_row s name (is_unknown s ty) (is_left_out ty) []) (behind_three (conditions s (Child name ty k))) refusal first)

-- where the names say nothing against it, memory alone can be wanting of the type
pub child_missing : (s : State) (name ty : List ℕ) (k : ℤ) → IsClear (new_type_row s name (is_unknown s ty) (is_left_out ty) []) → (stop : Stop)
    → IsMissing s.types ty stop → IsStop s (Child name ty k) stop
child_missing s name ty k names (Refused refusal) is =
    absurd (only_memory s.types ty (stands s.types ty (names_known s name (is_unknown s ty) (is_left_out ty) names) (names_supported s name (is_unknown s ty) (is_left_out ty) names)) refusal is)
child_missing s name ty k names NoMemory is = tt

module _ (s : State) (name ty : List ℕ) (k : ℤ) (names : IsClear (new_type_row s name (is_unknown s ty) (is_left_out ty) [])) (kept : Kept)
    (is : type_of s ty ≡ Some kept) where
  abbrev Lacks : Kept → Type 0
  Lacks kept = (is_basic kept.ty ≡ false) × (old_at (olds_of (form_of kept.ty)) k ≡ None)

  derived_word : is_basic kept.ty ≡ false → ¬ IsTrue (is_basic_word s ty)
  derived_word derived = contrary (is_basic_word s ty) (basic_by s ty kept is ∙ derived)

  pub child_named : is_basic kept.ty ≡ true → IsRefusedBy s (Child name ty k) refusal.NamedType
  child_named basic = refused s (Child name ty k) refusal.NamedType (names.0, (names.1.0, (names.1.1.0, basic_by s ty kept is ∙ basic)))

  pub child_lacks : is_basic kept.ty ≡ false → old_at (olds_of (form_of kept.ty)) k ≡ None → IsRefusedBy s (Child name ty k) refusal.NoSuchChild
  child_lacks derived none =
      refused s (Child name ty k) refusal.NoSuchChild
      (names.0, (names.1.0, (names.1.1.0, (derived_word derived, some_and (type_of s ty) Lacks kept is (derived, none)))))

  has_child : (old : Seen) → old_at (olds_of (form_of kept.ty)) k ≡ Some old → ¬ LacksChild s ty k
  has_child old at lacks = let (derived, none) = and_some (type_of s ty) Lacks kept is lacks in let apart : None ≡ Some old = sym none ∙ at in cc

  pub child_many : (old : Seen) → is_basic kept.ty ≡ false → old_at (olds_of (form_of kept.ty)) k ≡ Some old → NoMoreTypes s
      → IsRefusedBy s (Child name ty k) refusal.TooManyNames
  child_many old derived at many =
      refused s (Child name ty k) refusal.TooManyNames (names.0, (names.1.0, (names.1.1.0, (derived_word derived, (has_child old at, many)))))

  pub child_allowed : (old : Seen) → is_basic kept.ty ≡ false → old_at (olds_of (form_of kept.ty)) k ≡ Some old → (¬ NoMoreTypes s) → IsAllowed s (Child name ty k)
  child_allowed old derived at more =
      allowed s (Child name ty k) (names.0, (names.1.0, (names.1.1.0, (derived_word derived, (has_child old at, (more, tt))))))

  pub child_can : (old : Seen) → (¬ NoMoreTypes s) → CanChange (change.AddType name (record { ty = old; committed = is_basic old })) s
  child_can old more = (free_under s name (names_free s name (is_unknown s ty) (is_left_out ty) names), can_make s more, λ basic. basic)
