-- What a type word stands for, told outside.
use Rattle.std.specs.Prelude.{◌≡◌, ℕ, true, false, List, Some, Result, Ok, Err, ◌⊎◌}
use Rattle.dt_kinds.specs.Name.{is_left_out}
use Rattle.dt_reply.specs.declared.refusal.Refusal.TheVariants.{UnknownName, UnsupportedKind}
use Rattle.dt_reply.specs.Refusal.{number_of}
use Rattle.dt_script.specs.Name.{is_name}
use Rattle.dt_type.specs.declared.datatype.Seen.{Seen}
use Rattle.dt_form.specs.declared.form.FormOf.TheVariants.{Named}
use Rattle.dt_type.specs.Basic.{is_basic}
use Rattle.dt_type.specs.Datatype.{form_of}
use Rattle.dt_names.specs.declared.found.Found.{Found}
use Rattle.dt_names.specs.declared.found.Found.TheVariants.{Basic, Derived}
use Rattle.dt_names.specs.declared.kept.Kept.{Kept}
use Rattle.dt_names.specs.Names.{type_in, is_unknown_in}

-- a type, told by its kind where it is basic
abbrev pub IsFoundIn : Seen → Found → Type 0
IsFoundIn t (Basic kind) = form_of t ≡ Named kind
IsFoundIn t (Derived ty) = (is_basic t ≡ false) × (ty.now ≡ t)

-- what a word stands for, or the number of the refusal of a command that uses it: it is no name or unknown, or it is left out
abbrev pub IsFoundType : List (List ℕ × Kept) → List ℕ → Result Found ℕ → Type 0
IsFoundType types word (Ok found) = (kept : Kept) × (type_in types word ≡ Some kept) × IsFoundIn kept.ty found
IsFoundType types word (Err number) =
    ((number ≡ number_of UnknownName) × ((is_name word ≡ false) ⊎ (is_unknown_in types word ≡ true))) ⊎ ((number ≡ number_of UnsupportedKind) × (is_left_out word ≡ true))
