-- What a constructor of a script makes of the types that stand.
use Rattle.std.specs.Prelude.{◌≡◌, Bool, false, List, [], ◌∷◌, Option, Some, Result, Ok, Err}
use Rattle.std.specs.Option.{option_map, option_and_then, option_map_or}
use Rattle.dt_type.specs.Answer.{IsMade, IsCause}
use Rattle.dt_script.specs.declared.command.Ctor.{Ctor}
use Rattle.dt_script.specs.declared.command.Ctor.TheVariants.{Contiguous, Vector, Hvector, Indexed, Hindexed, IndexedBlock, HindexedBlock, Struct, Resized, Dup, Subarray, Darray}
use Rattle.dt_script.specs.declared.command.NamedPart.{NamedPart}
use Rattle.dt_type.specs.declared.datatype.Seen.{Seen}
use Rattle.dt_type.specs.declared.fault.CtorFault.{CtorFault}
use Rattle.dt_type.specs.declared.fault.CtorFault.TheVariants.{NoMemory}
use Rattle.dt_form.specs.declared.form.FormOf.{FormOf}
use Rattle.dt_form.specs.declared.form.FormOf.TheVariants as form
use Rattle.dt_form.specs.declared.form.PartOf.{PartOf}
use Rattle.dt_machine.specs.State.{State, type_of, old_of}

-- a part with its old type, and such parts; none where one doesn't stand
abbrev pub part_in : State → NamedPart → Option (PartOf Seen)
part_in s p = option_map (λ old. record { len = p.len; disp = p.disp; old = old }) (old_of s p.old)

abbrev pub parts_in : State → List NamedPart → Option (List (PartOf Seen))
parts_in s [] = Some []
parts_in s (p ∷ named) = option_and_then (λ part. option_map (λ parts. part ∷ parts) (parts_in s named)) (part_in s p)

-- the form that a constructor says, over the types that stand; none where one doesn't
abbrev pub form_in : State → Ctor → Option (FormOf Seen)
form_in s (Contiguous count old) = option_map (form.Contiguous count) (old_of s old)
form_in s (Vector count block stride old) = option_map (form.Vector count block stride) (old_of s old)
form_in s (Hvector count block stride old) = option_map (form.Hvector count block stride) (old_of s old)
form_in s (Indexed old blocks) = option_map (form.Indexed blocks) (old_of s old)
form_in s (Hindexed old blocks) = option_map (form.Hindexed blocks) (old_of s old)
form_in s (IndexedBlock old block disps) = option_map (form.IndexedBlock block disps) (old_of s old)
form_in s (HindexedBlock old block disps) = option_map (form.HindexedBlock block disps) (old_of s old)
form_in s (Struct parts) = option_map form.Struct (parts_in s parts)
form_in s (Resized lb extent old) = option_map (form.Resized lb extent) (old_of s old)
form_in s (Dup old) = option_map form.Dup (old_of s old)
form_in s (Subarray order old dims) = option_map (form.Subarray dims order) (old_of s old)
form_in s (Darray size rank order old dims) = option_map (form.Darray size rank dims order) (old_of s old)

-- the duplicate of a committed type is committed, and no other new type is
abbrev pub is_committed_by : State → Ctor → Bool
is_committed_by s (Dup old) = option_map_or (λ kept. kept.committed) (type_of s old) false
is_committed_by s ctor = false

-- a fault of the constructor that is called with the types that stand
abbrev pub IsFaultIn : State → Ctor → CtorFault → Type 0
IsFaultIn s ctor fault = (form : FormOf Seen) × (form_in s ctor ≡ Some form) × IsCause form fault

-- the answer of the constructor, where memory may always run out
abbrev pub IsAnswerIn : State → Ctor → Result Seen CtorFault → Type 0
IsAnswerIn s ctor (Ok made) = (form : FormOf Seen) × (form_in s ctor ≡ Some form) × IsMade form made
IsAnswerIn s ctor (Err NoMemory) = Unit {0}
IsAnswerIn s ctor (Err fault) = IsFaultIn s ctor fault
