-- Which datatype is read from bytes, and why none is.
use Rattle.std.specs.List.{AllByRecursion, flat_map}
use Rattle.std.specs.Prelude.{◌⊎◌, ◌++◌, ◌≡◌, zero, suc, IsTrue, MatchResult, Result, ℕ, List, [], ◌∷◌}
use Rattle.dt_form.specs.Arguments.{takes_arguments}
use Rattle.dt_form.specs.Form.{olds_of}
use Rattle.dt_form.specs.declared.form.FormOf.{FormOf}
use Rattle.dt_form.specs.declared.form.FormOf.TheVariants.{Named}
use Rattle.dt_type.specs.Answer.{IsAllowed, IsCause}
use Rattle.dt_type.specs.Datatype.{form_of}
use Rattle.dt_type.specs.Form.{result_of}
use Rattle.dt_type.specs.declared.datatype.Seen.{Seen}
use Rattle.dt_type.specs.declared.fault.CtorFault.{CtorFault}
use Rattle.dt_type.specs.declared.fault.CtorFault.TheVariants as ctor
use Rattle.dt_wire.specs.declared.fault.WireFault.{WireFault}
use Rattle.dt_wire.specs.declared.fault.WireFault.TheVariants.{Bad, BadArgument, Overflow, TooDeep, TooHeavy, NoMemory}
use Rattle.dt_wire.specs.Fault.{IsBadAt}
use Rattle.dt_wire.specs.Wire.{IsWire}

-- the constructor that makes a form; none makes a kind
abbrev pub called : FormOf Seen → List (FormOf Seen)
called (Named kind) = []
called form = form ∷ []

-- the constructors in a form of so many levels: those of its old types before its own, from left to right
abbrev pub calls : ℕ → FormOf Seen → List (FormOf Seen)
calls zero form = []
calls (suc levels) form = flat_map (λ old. calls levels (form_of old)) (olds_of form) ++ called form

-- a constructor that no refusal keeps from its datatype
pub record IsTaken (form : FormOf Seen) : Type 0 where
  pub arguments : IsTrue (takes_arguments form)
  pub allowed : IsAllowed form

-- the first one that isn't taken has this cause
abbrev pub IsFirstCause : List (FormOf Seen) → CtorFault → Type 0
IsFirstCause [] fault = ⊥
IsFirstCause (form ∷ forms) fault = IsCause form fault ⊎ (IsTaken form × IsFirstCause forms fault)

-- the bytes are the text of a form, all of its constructors are taken, and the datatype is what they give
pub record IsImported (bytes : List ℕ) (t : Seen) : Type 0 where
  pub form : FormOf Seen
  pub text : IsWire bytes form
  pub taken : AllByRecursion IsTaken (calls 64 form)
  pub value : t ≡ result_of form

-- the bytes are the text of a form, and the first of its constructors that isn't taken has this cause
pub record IsRefused (bytes : List ℕ) (fault : CtorFault) : Type 0 where
  pub form : FormOf Seen
  pub text : IsWire bytes form
  pub first : IsFirstCause (calls 64 form) fault

-- why no datatype is read; memory may run out whatever the bytes are
abbrev pub IsWhy : List ℕ → WireFault → Type 0
IsWhy bytes (Bad at) = IsBadAt bytes at
IsWhy bytes BadArgument = IsRefused bytes ctor.BadArgument
IsWhy bytes Overflow = IsRefused bytes ctor.Overflow
IsWhy bytes TooDeep = IsRefused bytes ctor.TooDeep
IsWhy bytes TooHeavy = IsRefused bytes ctor.TooHeavy
IsWhy bytes NoMemory = Unit {0}

-- the datatype, or why there is none
abbrev pub IsRead : List ℕ → Result Seen WireFault → Type 0
IsRead bytes answer = MatchResult answer (IsImported bytes) (IsWhy bytes)

-- a constructor's fault as the reader tells it
abbrev pub told : CtorFault → WireFault
told ctor.BadArgument = BadArgument
told ctor.Overflow = Overflow
told ctor.TooDeep = TooDeep
told ctor.TooHeavy = TooHeavy
told ctor.NoMemory = NoMemory
