use Rattle.std.specs.Prelude.{◌≡◌, ◌⊎◌, IsTrue, Result, MatchResult, List, [], ◌∷◌}
use Rattle.std.specs.List.{AllByRecursion}
use Rattle.dt_form.specs.Arguments.{takes_arguments}
use Rattle.dt_form.specs.declared.form.FormOf.{FormOf}
use Rattle.dt_type.specs.declared.datatype.Seen.{Seen}
use Rattle.dt_type.specs.declared.fault.CtorFault.{CtorFault}
use Rattle.dt_type.specs.declared.fault.CtorFault.TheVariants.{NoMemory}
use Rattle.dt_type.specs.Answer.{IsAllowed, IsCause}

-- The answers of several constructors, one called after the other.

-- a constructor that no refusal keeps from its datatype
pub record IsTaken (form : FormOf Seen) : Type 0 where
  pub arguments : IsTrue (takes_arguments form)
  pub allowed : IsAllowed form

-- the first one that isn't taken has this cause
abbrev pub IsFirstCause : List (FormOf Seen) → CtorFault → Type 0
IsFirstCause [] fault = ⊥
IsFirstCause (form ∷ forms) fault = IsCause form fault ⊎ (IsTaken form × IsFirstCause forms fault)

-- the fault of the first that refuses; memory may run out in any
abbrev pub IsRefusalIn : List (FormOf Seen) → CtorFault → Type 0
IsRefusalIn forms fault = (fault ≡ NoMemory) ⊎ IsFirstCause forms fault

-- the datatype, where all are taken
pub record IsMadeBy (forms : List (FormOf Seen)) (end t : Seen) : Type 0 where
  pub value : t ≡ end
  pub taken : AllByRecursion IsTaken forms

-- the answer where the last of them makes the datatype `end`
abbrev pub IsAnswerOf : List (FormOf Seen) → Seen → Result Seen CtorFault → Type 0
IsAnswerOf forms end answer = MatchResult answer (IsMadeBy forms end) (IsRefusalIn forms)
