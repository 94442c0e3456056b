-- Datatypes that constructors make of numbered ones.
use Rattle.std.specs.Prelude.{◌≡◌, None, Result, MatchResult}
use Rattle.std.specs.Option.{IsSomeAnd}
use Rattle.dt_form.specs.declared.form.FormOf.{FormOf}
use Rattle.dt_type.specs.Answer.{IsMade, IsCause}
use Rattle.dt_type.specs.declared.datatype.Seen.{Seen}
use Rattle.dt_type.specs.declared.fault.CtorFault.TheVariants as ctor
use Rattle.dt_type.specs.Form.{result_of}
use Rattle.dt_space.specs.declared.fault.SpaceFault.{SpaceFault}
use Rattle.dt_space.specs.declared.fault.SpaceFault.TheVariants.{NoSuchType, BadArgument, Overflow, TooDeep, TooHeavy, Spent, NoMemory}
use Rattle.dt_space.specs.declared.number.TypeNumber.{TypeNumber}
use Rattle.dt_space.specs.Live.{Adds}
use Rattle.dt_space.specs.Space.{Space, kept_at, type_at}

-- the datatype that a form gives over the old one comes under a new number
abbrev pub IsAdded : Space → Space → TypeNumber → (Seen → FormOf Seen) → TypeNumber → Type 0
IsAdded old new n form made = IsSomeAnd (type_at old n) (λ t. IsMade (form t) (result_of (form t)) × Adds old new made (result_of (form t)))

-- why none does: the number stands for nothing, or the constructor refuses, or no number is left
abbrev pub IsNewRefusal : Space → TypeNumber → (Seen → FormOf Seen) → SpaceFault → Type 0
IsNewRefusal s n form NoSuchType = kept_at s n ≡ None
IsNewRefusal s n form BadArgument = IsSomeAnd (type_at s n) (λ t. IsCause (form t) ctor.BadArgument)
IsNewRefusal s n form Overflow = IsSomeAnd (type_at s n) (λ t. IsCause (form t) ctor.Overflow)
IsNewRefusal s n form TooDeep = IsSomeAnd (type_at s n) (λ t. IsCause (form t) ctor.TooDeep)
IsNewRefusal s n form TooHeavy = IsSomeAnd (type_at s n) (λ t. IsCause (form t) ctor.TooHeavy)
IsNewRefusal s n form Spent = s.types.made ≡ 18446744073709551615
IsNewRefusal s n form NoMemory = Unit {0}
IsNewRefusal s n form fault = ⊥

-- the answer of a constructor of one old type; a refusal changes nothing
abbrev pub IsNewOf : Space → Space → TypeNumber → (Seen → FormOf Seen) → Result TypeNumber SpaceFault → Type 0
IsNewOf old new n form answer = MatchResult answer (IsAdded old new n form) (λ fault. (new ≡ old) × IsNewRefusal old n form fault)
