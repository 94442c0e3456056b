-- A struct of numbered datatypes.
use Rattle.std.specs.Prelude.{◌≡◌, Option, Some, None, Result, MatchResult, List, [], ◌∷◌}
use Rattle.std.specs.Option.{option_map, IsSomeAnd}
use Rattle.dt_form.specs.declared.form.FormOf.TheVariants.{Struct}
use Rattle.dt_form.specs.declared.form.PartOf.{PartOf}
use Rattle.dt_type.specs.Answer.{IsMade, IsCause}
use Rattle.dt_type.specs.declared.datatype.Seen.{Seen}
use Rattle.dt_type.specs.declared.fault.CtorFault.TheVariants as ctor
use Rattle.dt_type.specs.Form.{result_of}
use Rattle.dt_space.specs.declared.fault.SpaceFault.{SpaceFault}
use Rattle.dt_space.specs.declared.fault.SpaceFault.TheVariants.{NoSuchType, BadArgument, Overflow, TooDeep, TooHeavy, Spent, NoMemory}
use Rattle.dt_space.specs.declared.number.TypeNumber.{TypeNumber}
use Rattle.dt_space.specs.Live.{Adds}
use Rattle.dt_space.specs.Space.{Space, type_at}

-- a part over the datatype that its number stands for
abbrev pub part_at : Space → PartOf TypeNumber → Option (PartOf Seen)
part_at s p = option_map (λ t. record { len = p.len; disp = p.disp; old = t }) (type_at s p.old)

-- one more part in front, where there are both
abbrev pub joined : Option (PartOf Seen) → Option (List (PartOf Seen)) → Option (List (PartOf Seen))
joined None ps = None
joined (Some p) ps = option_map (λ rest. p ∷ rest) ps

-- all parts, where each number stands for a datatype
abbrev pub parts_at : Space → List (PartOf TypeNumber) → Option (List (PartOf Seen))
parts_at s [] = Some []
parts_at s (p ∷ ps) = joined (part_at s p) (parts_at s ps)

-- why parts are missing
abbrev pub IsMissingPart : {A : Type 0} → Option A → SpaceFault → Type 0
IsMissingPart found NoSuchType = found ≡ None
IsMissingPart found NoMemory = Unit {0}
IsMissingPart found fault = ⊥

-- why no struct is made: a number stands for nothing, or the constructor refuses, or no number is left
abbrev pub IsStructRefusal : Space → List (PartOf TypeNumber) → SpaceFault → Type 0
IsStructRefusal s parts NoSuchType = parts_at s parts ≡ None
IsStructRefusal s parts BadArgument = IsSomeAnd (parts_at s parts) (λ ps. IsCause (Struct ps) ctor.BadArgument)
IsStructRefusal s parts Overflow = IsSomeAnd (parts_at s parts) (λ ps. IsCause (Struct ps) ctor.Overflow)
IsStructRefusal s parts TooDeep = IsSomeAnd (parts_at s parts) (λ ps. IsCause (Struct ps) ctor.TooDeep)
IsStructRefusal s parts TooHeavy = IsSomeAnd (parts_at s parts) (λ ps. IsCause (Struct ps) ctor.TooHeavy)
IsStructRefusal s parts Spent = s.types.made ≡ 18446744073709551615
IsStructRefusal s parts NoMemory = Unit {0}
IsStructRefusal s parts fault = ⊥

-- the answer; a refusal changes nothing
abbrev pub IsNewStruct : Space → Space → List (PartOf TypeNumber) → Result TypeNumber SpaceFault → Type 0
IsNewStruct old new parts answer =
    MatchResult answer
    (λ made. IsSomeAnd (parts_at old parts) (λ ps. IsMade (Struct ps) (result_of (Struct ps)) × Adds old new made (result_of (Struct ps))))
    (λ fault. (new ≡ old) × IsStructRefusal old parts fault)
