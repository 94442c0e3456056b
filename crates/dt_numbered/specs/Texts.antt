-- Datatypes as bytes.
use Rattle.std.specs.Prelude.{◌≡◌, ℕ, ◌⊎◌, ◌≤◌, ◌<◌, List, length, Result, MatchResult}
use Rattle.std.specs.Option.{IsSomeAnd}
use Rattle.dt_type.specs.Datatype.{form_of}
use Rattle.dt_type.specs.declared.datatype.Seen.{Seen}
use Rattle.dt_type.specs.declared.fault.CtorFault.TheVariants as ctor
use Rattle.dt_wire.specs.Fault.{IsText}
use Rattle.dt_wire.specs.Import.{IsImported, IsRefused}
use Rattle.dt_wire.specs.Spelling.{text_of}
use Rattle.dt_space.specs.declared.fault.SpaceFault.{SpaceFault}
use Rattle.dt_space.specs.declared.fault.SpaceFault.TheVariants.{BadArgument, Overflow, TooDeep, TooHeavy, BadText, NoRoom, NoMemory}
use Rattle.dt_space.specs.declared.number.TypeNumber.{TypeNumber}
use Rattle.dt_space.specs.Space.{Space, type_at, IsMissing}
use Rattle.dt_numbered.specs.Filling.{filled}
use Rattle.dt_numbered.specs.Numbering.{Numbers, IsUnnumbered}

-- the bytes of the datatype stand at the front of a list that has room for them, and their number is told
pub record IsExported (t : Seen) (out out' : List ℕ) (len' : ℕ) : Type 0 where
  pub many : len' ≡ length (text_of (form_of t))
  pub fits : len' ≤ length out
  pub put : out' ≡ filled (text_of (form_of t)) out

-- why they don't: the number stands for nothing, or the list is too short, and then the number of bytes is told alone
abbrev pub IsUnexported : Space → TypeNumber → List ℕ → ℕ → ℕ → SpaceFault → Type 0
IsUnexported s n out len len' NoRoom = IsSomeAnd (type_at s n) (λ t. (len' ≡ length (text_of (form_of t))) × (length out < len'))
IsUnexported s n out len len' fault = (len' ≡ len) × IsMissing s n fault

abbrev pub IsExportAnswer : Space → TypeNumber → List ℕ → List ℕ → ℕ → ℕ → Result (Unit {0}) SpaceFault → Type 0
IsExportAnswer s n out out' len len' answer =
    MatchResult answer (λ done. IsSomeAnd (type_at s n) (λ t. IsExported t out out' len')) (λ fault. (out' ≡ out) × IsUnexported s n out len len' fault)

-- why no datatype is read from bytes
abbrev pub IsUnread : List ℕ → SpaceFault → Type 0
IsUnread bytes BadText = ¬ IsText bytes
IsUnread bytes BadArgument = IsRefused bytes ctor.BadArgument
IsUnread bytes Overflow = IsRefused bytes ctor.Overflow
IsUnread bytes TooDeep = IsRefused bytes ctor.TooDeep
IsUnread bytes TooHeavy = IsRefused bytes ctor.TooHeavy
IsUnread bytes NoMemory = Unit {0}
IsUnread bytes fault = ⊥

-- the datatype of the bytes has the number; a refusal changes nothing: there is none, or it gets no number
abbrev pub IsImportAnswer : Space → Space → List ℕ → Result TypeNumber SpaceFault → Type 0
IsImportAnswer old new bytes answer =
    MatchResult answer
    (λ n. (t : Seen) × IsImported bytes t × Numbers old new n t)
    (λ fault. (new ≡ old) × (IsUnread bytes fault ⊎ ((t : Seen) × IsImported bytes t × IsUnnumbered old t fault)))
