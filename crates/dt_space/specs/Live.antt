-- Numbers that come, are committed, and go.
use Rattle.std.specs.Prelude.{◌≡◌, ◌≢◌, ◌+◌, true, false, Option, Some, None, Result, MatchResult}
use Rattle.std.specs.Option.{option_map, IsSomeAnd}
use Rattle.dt_type.specs.declared.datatype.Seen.{Seen}
use Rattle.dt_type.specs.Basic.{is_basic}
use Rattle.dt_space.specs.declared.fault.SpaceFault.{SpaceFault}
use Rattle.dt_space.specs.declared.fault.SpaceFault.TheVariants.{NoSuchType, Basic, Spent, NoMemory}
use Rattle.dt_space.specs.declared.number.Kept.{Kept}
use Rattle.dt_space.specs.declared.number.TypeNumber.{TypeNumber}
use Rattle.dt_space.specs.Space.{Space, kept_at, type_at}

-- the number stands for this from now on, and each other one for what it stood for; the sessions stay
pub record Changes (old new : Space) (n : TypeNumber) (to : Option Kept) : Type 0 where
  pub changed : kept_at new n ≡ to
  pub others : (m : TypeNumber) → m ≢ n → kept_at new m ≡ kept_at old m
  pub sessions : new.sessions ≡ old.sessions
  pub begun : new.begun ≡ old.begun

-- a new datatype is committed only where it is basic
abbrev pub new_kept : Seen → Kept
new_kept t = record { ty = t; committed = is_basic t }

-- a datatype comes under a number that no datatype had before: its serial is how many came before
pub record Adds (old new : Space) (n : TypeNumber) (t : Seen) : Type 0 where
  pub serial : n.serial ≡ old.types.made
  pub made : new.types.made ≡ old.types.made + 1
  pub was_free : kept_at old n ≡ None
  pub changes : Changes old new n (Some (new_kept t))

-- why no datatype comes: all numbers were used; want of memory is tied to nothing
abbrev pub IsFull : Space → SpaceFault → Type 0
IsFull s Spent = s.types.made ≡ 18446744073709551615
IsFull s NoMemory = Unit {0}
IsFull s fault = ⊥

abbrev pub committed : Kept → Kept
committed kept = record { ty = kept.ty; committed = true }

-- a number that stands for a datatype stands for it as committed
pub record Commits (old new : Space) (n : TypeNumber) : Type 0 where
  pub stood : kept_at old n ≢ None
  pub made : new.types.made ≡ old.types.made
  pub changes : Changes old new n (option_map committed (kept_at old n))

abbrev pub IsCommitRefusal : Space → TypeNumber → SpaceFault → Type 0
IsCommitRefusal s n NoSuchType = kept_at s n ≡ None
IsCommitRefusal s n fault = ⊥

-- a number of a datatype that isn't basic stands for nothing any more
pub record Frees (old new : Space) (n : TypeNumber) : Type 0 where
  pub stood : IsSomeAnd (type_at old n) (λ t. is_basic t ≡ false)
  pub made : new.types.made ≡ old.types.made
  pub changes : Changes old new n None

abbrev pub IsFreeRefusal : Space → TypeNumber → SpaceFault → Type 0
IsFreeRefusal s n NoSuchType = kept_at s n ≡ None
IsFreeRefusal s n Basic = IsSomeAnd (type_at s n) (λ t. is_basic t ≡ true)
IsFreeRefusal s n fault = ⊥

-- the answers; a refusal changes nothing
abbrev pub IsCommitAnswer : Space → Space → TypeNumber → Result (Unit {0}) SpaceFault → Type 0
IsCommitAnswer old new n answer = MatchResult answer (λ done. Commits old new n) (λ fault. (new ≡ old) × IsCommitRefusal old n fault)

abbrev pub IsFreeAnswer : Space → Space → TypeNumber → Result (Unit {0}) SpaceFault → Type 0
IsFreeAnswer old new n answer = MatchResult answer (λ done. Frees old new n) (λ fault. (new ≡ old) × IsFreeRefusal old n fault)
