-- Counts of received bytes (MPI 4.1, sections 3.2.5 and 5.1.11).
use Rattle.std.specs.Prelude.{◌≡◌, ℕ, ◌≤◌, ◌<◌, Option, Some, None}
use Rattle.std.specs.Option.{IsSomeAnd}
use Rattle.dt_kinds.specs.declared.kind.Rep.{Rep}
use Rattle.dt_map.specs.Counts.{received_elements, received_copies}
use Rattle.dt_type.specs.Datatype.{typemap_of}
use Rattle.dt_space.specs.declared.fault.SpaceFault.{SpaceFault}
use Rattle.dt_space.specs.declared.fault.SpaceFault.TheVariants.{NoSuchType, BadArgument, NoMemory}
use Rattle.dt_space.specs.declared.number.TypeNumber.{TypeNumber}
use Rattle.dt_space.specs.Space.{Space, kept_at, type_at}

-- a number, or 2^64 - 1 where there is none
abbrev pub number_or_undefined : Option ℕ → ℕ
number_or_undefined (Some count) = count
number_or_undefined None = 18446744073709551615

-- the elements of the datatype among the bytes, which are at most 2^63 - 1
abbrev pub AreElements : Space → TypeNumber → Rep → ℕ → ℕ → Type 0
AreElements s n rep bytes count =
    IsSomeAnd (type_at s n) (λ t. (bytes ≤ 9223372036854775807) × (count ≡ received_elements rep (typemap_of t) bytes))

-- its copies among them
abbrev pub AreCopies : Space → TypeNumber → Rep → ℕ → ℕ → Type 0
AreCopies s n rep bytes count =
    IsSomeAnd (type_at s n) (λ t. (bytes ≤ 9223372036854775807) × (count ≡ number_or_undefined (received_copies rep (typemap_of t) bytes)))

-- why nothing is counted
abbrev pub IsUncounted : Space → TypeNumber → ℕ → SpaceFault → Type 0
IsUncounted s n bytes NoSuchType = kept_at s n ≡ None
IsUncounted s n bytes BadArgument = IsSomeAnd (type_at s n) (λ t. 9223372036854775807 < bytes)
IsUncounted s n bytes NoMemory = Unit {0}
IsUncounted s n bytes fault = ⊥
