-- Numbers for datatypes that come from elsewhere.
use Rattle.std.specs.Prelude.{◌≡◌, ◌⊎◌, Some, true, false}
use Rattle.dt_type.specs.Basic.{is_basic}
use Rattle.dt_type.specs.declared.datatype.Seen.{Seen}
use Rattle.dt_space.specs.declared.fault.SpaceFault.{SpaceFault}
use Rattle.dt_space.specs.declared.fault.SpaceFault.TheVariants.{Spent, NoMemory}
use Rattle.dt_space.specs.declared.number.TypeNumber.{TypeNumber}
use Rattle.dt_space.specs.Live.{Adds, new_kept}
use Rattle.dt_space.specs.Space.{Space, kept_at}

-- the number of a basic datatype stands for it already
pub record IsBasicNumber (old new : Space) (n : TypeNumber) (t : Seen) : Type 0 where
  pub basic : is_basic t ≡ true
  pub serial : n.serial ≡ 18446744073709551615
  pub stands : kept_at old n ≡ Some (new_kept t)
  pub same : new ≡ old

-- any other comes under a new number
pub record IsNewNumber (old new : Space) (n : TypeNumber) (t : Seen) : Type 0 where
  pub derived : is_basic t ≡ false
  pub adds : Adds old new n t

abbrev pub Numbers : Space → Space → TypeNumber → Seen → Type 0
Numbers old new n t = IsBasicNumber old new n t ⊎ IsNewNumber old new n t

-- why a datatype gets no number: it isn't basic, and all numbers were used; want of memory is tied to nothing
abbrev pub IsUnnumbered : Space → Seen → SpaceFault → Type 0
IsUnnumbered s t Spent = (is_basic t ≡ false) × (s.types.made ≡ 18446744073709551615)
IsUnnumbered s t NoMemory = Unit {0}
IsUnnumbered s t fault = ⊥
