-- Numbers for the old types of a datatype, one after another.
use Rattle.std.specs.Prelude.{◌≡◌, ℕ, ◌+◌, ◌<◌, cond, List, [], ◌∷◌}
use Rattle.std.specs.List.{sum_by}
use Rattle.dt_type.specs.Basic.{is_basic}
use Rattle.dt_type.specs.declared.datatype.Seen.{Seen}
use Rattle.dt_space.specs.declared.fault.SpaceFault.{SpaceFault}
use Rattle.dt_space.specs.declared.fault.SpaceFault.TheVariants.{Spent, NoMemory}
use Rattle.dt_space.specs.declared.number.TypeNumber.{TypeNumber}
use Rattle.dt_space.specs.Space.{Space, kept_at}
use Rattle.dt_numbered.specs.Numbering.{Numbers}

-- each datatype has its number, one after another
abbrev pub AreNumbered : Space → Space → List Seen → List TypeNumber → Type 0
AreNumbered old new [] [] = new ≡ old
AreNumbered old new (t ∷ ts) (n ∷ ns) = (mid : Space) × Numbers old mid n t × AreNumbered mid new ts ns
AreNumbered old new [] (n ∷ ns) = ⊥
AreNumbered old new (t ∷ ts) [] = ⊥

-- each number stands for what it did
pub record StandsAs (old new : Space) : Type 0 where
  pub types : (n : TypeNumber) → kept_at new n ≡ kept_at old n
  pub sessions : new.sessions ≡ old.sessions
  pub begun : new.begun ≡ old.begun

-- how many new numbers datatypes need: one for each that isn't basic
abbrev pub numbers_for : List Seen → ℕ
numbers_for = sum_by (λ t. cond (is_basic t) 0 1)

-- why not all of some datatypes get a number: fewer are left than they need; want of memory is tied to nothing
abbrev pub IsOut : Space → List Seen → SpaceFault → Type 0
IsOut s ts Spent = 18446744073709551615 < s.types.made + numbers_for ts
IsOut s ts NoMemory = Unit {0}
IsOut s ts fault = ⊥
