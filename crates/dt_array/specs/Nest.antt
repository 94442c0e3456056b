use Rattle.std.specs.Prelude.{◌≡◌, ℤ, List}
use Rattle.dt_array.specs.declared.indices.Indices.{Indices}
use Rattle.dt_array.specs.declared.nest.Nest.{Nest}
use Rattle.dt_array.specs.Nested.{nested, span_by}
use Rattle.dt_kinds.specs.Displacement.{FitsDisp}
use Rattle.dt_type.specs.declared.fault.CtorFault.{CtorFault}
use Rattle.dt_type.specs.declared.fault.CtorFault.TheVariants.{BadArgument, Overflow, TooDeep, TooHeavy, NoMemory}
use Rattle.dt_form.specs.declared.form.Order.{Order}

-- a number that is in range, and one that isn't
abbrev pub IsNarrow : ℤ → ℤ → Type 0
IsNarrow wide x = (x ≡ wide) × FitsDisp wide

abbrev pub IsWide : ℤ → CtorFault → Type 0
IsWide wide fault = (fault ≡ Overflow) × (¬ FitsDisp wide)

-- the nested turns of an array, whose marks are in range
pub record IsNest (order : Order) (extent : ℤ) (dims : List Indices) (nest : Nest) : Type 0 where
  pub turns : nest.turns ≡ nested order extent dims
  pub span : nest.span ≡ span_by extent dims
  pub fits : FitsDisp (span_by extent dims)

-- why there are none
abbrev pub IsTooWide : ℤ → List Indices → CtorFault → Type 0
IsTooWide extent dims BadArgument = ⊥
IsTooWide extent dims Overflow = ¬ FitsDisp (span_by extent dims)
IsTooWide extent dims TooDeep = ⊥
IsTooWide extent dims TooHeavy = ⊥
IsTooWide extent dims NoMemory = Unit {0}
