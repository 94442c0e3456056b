-- Sizes and bounds of numbered datatypes (MPI 4.1, sections 5.1.5 to 5.1.8).
use Rattle.std.specs.Prelude.{◌≡◌, ℕ, ◌-ℤ◌}
use Rattle.std.specs.Option.{IsSomeAnd}
use Rattle.dt_map.specs.Bounds.{bounds_of, size_of, lower, upper, true_lb, true_ub}
use Rattle.dt_map.specs.declared.bounds.Bounds.{Bounds}
use Rattle.dt_type.specs.Datatype.{typemap_of, entries_of}
use Rattle.dt_space.specs.declared.number.Extent.{Extent}
use Rattle.dt_space.specs.declared.number.TypeNumber.{TypeNumber}
use Rattle.dt_space.specs.Space.{Space, type_at}

abbrev pub IsBounds : Space → TypeNumber → Bounds → Type 0
IsBounds s n bounds = IsSomeAnd (type_at s n) (λ t. bounds ≡ bounds_of (typemap_of t))

abbrev pub IsSize : Space → TypeNumber → ℕ → Type 0
IsSize s n size = IsSomeAnd (type_at s n) (λ t. size ≡ size_of (entries_of t))

-- from the lower to the upper bound
abbrev pub IsExtent : Space → TypeNumber → Extent → Type 0
IsExtent s n e = IsSomeAnd (type_at s n) (λ t. (e.lb ≡ lower (typemap_of t)) × (e.extent ≡ upper (typemap_of t) -ℤ lower (typemap_of t)))

-- from the least displacement to the greatest end
abbrev pub IsTrueExtent : Space → TypeNumber → Extent → Type 0
IsTrueExtent s n e = IsSomeAnd (type_at s n) (λ t. (e.lb ≡ true_lb (entries_of t)) × (e.extent ≡ true_ub (entries_of t) -ℤ true_lb (entries_of t)))
