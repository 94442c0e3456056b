-- All that always holds of a datatype, told of each of its levels.
use Rattle.std.specs.Prelude.{◌≡◌, ℕ, zero, suc, ◌≤◌, IsTrue}
use Rattle.std.specs.List.{AllByRecursion}
use Rattle.dt_map.specs.Limits.{IsInRange}
use Rattle.dt_type.specs.declared.datatype.Seen.{Seen}
use Rattle.dt_type.specs.declared.limits.TheConstants.{DEPTH_MAX, WEIGHT_MAX}
use Rattle.dt_form.specs.Arguments.{takes_arguments}
use Rattle.dt_type.specs.Datatype.{typemap_of, form_of, weight_of, depth_of}
use Rattle.dt_type.specs.Form.{result_of}
use Rattle.dt_form.specs.Form.{olds_of}

-- a datatype is what its form gives, and within the limits
pub record IsProper (t : Seen) : Type 0 where
  pub made : t ≡ result_of (form_of t)
  pub arguments : IsTrue (takes_arguments (form_of t))
  pub in_range : IsInRange (typemap_of t)
  pub shallow : depth_of t ≤ DEPTH_MAX
  pub light : weight_of t ≤ WEIGHT_MAX

-- so are its old types, theirs and so on, so many levels in all
abbrev pub AreProper : ℕ → Seen → Type 0
AreProper zero t = Unit {0}
AreProper (suc levels) t = IsProper t × AllByRecursion (AreProper levels) (olds_of (form_of t))

-- on every level
abbrev pub IsWhole : Seen → Type 0
IsWhole t = (levels : ℕ) → AreProper levels t
