use Rattle.std.specs.Prelude.{◌≡◌, ◌≤◌, ◌<◌}
use Rattle.std.specs.List.{AllByRecursion}
use Rattle.dt_map.specs.Bounds.{bounds_of}
use Rattle.dt_map.specs.Typemap.{Marked}
use Rattle.dt_type.specs.declared.datatype.Seen.{Seen}
use Rattle.dt_type.specs.declared.fault.CtorFault.{CtorFault}
use Rattle.dt_type.specs.declared.fault.CtorFault.TheVariants.{BadArgument, Overflow, TooDeep, TooHeavy, NoMemory}
use Rattle.dt_form.specs.declared.form.FormOf.{FormOf}
use Rattle.dt_type.specs.declared.limits.TheConstants.{DEPTH_MAX, WEIGHT_MAX}
use Rattle.dt_type.specs.declared.make.Measure.{Measure}
use Rattle.dt_map.specs.Limits.{IsInRange}
use Rattle.dt_form.specs.Form.{olds_of}
use Rattle.dt_type.specs.Form.{weight_by, depth_by}
use Rattle.dt_type.specs.Whole.{IsWhole}

-- what a node keeps of a typemap and a form that pass no limit
pub record IsMeasure (m : Marked) (f : FormOf Seen) (kept : Measure) : Type 0 where
  pub marks : kept.marks ≡ m.marks
  pub bounds : kept.bounds ≡ bounds_of m
  pub weight : kept.weight ≡ weight_by f
  pub depth : kept.depth ≡ depth_by f
  pub in_range : IsInRange m
  pub shallow : kept.depth ≤ DEPTH_MAX
  pub light : kept.weight ≤ WEIGHT_MAX
  pub olds : AllByRecursion IsWhole (olds_of f)

-- the first limit that a typemap and a form pass
abbrev pub IsRefusal : Marked → FormOf Seen → CtorFault → Type 0
IsRefusal m f BadArgument = ⊥
IsRefusal m f Overflow = ¬ IsInRange m
IsRefusal m f TooDeep = IsInRange m × (DEPTH_MAX < depth_by f)
IsRefusal m f TooHeavy = IsInRange m × (depth_by f ≤ DEPTH_MAX) × (WEIGHT_MAX < weight_by f)
IsRefusal m f NoMemory = ⊥
