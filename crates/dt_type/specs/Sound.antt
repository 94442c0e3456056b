use Rattle.std.specs.Prelude.{◌≡◌, ◌≤◌}
use Rattle.std.specs.List.{AllByRecursion}
use Rattle.dt_map.specs.Bounds.{bounds_of}
use Rattle.dt_map.specs.Typemap.{Marked}
use Rattle.dt_type.specs.declared.datatype.Node.{Node}
use Rattle.dt_type.specs.declared.limits.TheConstants.{DEPTH_MAX, WEIGHT_MAX}
use Rattle.dt_type.specs.declared.datatype.Seen.{Seen, roll-Seen}
use Rattle.dt_type.specs.ShapeFor.{IsShapeFor}
use Rattle.dt_type.specs.Whole.{IsWhole}
use Rattle.dt_type.specs.Datatype.{Layer}
use Rattle.dt_map.specs.Limits.{IsInRange}
use Rattle.dt_type.specs.Form.{map_by, weight_by, depth_by}
use Rattle.dt_form.specs.Form.{olds_of}
use Rattle.dt_type.specs.Shape.{placed_by}

-- a node's typemap is what its shape places, with the marks that it keeps
abbrev pub layer_of : Node → Layer
layer_of n = record { entries = (placed_by n.shape).entries; marks = n.marks; form = n.form; weight = n.weight; depth = n.depth }

abbrev pub view_of : Node → Seen
view_of n = roll-Seen (layer_of n)

abbrev pub map_of : Node → Marked
map_of n = record { entries = (placed_by n.shape).entries; marks = n.marks }

-- what every node keeps: the shape places what the form says, and the numbers beside them are those of the definitions
pub record Sound (n : Node) : Type 0 where
  pub typemap : map_of n ≡ map_by n.form
  pub bounds : n.bounds ≡ bounds_of (map_of n)
  pub weight : n.weight ≡ weight_by n.form
  pub depth : n.depth ≡ depth_by n.form
  pub in_range : IsInRange (map_of n)
  pub shallow : n.depth ≤ DEPTH_MAX
  pub light : n.weight ≤ WEIGHT_MAX
  pub shape : IsShapeFor n.shape n.form
  pub olds : AllByRecursion IsWhole (olds_of n.form)
