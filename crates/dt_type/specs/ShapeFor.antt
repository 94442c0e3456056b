use Rattle.std.specs.Prelude.{◌≡◌, ◌≤◌, IsTrue}
use Rattle.dt_type.specs.declared.datatype.Seen.{Seen}
use Rattle.dt_form.specs.declared.form.FormOf.{FormOf}
use Rattle.dt_type.specs.declared.shape.ShapeOf.{ShapeOf}
use Rattle.dt_form.specs.Arguments.{takes_arguments}
use Rattle.dt_type.specs.Conditions.{HasNumbers}
use Rattle.dt_form.specs.Form as form
use Rattle.dt_type.specs.Shape as shape

-- a shape with the numbers, the items and the old types that go with a form, and no more turns than the form has levels
pub record IsShapeFor (s : ShapeOf Seen) (f : FormOf Seen) : Type 0 where
  pub numbers : HasNumbers s
  pub items : shape.items_of s ≡ form.items_of f
  pub levels : shape.levels_of s ≤ form.levels_of f
  pub olds : shape.olds_of s ≡ form.olds_of f
  pub arguments : IsTrue (takes_arguments f)
