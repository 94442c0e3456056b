-- How heavy and how deep a datatype is, by its shape, and that its old types are in range.
use Rattle.std.specs.Prelude.{◌≡◌, ◌+◌, ◌^◌, ◌≤◌, suc, zero, List, [], ◌∷◌}
use Rattle.std.specs.List.{AllByRecursion, sum_by}
use Rattle.std.proofs.Common.{sym, ap, subst, ◌∙◌, arith}
use Rattle.dt_map.specs.Bounds.{size_of}
use Rattle.dt_type.specs.declared.datatype.Seen.{Seen, out-roll-Seen}
use Rattle.dt_type.specs.declared.shape.ShapeOf.{ShapeOf}
use Rattle.dt_form.specs.declared.form.FormOf.{FormOf}
use Rattle.dt_form.specs.Form as form
use Rattle.dt_type.specs.Datatype.{Layer, entries_of, typemap_of, form_of, weight_of, depth_of}
use Rattle.dt_type.specs.Falls.{has_level}
use Rattle.dt_type.specs.Form.{map_by, result_of, weight_by, depth_by, deepest}
use Rattle.dt_type.specs.Listing.{HaveDisps}
use Rattle.dt_type.specs.Shape.{olds_of, items_of, levels_of}
use Rattle.dt_type.specs.ShapeFor.{IsShapeFor}
use Rattle.dt_type.specs.Whole.{AreProper, IsProper, IsWhole}
use Rattle.dt_type.proofs.Listings.{in_range_fits}

abbrev layer_by : FormOf Seen → Layer
layer_by f = record { entries = (map_by f).entries; marks = (map_by f).marks; form = f; weight = weight_by f; depth = depth_by f }

module _ (t : Seen) (s : ShapeOf Seen) (made : t ≡ result_of (form_of t)) (goes : IsShapeFor s (form_of t)) where
  pub weighs : weight_of t ≡ 1 + items_of s + sum_by weight_of (olds_of s)
  weighs =
      let whole : weight_of t ≡ weight_by (form_of t) = ap weight_of made ∙ ap (λ (l : Layer). l.weight) (out-roll-Seen (layer_by (form_of t))) in
      let items = goes.items in
      let olds = ap (sum_by weight_of) goes.olds in
      omega (arith, whole, items, olds)

  pub lies : depth_of t ≡ form.levels_of (form_of t) + deepest (olds_of s)
  lies =
      let whole : depth_of t ≡ depth_by (form_of t) = ap depth_of made ∙ ap (λ (l : Layer). l.depth) (out-roll-Seen (layer_by (form_of t))) in
      let olds = ap deepest goes.olds in
      omega (arith, whole, olds)

  pub has_levels : (1 ≤ form.levels_of (form_of t)) × (levels_of s ≤ form.levels_of (form_of t))
  has_levels = (has_level (form_of t) goes.arguments, goes.levels)

-- entries in range, of not too many bytes
pub record IsHandy (t : Seen) : Type 0 where
  pub fits : HaveDisps (entries_of t)
  pub small : size_of (entries_of t) ≤ 2 ^ 60

proper_handy : (t : Seen) → IsProper t → IsHandy t
proper_handy t proper = record { fits = in_range_fits (typemap_of t) proper.in_range; small = proper.in_range.size }

pub whole_handy : (t : Seen) → IsWhole t → IsHandy t
whole_handy t whole = proper_handy t (whole (suc zero)).0

all_handy : (olds : List Seen) → AllByRecursion (AreProper (suc zero)) olds → AllByRecursion IsHandy olds
all_handy [] all = tt
all_handy (old ∷ olds) all = (proper_handy old all.0.0, all_handy olds all.1)

pub olds_handy : (t : Seen) (s : ShapeOf Seen) → IsShapeFor s (form_of t) → IsWhole t → AllByRecursion IsHandy (olds_of s)
olds_handy t s goes whole = all_handy (olds_of s) (subst (AllByRecursion (AreProper (suc zero))) (sym goes.olds) (whole (suc (suc zero))).1)
