use Rattle.std.specs.Prelude.{None, ℕ, ℤ, pos, List, [], ◌∷◌, map, length}
use Rattle.std.specs.List.{flat_map}
use Rattle.dt_map.specs.Constructors.{copies_at}
use Rattle.dt_offsets.specs.Offsets.{row_offsets, grid_offsets, spot_offsets}
use Rattle.dt_map.specs.Placing.{place}
use Rattle.dt_map.specs.Typemap.{Marked}
use Rattle.dt_type.specs.declared.datatype.Seen.{Seen}
use Rattle.dt_type.specs.declared.shape.ShapeOf.{ShapeOf}
use Rattle.dt_type.specs.declared.shape.ShapeOf.TheVariants.{One, Grid, Each, Seq}
use Rattle.dt_type.specs.declared.shape.ShapePartOf.{ShapePartOf}
use Rattle.dt_type.specs.Datatype.{typemap_of}

abbrev pub part_members : ShapePartOf Seen → List (ℤ × Marked)
part_members p = map (λ x. (x, typemap_of p.old)) (row_offsets p.first p.copies p.step)

-- the copies of each part in turn
abbrev pub placed_parts : List (ShapePartOf Seen) → Marked
placed_parts parts = place (flat_map part_members parts)

-- the typemap that a shape places, with the marks that its copies bring along
abbrev pub placed_by : ShapeOf Seen → Marked
placed_by (One kind) = record { entries = (record { kind = kind; disp = pos 0 }) ∷ []; marks = None }
placed_by (Grid turns old) = copies_at (grid_offsets turns) (typemap_of old)
placed_by (Each spots old) = copies_at (spot_offsets spots) (typemap_of old)
placed_by (Seq parts) = placed_parts parts

-- the old types, and how many turns, spots or parts a shape lists
abbrev pub olds_of : ShapeOf Seen → List Seen
olds_of (One kind) = []
olds_of (Grid turns old) = old ∷ []
olds_of (Each spots old) = old ∷ []
olds_of (Seq parts) = map (λ p. p.old) parts

abbrev pub items_of : ShapeOf Seen → ℕ
items_of (One kind) = 0
items_of (Grid turns old) = length turns
items_of (Each spots old) = length spots
items_of (Seq parts) = length parts

-- how many levels of turns one stands in another
abbrev pub levels_of : ShapeOf Seen → ℕ
levels_of (Grid turns old) = length turns
levels_of _ = 0
