-- Each old type is less deep than the type made from it.
use Rattle.std.specs.Prelude.{◌≡◌, ◌+◌, ◌≤◌, max, IsTrue, List, [], ◌∷◌, map}
use Rattle.std.proofs.Common.{arith, ap, ◌∙◌}
use Rattle.std.proofs.lemmas.Bool.{false≢true}
use Rattle.dt_kinds.specs.declared.kind.Kind.TheVariants.{Byte}
use Rattle.dt_type.specs.declared.datatype.Node.{Node}
use Rattle.dt_type.specs.declared.datatype.Seen.{Seen, out-roll-Seen}
use Rattle.dt_type.specs.declared.datatype.Datatype.TheDeep.{deep-Node}
use Rattle.dt_form.specs.declared.form.FormOf.{FormOf}
use Rattle.dt_form.specs.declared.form.FormOf.TheVariants.{Named, Dup, Contiguous, Vector, Hvector, Indexed, Hindexed, IndexedBlock, HindexedBlock, Struct, Subarray, Darray, Resized}
use Rattle.dt_form.specs.declared.form.PartOf.{PartOf}
use Rattle.dt_type.specs.declared.shape.ShapePartOf.{ShapePartOf}
use Rattle.dt_type.specs.declared.shape.ShapeOf.{ShapeOf}
use Rattle.dt_type.specs.declared.shape.ShapeOf.TheVariants.{One, Grid, Each, Seq}
use Rattle.dt_form.specs.Arguments.{takes_arguments}
use Rattle.dt_type.specs.Datatype.{Layer, depth_of}
use Rattle.dt_type.specs.Form.{deepest}
use Rattle.dt_form.specs.Form.{olds_of, levels_of}
use Rattle.dt_type.specs.Shape as shape
use Rattle.dt_type.specs.Sound.{Sound, layer_of, view_of}

abbrev with_shape : Node → ShapeOf Seen → Node
with_shape n s = record { shape = s; form = Named Byte; marks = n.marks; bounds = n.bounds; weight = n.weight; depth = n.depth }

abbrev with_form : Node → FormOf Seen → Node
with_form n f = record { shape = One Byte; form = f; marks = n.marks; bounds = n.bounds; weight = n.weight; depth = n.depth }

pub parted : (n : Node) → deep-Node n ≤ max (deep-Node (with_shape n n.shape)) (deep-Node (with_form n n.form))
parted n = omega arith

pub shape_parts_fall : (n : Node) (parts : List (ShapePartOf Seen)) → deep-Node (with_shape n (Seq parts)) ≤ 1 + deepest (map (λ p. p.old) parts)
shape_parts_fall n [] = omega arith
shape_parts_fall n (p ∷ parts) = omega (arith, shape_parts_fall n parts)

pub shape_falls : (n : Node) (s : ShapeOf Seen) → deep-Node (with_shape n s) ≤ 1 + deepest (shape.olds_of s)
shape_falls n (One kind) = omega arith
shape_falls n (Grid turns old) = omega arith
shape_falls n (Each spots old) = omega arith
shape_falls n (Seq parts) = shape_parts_fall n parts

pub parts_fall : (n : Node) (parts : List (PartOf Seen)) → deep-Node (with_form n (Struct parts)) ≤ 1 + deepest (map (λ p. p.old) parts)
parts_fall n [] = omega arith
parts_fall n (p ∷ parts) = omega (arith, parts_fall n parts)

pub form_falls : (n : Node) (f : FormOf Seen) → deep-Node (with_form n f) ≤ 1 + deepest (olds_of f)
form_falls n (Struct parts) = parts_fall n parts
form_falls n (Named kind) = omega arith
form_falls n (Dup old) = omega arith
form_falls n (Contiguous count old) = omega arith
form_falls n (Vector count block stride old) = omega arith
form_falls n (Hvector count block stride old) = omega arith
form_falls n (Indexed blocks old) = omega arith
form_falls n (Hindexed blocks old) = omega arith
form_falls n (IndexedBlock block disps old) = omega arith
form_falls n (HindexedBlock block disps old) = omega arith
form_falls n (Subarray dims order old) = omega arith
form_falls n (Darray size rank dims order old) = omega arith
form_falls n (Resized lb extent old) = omega arith

pub has_level : (f : FormOf Seen) → IsTrue (takes_arguments f) → 1 ≤ levels_of f
has_level (Subarray [] order old) taken = absurd (false≢true taken)
has_level (Subarray (d ∷ dims) order old) taken = omega arith
has_level (Darray size rank [] order old) taken = absurd (false≢true taken)
has_level (Darray size rank (d ∷ dims) order old) taken = omega arith
has_level (Struct parts) taken = omega arith
has_level (Named kind) taken = omega arith
has_level (Dup old) taken = omega arith
has_level (Contiguous count old) taken = omega arith
has_level (Vector count block stride old) taken = omega arith
has_level (Hvector count block stride old) taken = omega arith
has_level (Indexed blocks old) taken = omega arith
has_level (Hindexed blocks old) taken = omega arith
has_level (IndexedBlock block disps old) taken = omega arith
has_level (HindexedBlock block disps old) taken = omega arith
has_level (Resized lb extent old) taken = omega arith

pub falls : (n : Node) → Sound n → max (deep-Node n) 0 ≤ depth_of (view_of n)
falls n sound =
    let shown : depth_of (view_of n) ≡ levels_of n.form + deepest (olds_of n.form) = ap (λ (l : Layer). l.depth) (out-roll-Seen (layer_of n)) ∙ sound.depth in
    let same : deepest (shape.olds_of n.shape) ≡ deepest (olds_of n.form) = ap deepest sound.shape.olds in
    omega (arith, parted n, shape_falls n n.shape, form_falls n n.form, has_level n.form sound.shape.arguments, shown, same)
