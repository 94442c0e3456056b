use mir.Syntax.{w128}
use mir.Val.{to_z, of_z}
use Rattle.std.specs.Prelude.{slice_get}
use Rattle.std.specs.List.{AllByRecursion}
use Rattle.std.specs.Option.{option_map}
use Rattle.std.proofs.Common.{◌≡◌, ◌∙◌, sym, ap, subst, arith, rules, ◌<◌, List}
use Rattle.dt_map.specs.Constructors.{copies_at}
use Rattle.dt_map.specs.Typemap.{shift_entry}
use Rattle.dt_type.specs.declared.datatype.Seen.{Seen}
use Rattle.dt_type.specs.declared.shape.ShapePartOf.{ShapePartOf}
use Rattle.dt_type.specs.declared.shape.ShapeOf.{ShapeOf}
use Rattle.dt_type.specs.Datatype.{typemap_of, entries_of, depth_of}
use Rattle.dt_type.specs.Shape.{placed_by, placed_parts, olds_of}
use Rattle.dt_offsets.specs.Offsets.{row_offsets, grid_offsets, spot_offsets}
use Rattle.dt_offsets.proofs.Products.{factor_back}
use Rattle.dt_type.proofs.EntryFits.{moved_fits, all_of_map}
use Rattle.dt_type.proofs.ShapeNumbers.{read_grid}
use Rattle.dt_type.proofs.datatype.Datatype.+entry_at.Goals as goal

pub moved-requires : goal.moved-requires
moved-requires t c =
    let back : to_z w128 (of_z w128 c.in_grid-offset.result.0) ≡ c.in_grid-offset.result.0 = search rules in
    let seen : slice_get (entries_of c.args.self.now) c.args.entry ≡ option_map (shift_entry (to_z w128 (of_z w128 c.in_grid-offset.result.0))) c.entry_at.result =
    ap (λ es. slice_get es c.args.entry) (sym c.shape.ensures.placed)
    ∙ ap (λ (s : ShapeOf Seen). slice_get (placed_by s).entries c.args.entry) c.in-Grid.is
    ∙ ap (λ ts. slice_get (copies_at (grid_offsets ts) (typemap_of c.in-Grid.old)).entries c.args.entry) (sym c.as_slice.ensures)
    ∙ c.in_grid-offset.ensures
    ∙ ap (λ x. option_map (shift_entry x) (slice_get (entries_of c.in-Grid.old) c.in_grid-offset.result.1)) (sym back)
    ∙ ap (option_map (shift_entry (to_z w128 (of_z w128 c.in_grid-offset.result.0)))) (sym c.entry_at.ensures) in
    moved_fits (typemap_of c.args.self.now) c.bounds-entries.ensures.in_range c.args.entry (to_z w128 (of_z w128 c.in_grid-offset.result.0)) c.entry_at.result seen

pub moved-requires-in-Each : goal.moved-requires-in-Each
moved-requires-in-Each t c =
    let back : to_z w128 (of_z w128 c.in_spots-offset.result.0) ≡ c.in_spots-offset.result.0 = search rules in
    let seen : slice_get (entries_of c.args.self.now) c.args.entry ≡ option_map (shift_entry (to_z w128 (of_z w128 c.in_spots-offset.result.0))) c.entry_at-in-Each.result =
    ap (λ es. slice_get es c.args.entry) (sym c.shape.ensures.placed)
    ∙ ap (λ (s : ShapeOf Seen). slice_get (placed_by s).entries c.args.entry) c.in-Each.is
    ∙ ap (λ ss. slice_get (copies_at (spot_offsets ss) (typemap_of c.in-Each.old)).entries c.args.entry) (sym c.as_slice-in-Each.ensures)
    ∙ c.in_spots-offset.ensures
    ∙ ap (λ x. option_map (shift_entry x) (slice_get (entries_of c.in-Each.old) c.in_spots-offset.result.1)) (sym back)
    ∙ ap (option_map (shift_entry (to_z w128 (of_z w128 c.in_spots-offset.result.0)))) (sym c.entry_at-in-Each.ensures) in
    moved_fits (typemap_of c.args.self.now) c.bounds-entries.ensures.in_range c.args.entry (to_z w128 (of_z w128 c.in_spots-offset.result.0)) c.entry_at-in-Each.result seen

pub entry_at-requires-in-Seq : goal.entry_at-requires-in-Seq
entry_at-requires-in-Seq t c =
    let parts : List (ShapePartOf Seen) = c.in-Seq.parts in
    let P : Seen → Type 0 = λ old. depth_of old < depth_of c.args.self.now in
    let olds : AllByRecursion P (olds_of c.shape.result.now) = c.shape.ensures.below in
    let here = subst (λ (s : ShapeOf Seen). AllByRecursion P (olds_of s)) c.in-Seq.is olds in
    let all = all_of_map P (λ (p : ShapePartOf Seen). p.old) parts here in
    let low = c.part_at-left.ensures.below (depth_of c.args.self.now) (subst (λ (ps : List (ShapePartOf Seen)). AllByRecursion (λ p. P p.old) ps) (sym c.as_slice-in-Seq.ensures) all) in
    (omega (arith, low, c.decreases), tt)

pub moved-requires-in-Seq : goal.moved-requires-in-Seq
moved-requires-in-Seq t c =
    let p : ShapePartOf Seen = c.part_at-left.result.0.now in
    let k = c.part_at-left.result.1 in
    let first = factor_back p.first c.part_at-left.ensures.part.first in
    let step = factor_back p.step c.part_at-left.ensures.part.step in
    let back : to_z w128 (of_z w128 c.in_row-offset.result.0) ≡ c.in_row-offset.result.0 = search rules in
    let seen : slice_get (entries_of c.args.self.now) c.args.entry ≡ option_map (shift_entry (to_z w128 (of_z w128 c.in_row-offset.result.0))) c.entry_at-in-Seq.result =
    ap (λ es. slice_get es c.args.entry) (sym c.shape.ensures.placed)
    ∙ ap (λ (s : ShapeOf Seen). slice_get (placed_by s).entries c.args.entry) c.in-Seq.is
    ∙ ap (λ ps. slice_get (placed_parts ps).entries c.args.entry) (sym c.as_slice-in-Seq.ensures)
    ∙ c.part_at-left.ensures.entry
    ∙ ap (λ x. slice_get (copies_at (row_offsets x p.copies p.step) (typemap_of p.old)).entries k) (sym first)
    ∙ ap (λ x. slice_get (copies_at (row_offsets (to_z w128 (of_z w128 p.first)) p.copies x) (typemap_of p.old)).entries k) (sym step)
    ∙ c.in_row-offset.ensures
    ∙ ap (λ x. option_map (shift_entry x) (slice_get (entries_of p.old) c.in_row-offset.result.1)) (sym back)
    ∙ ap (option_map (shift_entry (to_z w128 (of_z w128 c.in_row-offset.result.0)))) (sym c.entry_at-in-Seq.ensures) in
    moved_fits (typemap_of c.args.self.now) c.bounds-entries.ensures.in_range c.args.entry (to_z w128 (of_z w128 c.in_row-offset.result.0)) c.entry_at-in-Seq.result seen

pub returns-in-Seq : goal.returns-in-Seq
returns-in-Seq t c =
    let p : ShapePartOf Seen = c.part_at-left.result.0.now in
    let k = c.part_at-left.result.1 in
    let first = factor_back p.first c.part_at-left.ensures.part.first in
    let step = factor_back p.step c.part_at-left.ensures.part.step in
    let back : to_z w128 (of_z w128 c.in_row-offset.result.0) ≡ c.in_row-offset.result.0 = search rules in
    let seen : slice_get (entries_of c.args.self.now) c.args.entry ≡ option_map (shift_entry (to_z w128 (of_z w128 c.in_row-offset.result.0))) c.entry_at-in-Seq.result =
    ap (λ es. slice_get es c.args.entry) (sym c.shape.ensures.placed)
    ∙ ap (λ (s : ShapeOf Seen). slice_get (placed_by s).entries c.args.entry) c.in-Seq.is
    ∙ ap (λ ps. slice_get (placed_parts ps).entries c.args.entry) (sym c.as_slice-in-Seq.ensures)
    ∙ c.part_at-left.ensures.entry
    ∙ ap (λ x. slice_get (copies_at (row_offsets x p.copies p.step) (typemap_of p.old)).entries k) (sym first)
    ∙ ap (λ x. slice_get (copies_at (row_offsets (to_z w128 (of_z w128 p.first)) p.copies x) (typemap_of p.old)).entries k) (sym step)
    ∙ c.in_row-offset.ensures
    ∙ ap (λ x. option_map (shift_entry x) (slice_get (entries_of p.old) c.in_row-offset.result.1)) (sym back)
    ∙ ap (option_map (shift_entry (to_z w128 (of_z w128 c.in_row-offset.result.0)))) (sym c.entry_at-in-Seq.ensures) in
    c.moved-in-Seq.ensures ∙ sym seen

pub in_grid-offset-requires-clause-turns : goal.in_grid-offset-requires-clause-turns
in_grid-offset-requires-clause-turns t c = (read_grid c.shape.result.now c.as_slice.result.now c.in-Grid.turns c.in-Grid.old c.shape.ensures.beside_form.numbers c.in-Grid.is c.as_slice.ensures).0

pub in_grid-offset-requires-clause-near : goal.in_grid-offset-requires-clause-near
in_grid-offset-requires-clause-near t c = (read_grid c.shape.result.now c.as_slice.result.now c.in-Grid.turns c.in-Grid.old c.shape.ensures.beside_form.numbers c.in-Grid.is c.as_slice.ensures).1
