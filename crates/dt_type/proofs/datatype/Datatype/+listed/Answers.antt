use mir.Syntax.{w128}
use mir.Val.{to_z, of_z}
use Rattle.std.specs.List.{AllByRecursion, flat_map}
use Rattle.std.proofs.Common.{◌≡◌, ◌∙◌, ◌<◌, List, length, sym, ap, subst, arith, rules}
use Rattle.std.proofs.lemmas.List.{take_all}
use Rattle.dt_map.specs.declared.bounds.Bounds.{Bounds}
use Rattle.dt_type.specs.declared.datatype.Seen.{Seen}
use Rattle.dt_type.specs.declared.shape.ShapeOf.{ShapeOf}
use Rattle.dt_type.specs.declared.shape.ShapePartOf.{ShapePartOf}
use Rattle.dt_type.specs.Datatype.{typemap_of, entries_of, depth_of}
use Rattle.dt_type.specs.Listing.{entries_at, HaveDisps}
use Rattle.dt_offsets.specs.Offsets.{grid_offsets, spot_offsets}
use Rattle.dt_type.specs.Shape.{olds_of}
use Rattle.dt_type.proofs.EntryFits.{all_of_map}
use Rattle.dt_type.proofs.Listings.{in_range_fits, whole, grid_listed, spots_listed, parts_listed, part_skipped, part_more, part_fits}
use Rattle.dt_type.proofs.Lookups.{part_entries, entries-parts}
use Rattle.dt_offsets.proofs.NearNumbers.{all_at}
use Rattle.dt_type.proofs.ShapeNumbers.{read_grid}
use Rattle.dt_type.proofs.datatype.Datatype.+listed.Goals as goal

pub push_grid-requires-clause-fit : goal.push_grid-requires-clause-fit
push_grid-requires-clause-fit t c =
    let one = c.deref.ensures.value ∙ c.in_ok-one-in-Grid.ensures in
    let seen = grid_listed c.shape.result.now (entries_of c.args.self.now) c.deref.result.now c.as_slice.result.now c.in-Grid.turns c.in-Grid.old c.shape.ensures.placed c.in-Grid.is c.as_slice.ensures one in
    subst HaveDisps seen (in_range_fits (typemap_of c.args.self.now) c.bounds-entries.ensures.in_range)

pub push_grid-requires-clause-entries : goal.push_grid-requires-clause-entries
push_grid-requires-clause-entries t c =
    let one = c.deref.ensures.value ∙ c.in_ok-one-in-Grid.ensures in
    let seen = grid_listed c.shape.result.now (entries_of c.args.self.now) c.deref.result.now c.as_slice.result.now c.in-Grid.turns c.in-Grid.old c.shape.ensures.placed c.in-Grid.is c.as_slice.ensures one in
    ap (λ (b : Bounds). b.elements) c.bounds-entries.ensures.value ∙ ap length seen

pub returns-in_ok-push_grid-in-Grid : goal.returns-in_ok-push_grid-in-Grid
returns-in_ok-push_grid-in-Grid t c =
    let one = c.deref.ensures.value ∙ c.in_ok-one-in-Grid.ensures in
    let seen = grid_listed c.shape.result.now (entries_of c.args.self.now) c.deref.result.now c.as_slice.result.now c.in-Grid.turns c.in-Grid.old c.shape.ensures.placed c.in-Grid.is c.as_slice.ensures one in
    whole c.new-out.result.items c.push_grid.new.out.items (entries_at (grid_offsets c.as_slice.result.now) c.deref.result.now) (entries_of c.args.self.now)
    c.in_ok-push_grid-in-Grid.ensures c.new-out.ensures.items seen

pub push_spots-requires-clause-fit : goal.push_spots-requires-clause-fit
push_spots-requires-clause-fit t c =
    let one = c.deref-in-Each.ensures.value ∙ c.in_ok-one-in-Each.ensures in
    let seen = spots_listed c.shape.result.now (entries_of c.args.self.now) c.deref-in-Each.result.now c.as_slice-in-Each.result.now c.in-Each.spots c.in-Each.old c.shape.ensures.placed c.in-Each.is c.as_slice-in-Each.ensures one in
    subst HaveDisps seen (in_range_fits (typemap_of c.args.self.now) c.bounds-entries.ensures.in_range)

pub returns-in_ok-push_spots-in-Each : goal.returns-in_ok-push_spots-in-Each
returns-in_ok-push_spots-in-Each t c =
    let one = c.deref-in-Each.ensures.value ∙ c.in_ok-one-in-Each.ensures in
    let seen = spots_listed c.shape.result.now (entries_of c.args.self.now) c.deref-in-Each.result.now c.as_slice-in-Each.result.now c.in-Each.spots c.in-Each.old c.shape.ensures.placed c.in-Each.is c.as_slice-in-Each.ensures one in
    whole c.new-out.result.items c.push_spots.new.out.items (entries_at (spot_offsets c.as_slice-in-Each.result.now) c.deref-in-Each.result.now) (entries_of c.args.self.now)
    c.in_ok-push_spots-in-Each.ensures c.new-out.ensures.items seen

pub parts-preserved-then-part-eq0 : goal.parts-preserved-then-part-eq0
parts-preserved-then-part-eq0 t c =
    part_skipped c.as_slice-part-items.result.now c.parts.part-index c.part-item.result c.parts-test.true c.part-item.is c.parts.out.items c.parts.invariant c.if-part-eq0.true

pub listed-requires-in-parts : goal.listed-requires-in-parts
listed-requires-in-parts t c =
    let p : ShapePartOf Seen = c.part-item.result in
    let P : Seen → Type 0 = λ old. depth_of old < depth_of c.args.self.now in
    let Q : ShapePartOf Seen → Type 0 = λ p. P p.old in
    let olds : AllByRecursion P (olds_of c.shape.result.now) = c.shape.ensures.below in
    let here = subst (λ (s : ShapeOf Seen). AllByRecursion P (olds_of s)) c.in-Seq.is olds in
    let all = all_of_map P (λ (p : ShapePartOf Seen). p.old) c.in-Seq.parts here in
    let listed = subst (λ (ps : List (ShapePartOf Seen)). AllByRecursion Q ps) (sym c.as_slice-part-items.ensures) all in
    let low = subst Q (sym c.part-item.is) (all_at Q c.as_slice-part-items.result.now c.parts.part-index p listed c.parts-test.true) in
    (omega (arith, low, c.decreases), tt)

pub push_row-requires-clause-fit : goal.push_row-requires-clause-fit
push_row-requires-clause-fit t c =
    let p : ShapePartOf Seen = c.part-item.result in
    let ps = c.as_slice-part-items.result.now in
    let first : to_z w128 (of_z w128 p.first) ≡ p.first = search rules in
    let step : to_z w128 (of_z w128 p.step) ≡ p.step = search rules in
    let one = c.deref-in-parts.ensures.value ∙ c.in_ok-one-in-Seq.ensures in
    let seen = parts_listed c.shape.result.now (entries_of c.args.self.now) ps c.in-Seq.parts c.shape.ensures.placed c.in-Seq.is c.as_slice-part-items.ensures in
    let all = subst HaveDisps seen (in_range_fits (typemap_of c.args.self.now) c.bounds-entries.ensures.in_range) in
    simp (first, step) (part_fits ps c.parts.part-index p c.parts-test.true c.part-item.is c.deref-in-parts.result.now one all)

pub parts-preserved : goal.parts-preserved
parts-preserved t c =
    let p : ShapePartOf Seen = c.part-item.result in
    let first : to_z w128 (of_z w128 p.first) ≡ p.first = search rules in
    let step : to_z w128 (of_z w128 p.step) ≡ p.step = search rules in
    let one = c.deref-in-parts.ensures.value ∙ c.in_ok-one-in-Seq.ensures in
    part_more c.as_slice-part-items.result.now c.parts.part-index p c.parts-test.true c.part-item.is c.parts.out.items c.push_row.new.out.items c.deref-in-parts.result.now
    c.parts.invariant one (simp (first, step) at c.in_ok-push_row-in-Seq.ensures)

pub returns-after-parts : goal.returns-after-parts
returns-after-parts t c =
    let ps = c.as_slice-part-items.result.now in
    let seen = parts_listed c.shape.result.now (entries_of c.args.self.now) ps c.in-Seq.parts c.shape.ensures.placed c.in-Seq.is c.as_slice-part-items.ensures in
    c.parts.invariant ∙ ap (flat_map part_entries) (take_all c.parts.part-index ps c.parts-test.false) ∙ sym (entries-parts ps) ∙ sym seen

pub push_grid-requires-clause-turns : goal.push_grid-requires-clause-turns
push_grid-requires-clause-turns t c = (read_grid c.shape.result.now c.as_slice.result.now c.in-Grid.turns c.in-Grid.old c.shape.ensures.beside_form.numbers c.in-Grid.is c.as_slice.ensures).0

pub push_grid-requires-clause-near : goal.push_grid-requires-clause-near
push_grid-requires-clause-near t c = (read_grid c.shape.result.now c.as_slice.result.now c.in-Grid.turns c.in-Grid.old c.shape.ensures.beside_form.numbers c.in-Grid.is c.as_slice.ensures).1
