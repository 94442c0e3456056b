use mir.Syntax.{w128}
use mir.Val.{to_z, of_z}
use Rattle.std.specs.List.{AllByRecursion, flat_map}
use Rattle.std.proofs.Common.{◌≡◌, ◌∙◌, ◌<◌, ◌-ℤ◌, ℤ, List, refl, sym, ap, subst, arith, rules}
use Rattle.std.proofs.lemmas.Int.{to_z-of_z}
use Rattle.std.proofs.lemmas.List.{take_all}
use Rattle.dt_map.specs.declared.entry.Entry.{Entry}
use Rattle.dt_map.specs.Bounds.{true_lb, true_ub}
use Rattle.dt_map.specs.Constructors.{copies_at}
use Rattle.dt_map.specs.Typemap.{Marked}
use Rattle.dt_offsets.specs.Offsets.{grid_offsets, spot_offsets}
use Rattle.dt_offsets.proofs.NearNumbers.{all_at}
use Rattle.dt_type.specs.declared.datatype.Seen.{Seen}
use Rattle.dt_type.specs.declared.shape.ShapeOf.{ShapeOf}
use Rattle.dt_type.specs.declared.shape.ShapeOf.TheVariants.{Seq}
use Rattle.dt_type.specs.declared.shape.ShapePartOf.{ShapePartOf}
use Rattle.dt_type.specs.Datatype.{typemap_of, entries_of, depth_of}
use Rattle.dt_type.specs.Shape.{placed_by, placed_parts, olds_of}
use Rattle.dt_type.proofs.EntryFits.{all_of_map}
use Rattle.dt_type.proofs.Lookups.{part_entries, entries-parts}
use Rattle.dt_elems.specs.Apart.{AreApart, AreSpread}
use Rattle.dt_elems.proofs.Rising.{if_is, apart_more}
use Rattle.dt_elems.proofs.Spreading.{apart_placed}
use Rattle.dt_elems.proofs.apart.+is_apart.Goals as goal

-- what copies of an old type place, as the shape says
of_copies : (es : List Entry) (xs : List ℤ) (m : Marked) (room : ℤ) → es ≡ (copies_at xs m).entries → AreApart m.entries → room ≡ true_ub m.entries -ℤ true_lb m.entries → AreSpread room xs → AreApart es
of_copies es xs m room seen apart is spread = subst AreApart (sym seen) (apart_placed xs m apart (subst (λ r. AreSpread r xs) is spread))

pub returns-then-is_apart : goal.returns-then-is_apart
returns-then-is_apart t c =
    let xs = grid_offsets c.as_slice.result.now in
    let m = typemap_of c.in-Grid.old in
    let fits = to_z-of_z w128 c.true_extent.result (record { sfits = c.true_extent.type_inv }) in
    let seen : entries_of c.args.ty.now ≡ (copies_at xs m).entries =
    sym c.shape.ensures.placed ∙ ap (λ (s : ShapeOf Seen). (placed_by s).entries) c.in-Grid.is ∙ ap (λ ts. (copies_at (grid_offsets ts) m).entries) (sym c.as_slice.ensures) in
    λ ok.
    of_copies (entries_of c.args.ty.now) xs m c.true_extent.result seen (c.if-is_apart.ensures refl) c.true_extent.ensures.value
    (if_is c.grid_room.result (AreSpread c.true_extent.result xs) (sym c.is_some.ensures ∙ ok) (simp fits at c.grid_room.ensures.spread))

pub returns-then-is_apart-2 : goal.returns-then-is_apart-2
returns-then-is_apart-2 t c =
    let xs = spot_offsets c.as_slice-then-is_apart-2.result.now in
    let m = typemap_of c.in-Each.old in
    let room = c.true_extent-then-is_apart-2.result in
    let fits = to_z-of_z w128 room (record { sfits = c.true_extent-then-is_apart-2.type_inv }) in
    let seen : entries_of c.args.ty.now ≡ (copies_at xs m).entries =
    sym c.shape.ensures.placed ∙ ap (λ (s : ShapeOf Seen). (placed_by s).entries) c.in-Each.is ∙ ap (λ ss. (copies_at (spot_offsets ss) m).entries) (sym c.as_slice-then-is_apart-2.ensures) in
    λ ok.
    of_copies (entries_of c.args.ty.now) xs m room seen (c.if-is_apart-2.ensures refl) c.true_extent-then-is_apart-2.ensures.value (simp fits at (c.spots_are_spread.ensures ok))

pub is_apart-requires-in-Some-1 : goal.is_apart-requires-in-Some-1
is_apart-requires-in-Some-1 t c =
    let p : ShapePartOf Seen = c.part-item.result in
    let P : Seen → Type 0 = λ old. depth_of old < depth_of c.args.ty.now in
    let Q : ShapePartOf Seen → Type 0 = λ p. P p.old in
    let olds : AllByRecursion P (olds_of c.shape.result.now) = c.shape.ensures.below in
    let here = subst (λ (s : ShapeOf Seen). AllByRecursion P (olds_of s)) c.in-Seq.is olds in
    let all = all_of_map P (λ (p : ShapePartOf Seen). p.old) c.in-Seq.parts here in
    let listed = subst (λ (ps : List (ShapePartOf Seen)). AllByRecursion Q ps) (sym c.as_slice-part-items.ensures) all in
    let low = subst Q (sym c.part-item.is) (all_at Q c.as_slice-part-items.result.now c.parts.part-index p listed c.parts-test.true) in
    (omega (arith, low, c.decreases), tt)

pub parts-preserved : goal.parts-preserved
parts-preserved t c =
    let ps : List (ShapePartOf Seen) = c.as_slice-part-items.result.now in
    let p : ShapePartOf Seen = c.part-item.result in
    let end : to_z w128 (of_z w128 c.in-Some.end) ≡ c.in-Some.end = search rules in
    let before = simp c.parts.next-is at c.parts.invariant in
    let part = simp c.parts.next-is at (c.in-Some.ensures (c.if-is_apart-3.ensures refl)) in
    simp end (apart_more part_entries ps c.parts.part-index p p c.parts-test.true c.part-item.is c.parts.next c.in-Some.end before.0 before.1 part)

seen_parts : (s : ShapeOf Seen) (es : List Entry) (parts slice : List (ShapePartOf Seen)) → (placed_by s).entries ≡ es → s ≡ Seq parts → slice ≡ parts → es ≡ flat_map part_entries slice
seen_parts s es parts slice placed is same = sym placed ∙ ap (λ (s : ShapeOf Seen). (placed_by s).entries) is ∙ ap (λ ps. (placed_parts ps).entries) (sym same) ∙ entries-parts slice

pub returns-after-parts : goal.returns-after-parts
returns-after-parts t c =
    let ps : List (ShapePartOf Seen) = c.as_slice-part-items.result.now in
    let seen = seen_parts c.shape.result.now (entries_of c.args.ty.now) c.in-Seq.parts ps c.shape.ensures.placed c.in-Seq.is c.as_slice-part-items.ensures in
    λ ok. subst AreApart (ap (flat_map part_entries) (take_all c.parts.part-index ps c.parts-test.false) ∙ sym seen) c.parts.invariant.0
