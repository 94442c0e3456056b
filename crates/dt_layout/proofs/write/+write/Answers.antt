use mir.Syntax.{w128}
use mir.Val.{to_z, of_z}
use Rattle.std.specs.List.{AllByRecursion}
use Rattle.std.proofs.Common.{◌≡◌, ◌∙◌, ◌*◌, ◌++◌, ◌<◌, ◌≤◌, ◌^◌, [], ◌∷◌, List, length, take, get_or, pos, sym, ap, subst, arith, rules}
use Rattle.std.proofs.lemmas.List.{take_all}
use Rattle.dt_layout.specs.Body.{one, each, seq, no_parts}
use Rattle.dt_layout.specs.Written.{AreLevels, IsWritten, AreWritten}
use Rattle.dt_map.specs.Bounds.{size_of}
use Rattle.dt_map.specs.Typemap.{shift}
use Rattle.dt_offsets.proofs.NearNumbers.{all_at}
use Rattle.dt_offsets.proofs.Products.{factor_back}
use Rattle.dt_offsets.specs.declared.turns.Spot.{Spot}
use Rattle.dt_offsets.specs.declared.turns.Turns.{Turns}
use Rattle.dt_offsets.specs.Offsets.{turn_offsets, grid_offsets, row_offsets}
use Rattle.dt_type.specs.declared.datatype.Seen.{Seen}
use Rattle.dt_type.specs.declared.shape.ShapeOf.{ShapeOf}
use Rattle.dt_type.specs.declared.shape.ShapeOf.TheVariants.{Each, Seq}
use Rattle.dt_type.specs.declared.shape.ShapePartOf.{ShapePartOf}
use Rattle.dt_type.specs.Datatype.{entries_of, depth_of}
use Rattle.dt_type.specs.Conditions.{HasNumbers}
use Rattle.dt_type.proofs.ShapeNumbers.{grid_turns}
use Rattle.dt_layout.specs.Merging.{StandIn}
use Rattle.dt_offsets.specs.Near.{AreTurns}
use Rattle.dt_type.specs.Shape.{items_of, olds_of, placed_by, placed_parts}
use Rattle.dt_type.proofs.EntryFits.{all_of_map}
use Rattle.dt_layout.proofs.Arms.{entries_grid, entries_spot, entries_part, few_grid, few_one, inner_levels, inner_written, core_one, core_each, core_seq, some_each, small_under, sizes_told}
use Rattle.dt_layout.proofs.Assembly.{single, one_placed, each_placed, seq_placed, finished, next_part, part_small, part_some}
use Rattle.dt_layout.proofs.Copies.{copies_at_none}
use Rattle.dt_layout.proofs.Under.{some_offsets, stand_levels, stand_written, no_level, row_level, some_one}
use Rattle.dt_layout.proofs.PartLists.{add_part, number-add, none_written, part_skipped, part_written, loop_of, row_of}
use Rattle.dt_layout.proofs.Weights.{IsHandy, whole_handy, olds_handy}
use Rattle.dt_layout.proofs.write.+write.Goals as goal

pub deeper-requires-clause-turns : goal.deeper-requires-clause-turns
deeper-requires-clause-turns t c =
    let numbers = subst HasNumbers c.in-Grid.is c.shape.ensures.beside_form.numbers in
    subst (AllByRecursion AreTurns) (sym c.as_slice.ensures) (grid_turns c.in-Grid.turns numbers.0)

pub write-requires : goal.write-requires
write-requires t c =
    let ty = c.args.ty.now in
    let s = c.shape.result.now in
    let known = c.shape.ensures in
    let levels = c.args.levels.items in
    let turns = c.in-Grid.turns in
    let old = c.in-Grid.old in
    let numbers = subst HasNumbers c.in-Grid.is known.beside_form.numbers in
    let below = subst (λ (s : ShapeOf Seen). AllByRecursion (λ old. depth_of old < depth_of ty) (olds_of s)) c.in-Grid.is known.below in
    let handy = subst (λ (s : ShapeOf Seen). AllByRecursion IsHandy (olds_of s)) c.in-Grid.is (olds_handy ty s known.beside_form known.whole) in
    let low = below.0 in
    let entries = entries_grid ty s known.made known.beside_form known.placed turns old c.in-Grid.is in
    let inner = inner_levels ty s known.made known.beside_form known.placed levels turns old entries (grid_turns turns numbers.0) numbers.1 (whole_handy ty known.whole) handy.0 c.requires in
    let stand = subst (λ ts. StandIn (levels ++ ts) c.in_ok-deeper-in-Grid.field-0.items) c.as_slice.ensures c.in_ok-deeper-in-Grid.ensures.stand in
    (omega (arith, low, c.decreases), stand_levels (levels ++ turns) c.in_ok-deeper-in-Grid.field-0.items old inner stand)

pub close-requires-clause-small : goal.close-requires-clause-small
close-requires-clause-small t c =
    let sizes = ap (λ (s : _). s.native) c.sizes_by.ensures.value in
    let settled = c.in_ok-levels-in-One.levels.items in
    let are = stand_levels c.args.levels.items settled c.args.ty.now c.requires c.in_ok-levels-in-One.ensures.stand in
    subst (λ (ts : List Turns). length (grid_offsets ts) * c.sizes_by.result.native ≤ 2 ^ 62) (sym c.deref.ensures.value) (small_under settled c.args.ty.now c.sizes_by.result.native are sizes)

pub close-requires-clause-some : goal.close-requires-clause-some
close-requires-clause-some t c =
    let settled = c.in_ok-levels-in-One.levels.items in
    let are = stand_levels c.args.levels.items settled c.args.ty.now c.requires c.in_ok-levels-in-One.ensures.stand in
    subst (λ (ts : List Turns). 0 < length (grid_offsets ts)) (sym c.deref.ensures.value) (some_offsets settled c.args.ty.now are)

pub write-requires-in-Each : goal.write-requires-in-Each
write-requires-in-Each t c =
    let ty = c.args.ty.now in
    let s = c.shape.result.now in
    let known = c.shape.ensures in
    let below = subst (λ (s : ShapeOf Seen). AllByRecursion (λ old. depth_of old < depth_of ty) (olds_of s)) c.in-Each.is known.below in
    let handy = subst (λ (s : ShapeOf Seen). AllByRecursion IsHandy (olds_of s)) c.in-Each.is (olds_handy ty s known.beside_form known.whole) in
    let low = below.0 in
    let some = some_each ty s known.made known.beside_form known.placed c.in-Each.spots c.in-Each.old c.in-Each.is (some_one (grid_offsets c.args.levels.items) (entries_of ty) c.requires.some) in
    let small = handy.0.small in
    (omega (arith, low, c.decreases), subst (λ ts. AreLevels ts c.in-Each.old) (sym c.new.ensures.items) (no_level c.in-Each.old some (omega (arith, small))))

pub close-requires-in-Each-clause-small : goal.close-requires-in-Each-clause-small
close-requires-in-Each-clause-small t c =
    let sizes = ap (λ (s : _). s.native) c.sizes_by-in-Each-2.ensures.value in
    subst (λ (ts : List Turns). length (grid_offsets ts) * c.sizes_by-in-Each-2.result.native ≤ 2 ^ 62) (sym c.deref-in-Each.ensures.value)
    (small_under c.args.levels.items c.args.ty.now c.sizes_by-in-Each-2.result.native c.requires sizes)

pub parts-init : goal.parts-init
parts-init t c = (no_parts, none_written _, omega arith, omega arith)

pub parts-preserved-then-not-has_entries : goal.parts-preserved-then-not-has_entries
parts-preserved-then-not-has_entries t c =
    let ps = c.as_slice-part-items.result.now in
    let p = c.part-item.result in
    let known = c.parts.invariant in
    let few = known.3 in (
      known.0,
      subst (λ ps. AreWritten ps c.open-in-Seq.new.out.items c.parts.out.items known.0) (sym (next_part ps c.parts.part-index p c.parts-test.true c.part-item.is))
          (part_skipped (take c.parts.part-index ps) p c.open-in-Seq.new.out.items c.parts.out.items known.0 known.1 (search rules)),
      known.2,
      omega (arith, few),
    )

pub write-requires-in-parts : goal.write-requires-in-parts
write-requires-in-parts t c =
    let ty = c.args.ty.now in
    let s = c.shape.result.now in
    let known = c.shape.ensures in
    let ps = c.as_slice-part-items.result.now in
    let p : ShapePartOf Seen = c.part-item.result in
    let P : ShapePartOf Seen → Type 0 = λ p. depth_of p.old < depth_of ty in
    let Q : ShapePartOf Seen → Type 0 = λ p. IsHandy p.old in
    let below = all_of_map (λ old. depth_of old < depth_of ty) (λ (p : ShapePartOf Seen). p.old) c.in-Seq.parts (subst (λ (s : ShapeOf Seen). AllByRecursion (λ old. depth_of old < depth_of ty) (olds_of s)) c.in-Seq.is known.below) in
    let handy = all_of_map IsHandy (λ (p : ShapePartOf Seen). p.old) c.in-Seq.parts (subst (λ (s : ShapeOf Seen). AllByRecursion IsHandy (olds_of s)) c.in-Seq.is (olds_handy ty s known.beside_form known.whole)) in
    let lies_below = subst (λ (ps : List (ShapePartOf Seen)). AllByRecursion P ps) (sym c.as_slice-part-items.ensures) below in
    let are_handy = subst (λ (ps : List (ShapePartOf Seen)). AllByRecursion Q ps) (sym c.as_slice-part-items.ensures) handy in
    let low = subst P (sym c.part-item.is) (all_at P ps c.parts.part-index p lies_below c.parts-test.true) in
    let is_handy = subst Q (sym c.part-item.is) (all_at Q ps c.parts.part-index p are_handy c.parts-test.true) in
    let first : to_z w128 (of_z w128 p.first) ≡ p.first = search rules in
    let step : to_z w128 (of_z w128 p.step) ≡ p.step = search rules in
    let offsets : turn_offsets c.row-turns-in-parts.result ≡ row_of p = simp (first, step) at c.row-turns-in-parts.ensures.offsets in
    let has : (0 < p.copies) × (0 < length (entries_of p.old)) = search rules in
    let entries : (placed_parts ps).entries ≡ entries_of ty =
    ap (λ (ps : List (ShapePartOf Seen)). (placed_parts ps).entries) c.as_slice-part-items.ensures ∙ ap (λ (s : ShapeOf Seen). (placed_by s).entries) (sym c.in-Seq.is) ∙ known.placed in
    let piece = part_small ps c.parts.part-index p c.parts-test.true c.part-item.is in
    let whole = ap size_of entries in
    let small = (whole_handy ty known.whole).small in
    let level = row_level c.row-turns-in-parts.result p.old (row_of p) offsets c.row-turns-in-parts.ensures.numbers is_handy.fits (part_some p has.0 has.1) (omega (arith, piece, whole, small)) in
    (omega (arith, low, c.decreases), subst (λ ts. AreLevels ts p.old) (sym c.in_ok-one_level-in-Seq.ensures) level)

pub parts-preserved : goal.parts-preserved
parts-preserved t c =
    let ps = c.as_slice-part-items.result.now in
    let p : ShapePartOf Seen = c.part-item.result in
    let before = c.parts.invariant in
    let few = before.3 in
    let first : to_z w128 (of_z w128 p.first) ≡ p.first = search rules in
    let step : to_z w128 (of_z w128 p.step) ≡ p.step = search rules in
    let offsets : turn_offsets c.row-turns-in-parts.result ≡ row_of p = simp (first, step) at c.row-turns-in-parts.ensures.offsets in
    let appended = c.in_ok-write-in-Seq-2.ensures in
    let mid = c.parts.out.items in
    let new = c.write-in-parts.new.out.items in
    let body = subst (λ ts. IsWritten ts p.old mid new appended.0) c.in_ok-one_level-in-Seq.ensures appended.1 in
    let opened = loop_of appended.0 (appended.2 (subst (λ ts. 0 < length ts) (sym c.in_ok-one_level-in-Seq.ensures) (omega arith))) in
    let inside = subst (λ b. IsWritten (c.row-turns-in-parts.result ∷ []) p.old mid new b) opened.2 body in
    let counted = before.2 in
    let number = number-add before.0 opened.0 opened.1 in (
      add_part before.0 opened.0 opened.1,
      subst (λ ps. AreWritten ps c.open-in-Seq.new.out.items new (add_part before.0 opened.0 opened.1)) (sym (next_part ps c.parts.part-index p c.parts-test.true c.part-item.is))
          (part_written (take c.parts.part-index ps) p c.open-in-Seq.new.out.items mid before.0 before.1 c.row-turns-in-parts.result new opened.0 opened.1 offsets inside),
      omega (arith, counted, number),
      omega (arith, few),
    )

pub close-requires-in-Seq-clause-small : goal.close-requires-in-Seq-clause-small
close-requires-in-Seq-clause-small t c =
    let sizes = ap (λ (s : _). s.native) c.sizes_by-in-Seq.ensures.value in
    subst (λ (ts : List Turns). length (grid_offsets ts) * c.sizes_by-in-Seq.result.native ≤ 2 ^ 62) (sym c.deref-in-Seq.ensures.value)
    (small_under c.args.levels.items c.args.ty.now c.sizes_by-in-Seq.result.native c.requires sizes)

pub returns-in_ok-write-in-Grid : goal.returns-in_ok-write-in-Grid
returns-in_ok-write-in-Grid t c =
    let ty = c.args.ty.now in
    let s = c.shape.result.now in
    let known = c.shape.ensures in
    let before = c.args.out.now.items in
    let after = c.write.new.out.items in
    let levels = c.args.levels.items in
    let turns = c.in-Grid.turns in
    let old = c.in-Grid.old in
    let body = c.in_ok-write-in-Grid.ensures in
    let deeper = c.in_ok-deeper-in-Grid.field-0.items in
    let entries = entries_grid ty s known.made known.beside_form known.placed turns old c.in-Grid.is in
    let stand = subst (λ ts. StandIn (levels ++ ts) deeper) c.as_slice.ensures c.in_ok-deeper-in-Grid.ensures.stand in
    let inside = stand_written (levels ++ turns) deeper old before after body.0 stand body.1 in (
      body.0,
      inner_written ty s known.made known.beside_form known.placed levels turns old entries before after body.0 (ap olds_of c.in-Grid.is) (ap items_of c.in-Grid.is)
          (few_grid ty s known.made known.beside_form known.placed turns old c.in-Grid.is) inside,
      λ some. body.2 (c.in_ok-deeper-in-Grid.ensures.kept some),
    )

pub returns-in_ok-close-in-One : goal.returns-in_ok-close-in-One
returns-in_ok-close-in-One t c =
    let ty = c.args.ty.now in
    let known = c.shape.ensures in
    let old = c.args.out.now.items in
    let new = c.close.new.out.items in
    let levels = c.in_ok-levels-in-One.levels.items in
    let stand = c.in_ok-levels-in-One.ensures.stand in
    let are = stand_levels c.args.levels.items levels ty c.requires stand in
    let placed = one_placed old c.open.new.out.items c.push.new.self.items _ (length levels) c.in-One.kind (search rules) c.in_ok-open-in-One.ensures c.in_ok-push-in-One.ensures.items in
    let body =
    finished levels c.deref.result.now ty old c.push.new.self.items new _ c.sizes_by.result (one c.in-One.kind) c.deref.ensures.value are
    (core_one ty c.shape.result.now known.made known.beside_form known.placed c.in-One.kind c.in-One.is) (search rules) placed c.sizes_by.ensures.value c.in_ok-close-in-One.ensures.spelled in
    (body.0, stand_written c.args.levels.items levels ty old new body.0 stand body.1, λ some. body.2 (c.in_ok-levels-in-One.ensures.kept some))

-- a single row of copies
abbrev no_spot : Spot
no_spot = record { first = pos 0; copies = 0; step = pos 0 }

pub write-requires-then-len-eq1 : goal.write-requires-then-len-eq1
write-requires-then-len-eq1 t c =
    let ty = c.args.ty.now in
    let s = c.shape.result.now in
    let known = c.shape.ensures in
    let levels = c.args.levels.items in
    let old = c.in-Each.old in
    let ss = c.as_slice-then-len-eq1.result.now in
    let spot : Spot = get_or ss 0 no_spot in
    let alone : length ss ≡ 1 = search rules in
    let is : s ≡ Each (spot ∷ []) old = c.in-Each.is ∙ ap (λ (ss : List Spot). Each ss old) (sym c.as_slice-then-len-eq1.ensures ∙ single ss no_spot alone) in
    let numbers = (subst HasNumbers is known.beside_form.numbers).0 in
    let first = factor_back spot.first numbers.first in
    let step = factor_back spot.step numbers.step in
    let offsets : turn_offsets c.row-turns.result ≡ row_offsets spot.first spot.copies spot.step = simp (first, step) at c.row-turns.ensures.offsets in
    let entries = entries_spot ty s known.made known.beside_form known.placed spot c.row-turns.result old is offsets in
    let inside = c.in_ok-deepened-in-Each.field-0.items in
    let below = subst (λ (s : ShapeOf Seen). AllByRecursion (λ old. depth_of old < depth_of ty) (olds_of s)) is known.below in
    let handy = subst (λ (s : ShapeOf Seen). AllByRecursion IsHandy (olds_of s)) is (olds_handy ty s known.beside_form known.whole) in
    let low = below.0 in
    let inner = inner_levels ty s known.made known.beside_form known.placed levels (c.row-turns.result ∷ []) old entries (c.row-turns.ensures.numbers, tt) tt (whole_handy ty known.whole) handy.0 c.requires in
    (omega (arith, low, c.decreases), stand_levels (levels ++ c.row-turns.result ∷ []) inside old inner c.in_ok-deepened-in-Each.ensures.stand)

pub returns-then-len-eq1 : goal.returns-then-len-eq1
returns-then-len-eq1 t c =
    let ty = c.args.ty.now in
    let s = c.shape.result.now in
    let known = c.shape.ensures in
    let levels = c.args.levels.items in
    let old = c.in-Each.old in
    let ss = c.as_slice-then-len-eq1.result.now in
    let spot : Spot = get_or ss 0 no_spot in
    let alone : length ss ≡ 1 = search rules in
    let is : s ≡ Each (spot ∷ []) old = c.in-Each.is ∙ ap (λ (ss : List Spot). Each ss old) (sym c.as_slice-then-len-eq1.ensures ∙ single ss no_spot alone) in
    let numbers = (subst HasNumbers is known.beside_form.numbers).0 in
    let first = factor_back spot.first numbers.first in
    let step = factor_back spot.step numbers.step in
    let offsets : turn_offsets c.row-turns.result ≡ row_offsets spot.first spot.copies spot.step = simp (first, step) at c.row-turns.ensures.offsets in
    let entries = entries_spot ty s known.made known.beside_form known.placed spot c.row-turns.result old is offsets in
    let inside = c.in_ok-deepened-in-Each.field-0.items in
    let before = c.args.out.now.items in
    let after = c.write-then-len-eq1.new.out.items in
    let body = c.in_ok-write-in-Each.ensures in
    let written = stand_written (levels ++ c.row-turns.result ∷ []) inside old before after body.0 c.in_ok-deepened-in-Each.ensures.stand body.1 in (
      body.0,
      inner_written ty s known.made known.beside_form known.placed levels (c.row-turns.result ∷ []) old entries before after body.0 (ap olds_of is) (ap items_of is)
          (few_one ty s known.made known.beside_form known.placed) written,
      λ some. body.2 (c.in_ok-deepened-in-Each.ensures.kept some),
    )

pub write-requires-then-len-eq1-2 : goal.write-requires-then-len-eq1-2
write-requires-then-len-eq1-2 t c =
    let ty = c.args.ty.now in
    let s = c.shape.result.now in
    let known = c.shape.ensures in
    let levels = c.args.levels.items in
    let ps = c.as_slice-then-len-eq1-2.result.now in
    let p : ShapePartOf Seen = c.index-as_slice-0.result in
    let alone : length ps ≡ 1 = search rules in
    let only : ps ≡ p ∷ [] = single ps p alone ∙ ap (λ (q : ShapePartOf Seen). q ∷ []) (sym c.index-as_slice-0.is) in
    let is : s ≡ Seq (p ∷ []) = c.in-Seq.is ∙ ap (λ (ps : List (ShapePartOf Seen)). Seq ps) (sym c.as_slice-then-len-eq1-2.ensures ∙ only) in
    let numbers = (subst HasNumbers is known.beside_form.numbers).0 in
    let first = factor_back p.first numbers.first in
    let step = factor_back p.step numbers.step in
    let row = c.row-turns-then-len-eq1-2.result in
    let offsets : turn_offsets row ≡ row_of p = simp (first, step) at c.row-turns-then-len-eq1-2.ensures.offsets in
    let entries = entries_part ty s known.made known.beside_form known.placed p row is offsets in
    let inside = c.in_ok-deepened-in-Seq.field-0.items in
    let below = subst (λ (s : ShapeOf Seen). AllByRecursion (λ old. depth_of old < depth_of ty) (olds_of s)) is known.below in
    let handy = subst (λ (s : ShapeOf Seen). AllByRecursion IsHandy (olds_of s)) is (olds_handy ty s known.beside_form known.whole) in
    let low = below.0 in
    let inner = inner_levels ty s known.made known.beside_form known.placed levels (row ∷ []) p.old entries (c.row-turns-then-len-eq1-2.ensures.numbers, tt) tt (whole_handy ty known.whole) handy.0 c.requires in
    (omega (arith, low, c.decreases), stand_levels (levels ++ row ∷ []) inside p.old inner c.in_ok-deepened-in-Seq.ensures.stand)

pub returns-then-len-eq1-2 : goal.returns-then-len-eq1-2
returns-then-len-eq1-2 t c =
    let ty = c.args.ty.now in
    let s = c.shape.result.now in
    let known = c.shape.ensures in
    let levels = c.args.levels.items in
    let ps = c.as_slice-then-len-eq1-2.result.now in
    let p : ShapePartOf Seen = c.index-as_slice-0.result in
    let alone : length ps ≡ 1 = search rules in
    let only : ps ≡ p ∷ [] = single ps p alone ∙ ap (λ (q : ShapePartOf Seen). q ∷ []) (sym c.index-as_slice-0.is) in
    let is : s ≡ Seq (p ∷ []) = c.in-Seq.is ∙ ap (λ (ps : List (ShapePartOf Seen)). Seq ps) (sym c.as_slice-then-len-eq1-2.ensures ∙ only) in
    let numbers = (subst HasNumbers is known.beside_form.numbers).0 in
    let first = factor_back p.first numbers.first in
    let step = factor_back p.step numbers.step in
    let row = c.row-turns-then-len-eq1-2.result in
    let offsets : turn_offsets row ≡ row_of p = simp (first, step) at c.row-turns-then-len-eq1-2.ensures.offsets in
    let entries = entries_part ty s known.made known.beside_form known.placed p row is offsets in
    let inside = c.in_ok-deepened-in-Seq.field-0.items in
    let before = c.args.out.now.items in
    let after = c.write-then-len-eq1-2.new.out.items in
    let body = c.in_ok-write-in-Seq.ensures in
    let written = stand_written (levels ++ row ∷ []) inside p.old before after body.0 c.in_ok-deepened-in-Seq.ensures.stand body.1 in (
      body.0,
      inner_written ty s known.made known.beside_form known.placed levels (row ∷ []) p.old entries before after body.0 (ap olds_of is) (ap items_of is)
          (few_one ty s known.made known.beside_form known.placed) written,
      λ some. body.2 (c.in_ok-deepened-in-Seq.ensures.kept some),
    )

pub returns-in_ok-close-in-Each : goal.returns-in_ok-close-in-Each
returns-in_ok-close-in-Each t c =
    let ty = c.args.ty.now in
    let s = c.shape.result.now in
    let known = c.shape.ensures in
    let old = c.args.out.now.items in
    let levels = c.args.levels.items in
    let spots = c.in-Each.spots in
    let old_type = c.in-Each.old in
    let rows = c.push_spots.new.out.items in
    let mid = c.write-in-Each.new.out.items in
    let appended = c.in_ok-write-in-Each-2.ensures in
    let written = subst (λ ts. IsWritten ts old_type rows mid appended.0) c.new.ensures.items appended.1 in
    let handy = subst (λ (s : ShapeOf Seen). AllByRecursion IsHandy (olds_of s)) c.in-Each.is (olds_handy ty s known.beside_form known.whole) in
    let some = some_each ty s known.made known.beside_form known.placed spots old_type c.in-Each.is (some_one (grid_offsets levels) (entries_of ty) c.requires.some) in
    let core = core_each ty s known.made known.beside_form known.placed spots old_type rows mid appended.0 c.in-Each.is handy.0 some written in
    let inside = c.sizes_by-in-Each.ensures.value ∙ sizes_told (entries_of old_type) appended.0 (λ x. written.means x ∙ ap (shift x) (copies_at_none (entries_of old_type))) in
    let placed =
    each_placed old c.open-in-Each.new.out.items _ (length levels) (search rules) c.in_ok-open-in-Each.ensures rows mid c.seal.new.out.items _ _ c.sizes_by-in-Each.result c.as_slice-in-Each.result.now spots appended.0
    c.as_slice-in-Each.ensures c.in_ok-push_spots-in-Each.ensures written.spelled (search rules) inside (search rules) _ (search rules) c.in_ok-seal-in-Each.ensures in
    finished levels c.deref-in-Each.result.now ty old c.seal.new.out.items c.close-in-Each.new.out.items _ c.sizes_by-in-Each-2.result (each spots appended.0) c.deref-in-Each.ensures.value c.requires
    core (search rules) placed c.sizes_by-in-Each-2.ensures.value c.in_ok-close-in-Each.ensures.spelled

pub returns-in_ok-close-in-Seq : goal.returns-in_ok-close-in-Seq
returns-in_ok-close-in-Seq t c =
    let ty = c.args.ty.now in
    let s = c.shape.result.now in
    let known = c.shape.ensures in
    let old = c.args.out.now.items in
    let levels = c.args.levels.items in
    let ps = c.as_slice-part-items.result.now in
    let before = c.parts.invariant in
    let opened = c.open-in-Seq.new.out.items in
    let mid = c.parts.out.items in
    let all = subst (λ ps. AreWritten ps opened mid before.0) (take_all c.parts.part-index ps c.parts-test.false ∙ c.as_slice-part-items.ensures) before.1 in
    let core = core_seq ty s known.made known.beside_form known.placed c.in-Seq.parts opened mid before.0 c.in-Seq.is known.below all in
    let placed =
    seq_placed old opened _ (length levels) (search rules) c.in_ok-open-in-Seq.ensures mid c.seal-in-Seq.new.out.items _ _ c.parts.written before.0 all.spelled (search rules) before.2 (search rules) c.in_ok-seal-in-Seq.ensures in
    finished levels c.deref-in-Seq.result.now ty old c.seal-in-Seq.new.out.items c.close-in-Seq.new.out.items _ c.sizes_by-in-Seq.result (seq before.0) c.deref-in-Seq.ensures.value c.requires
    core (search rules) placed c.sizes_by-in-Seq.ensures.value c.in_ok-close-in-Seq.ensures.spelled
