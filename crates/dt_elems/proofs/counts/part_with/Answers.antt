use Rattle.std.specs.List.{flat_map}
use Rattle.std.proofs.Common.{◌+◌, ◌-◌, ◌<◌, ◌≤◌, drop, sym, ap, ◌∙◌, arith}
use Rattle.dt_map.specs.Packed.{total}
use Rattle.dt_map.specs.Setting.{done}
use Rattle.dt_type.specs.declared.datatype.Seen.{Seen}
use Rattle.dt_type.specs.declared.shape.ShapePartOf.{ShapePartOf}
use Rattle.dt_type.specs.Shape.{placed_parts}
use Rattle.dt_type.proofs.Lookups.{part_entries, entries-parts}
use Rattle.dt_elems.proofs.Cuts.{ends_here, ends_later, cut_later}
use Rattle.dt_elems.proofs.Receiving.{done-le}
use Rattle.dt_elems.proofs.counts.part_with.Goals as goal

pub loop-part-init : goal.loop-part-init
loop-part-init c =
    let same = entries-parts c.args.parts.now in
    let leading = ap (λ es. done c.args.rep es c.args.bytes) same in
    let size = ap (total c.args.rep) same in
    let cut = c.requires.within in
    (omega arith, omega arith)

pub returns-then-from-size-clause-elements : goal.returns-then-from-size-clause-elements
returns-then-from-size-clause-elements c =
    let p : ShapePartOf Seen = c.part-item.result in
    let left = c.from.ensures in
    let size = c.part_size-size.ensures in
    let test = c.if-from-size.true in
    let cut : c.loop-part.left < total c.args.rep (part_entries p) = omega arith in
    sym c.loop-part.invariant.0
    ∙ ap (λ n. c.loop-part.before + n) (ends_here c.args.rep part_entries c.args.parts.now c.loop-part.part-index p p c.loop-part-test.true c.part-item.is c.loop-part.left cut)

pub overflow_add-before : goal.overflow_add-before
overflow_add-before c =
    let p : ShapePartOf Seen = c.part-item.result in
    let left = c.from.ensures in
    let size = c.part_size-size.ensures in
    let test = c.if-from-size.false in
    let fits : total c.args.rep (part_entries p) ≤ c.loop-part.left = omega arith in
    let split = ends_later c.args.rep part_entries c.args.parts.now c.loop-part.part-index p p c.loop-part-test.true c.part-item.is c.loop-part.left fits in
    let counted = c.loop-part.invariant.0 in
    let most = done-le c.args.rep (placed_parts c.args.parts.now).entries c.args.bytes in
    let here = c.part_elements-before.ensures in
    omega (arith, c.ranges.bytes.fits)

pub loop-part-preserved : goal.loop-part-preserved
loop-part-preserved c =
    let p : ShapePartOf Seen = c.part-item.result in
    let i = c.loop-part.part-index in
    let left = c.from.ensures in
    let size = c.part_size-size.ensures in
    let test = c.if-from-size.false in
    let fits : total c.args.rep (part_entries p) ≤ c.loop-part.left = omega arith in
    let split = ends_later c.args.rep part_entries c.args.parts.now i p p c.loop-part-test.true c.part-item.is c.loop-part.left fits in
    let cut = cut_later c.args.rep part_entries c.args.parts.now i p p c.loop-part-test.true c.part-item.is c.loop-part.left c.loop-part.invariant.1 fits in
    let counted = c.loop-part.invariant.0 in
    let here = c.part_elements-before.ensures in
    let less = ap (λ n. c.loop-part.left - n) size in
    (omega (arith, ap (done c.args.rep (flat_map part_entries (drop (i + 1) c.args.parts.now))) less), omega arith)
