use Rattle.std.specs.Prelude.{slice_get}
use Rattle.std.specs.List.{flat_map}
use Rattle.std.proofs.Common.{◌≡◌, ◌∙◌, sym, ap, arith, ◌-◌, ◌*◌, length, drop, ◌+◌}
use Rattle.dt_map.specs.declared.bounds.Bounds.{Bounds}
use Rattle.dt_type.specs.declared.datatype.Seen.{Seen}
use Rattle.dt_type.specs.declared.shape.ShapePartOf.{ShapePartOf}
use Rattle.dt_type.specs.Shape.{placed_parts}
use Rattle.dt_type.proofs.Lookups.{part_entries, entries-parts, length-part}
use Rattle.dt_offsets.proofs.Lookups.{piece_here, piece_later, none_left}
use Rattle.dt_type.proofs.entries.part_at.Goals as goal

pub loop-part-init : goal.loop-part-init
loop-part-init c = sym (ap (λ es. slice_get es c.args.entry) (entries-parts c.args.parts.now))

pub returns-then-from-entries-clause-entry : goal.returns-then-from-entries-clause-entry
returns-then-from-entries-clause-entry c =
    let p : ShapePartOf Seen = c.part-item.result in
    let entries : c.from.result * c.from-in-loop-part.result ≡ length (part_entries p) =
    ap (λ n. n * c.from-in-loop-part.result) c.from.ensures
    ∙ ap (λ n. p.copies * n) (c.from-in-loop-part.ensures ∙ ap (λ (b : Bounds). b.elements) c.bounds.ensures.value)
    ∙ sym (length-part p) in
    let left = c.from-in-loop-part-2.ensures in
    let test = c.if-from-entries.true in
    sym c.loop-part.invariant ∙ piece_here part_entries c.args.parts.now c.loop-part.part-index p p c.loop-part-test.true c.part-item.is c.loop-part.left (omega arith)

pub returns-then-from-entries-clause-within : goal.returns-then-from-entries-clause-within
returns-then-from-entries-clause-within c =
    let p : ShapePartOf Seen = c.part-item.result in
    let entries : c.from.result * c.from-in-loop-part.result ≡ length (part_entries p) =
    ap (λ n. n * c.from-in-loop-part.result) c.from.ensures
    ∙ ap (λ n. p.copies * n) (c.from-in-loop-part.ensures ∙ ap (λ (b : Bounds). b.elements) c.bounds.ensures.value)
    ∙ sym (length-part p) in
    let left = c.from-in-loop-part-2.ensures in
    let test = c.if-from-entries.true in
    omega arith

pub loop-part-preserved : goal.loop-part-preserved
loop-part-preserved c =
    let p : ShapePartOf Seen = c.part-item.result in
    let entries : c.from.result * c.from-in-loop-part.result ≡ length (part_entries p) =
    ap (λ n. n * c.from-in-loop-part.result) c.from.ensures
    ∙ ap (λ n. p.copies * n) (c.from-in-loop-part.ensures ∙ ap (λ (b : Bounds). b.elements) c.bounds.ensures.value)
    ∙ sym (length-part p) in
    let left = c.from-in-loop-part-2.ensures in
    let test = c.if-from-entries.false in
    ap (λ n. slice_get (flat_map part_entries (drop (c.loop-part.part-index + 1) c.args.parts.now)) (c.loop-part.left - n)) entries
    ∙ sym (piece_later part_entries c.args.parts.now c.loop-part.part-index p p c.loop-part-test.true c.part-item.is c.loop-part.left (omega arith))
    ∙ c.loop-part.invariant

pub unreachable-requires : goal.unreachable-requires
unreachable-requires c =
    none_left part_entries c.args.parts.now c.loop-part.part-index c.loop-part.left (placed_parts c.args.parts.now).entries c.args.entry
    c.loop-part-test.false c.loop-part.invariant c.requires.within
