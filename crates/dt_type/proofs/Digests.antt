-- The digest of parts, one more at a time, and the spans of a datatype in range.
use Rattle.std.specs.Prelude.{◌≡◌, Option, Some, None, ℕ, ◌+◌, ◌<◌, ◌==◌, cond, Bool, true, false, ℤ, List, [], ◌∷◌, ◌++◌, length, take, get_or}
use Rattle.std.specs.List.{flat_map}
use Rattle.std.proofs.Common.{refl, sym, ap, subst, ◌∙◌, arith}
use Rattle.std.proofs.lemmas.Grind.{flat_map-append}
use Rattle.std.proofs.lemmas.Int.{ints}
use Rattle.std.proofs.lemmas.List.{append-nil, take_more}
use Rattle.dt_kinds.specs.Displacement.{FitsDisp}
use Rattle.dt_map.specs.Bounds.{true_lb, true_ub}
use Rattle.dt_map.specs.Digest.{capped_sums, digest_of}
use Rattle.dt_map.specs.Limits.{IsInRange}
use Rattle.dt_map.specs.Placing.{place}
use Rattle.dt_map.specs.Span.{span_of}
use Rattle.dt_map.specs.Summary.{Summary, joined, copied}
use Rattle.dt_map.specs.Typemap.{Marked}
use Rattle.dt_map.proofs.Digests.{digest-copies, digest-append}
use Rattle.dt_map.proofs.Summaries.{true_span_is}
use Rattle.dt_offsets.specs.declared.marks.Marks.{Marks}
use Rattle.dt_offsets.specs.Near.{IsNear, IsNearSpan}
use Rattle.dt_offsets.specs.Offsets.{row_offsets}
use Rattle.dt_offsets.specs.Reach.{reach}
use Rattle.dt_type.specs.declared.datatype.Seen.{Seen}
use Rattle.dt_type.specs.declared.shape.ShapePartOf.{ShapePartOf}
use Rattle.dt_type.specs.Datatype.{typemap_of}
use Rattle.dt_type.specs.Shape.{part_members, placed_parts}

-- displacements are near
pub disp_near : (x : ℤ) → FitsDisp x → IsNear x
disp_near x fits = let low = fits.0 in let high = fits.1 in omega (arith, ints)

pub span_near : (m : Marked) → IsInRange m → IsNearSpan (span_of m.entries)
span_near m range = subst IsNearSpan (true_span_is m) (cases (length m.entries == 0))
  where
    cases : (b : Bool) → IsNearSpan (cond b None (Some (record { lb = true_lb m.entries; ub = true_ub m.entries })))
    cases true = tt
    cases false = (disp_near (true_lb m.entries) range.true_lb, disp_near (true_ub m.entries) range.true_ub)

marks_near_of : (m : Marked) (marks : Option Marks) → marks ≡ m.marks → IsInRange m → IsNearSpan marks
marks_near_of m None same range = tt
marks_near_of m (Some marks) same range =
    let own : (let o : Marked = record { entries = m.entries; marks = Some marks } in IsInRange o) = subst (λ k. let o : Marked = record { entries = m.entries; marks = k } in IsInRange o) (sym same) range in
    (disp_near marks.lb own.lb, disp_near marks.ub own.ub)

pub marks_near : (m : Marked) → IsInRange m → IsNearSpan m.marks
marks_near m range = marks_near_of m m.marks refl range

-- of the row of a part
abbrev row_digest : ShapePartOf Seen → Summary
row_digest p = let r = reach (row_offsets p.first p.copies p.step) in capped_sums (copied r.span r.copies (digest_of (typemap_of p.old)))

-- one more part
pub digest-part : (parts : List (ShapePartOf Seen)) (i : ℕ) (p d : ShapePartOf Seen) → i < length parts → p ≡ get_or parts i d
    → digest_of (placed_parts (take (i + 1) parts))
    ≡ capped_sums (joined (digest_of (placed_parts (take i parts))) (row_digest p))
digest-part parts i p d lt e =
    ap (λ ps. digest_of (placed_parts ps)) (take_more parts i d lt ∙ ap (λ q. take i parts ++ q ∷ []) (sym e))
    ∙ ap (λ ms. digest_of (place ms)) (flat_map-append part_members (take i parts) (p ∷ []) ∙ ap (λ ms. flat_map part_members (take i parts) ++ ms) (append-nil (part_members p)))
    ∙ digest-append (flat_map part_members (take i parts)) (part_members p)
    ∙ ap (λ s. capped_sums (joined (digest_of (placed_parts (take i parts))) s)) (digest-copies (row_offsets p.first p.copies p.step) (typemap_of p.old))
