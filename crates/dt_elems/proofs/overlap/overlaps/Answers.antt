use Rattle.std.proofs.Common.{◌≡◌, ◌∙◌, ℕ, zero, suc, ◌*◌, ◌≤◌, ◌<◌, ◌↔◌, true, false, List, [], length, replicate, refl, sym, ap, arith}
use Rattle.std.specs.Prelude.{IsTrue}
use Rattle.std.proofs.lemmas.Bool.{false≢true}
use Rattle.std.proofs.lemmas.Int.{to_z-of_z}
use Rattle.std.specs.Int.{w64}
use Rattle.dt_kinds.specs.declared.kind.Rep.TheVariants.{Native}
use Rattle.dt_map.specs.declared.entry.Entry.{Entry}
use Rattle.dt_map.specs.Elements.{elements, Overlaps}
use Rattle.dt_map.specs.Packed.{total}
use Rattle.dt_map.proofs.Copies.{total_of_elements}
use Rattle.dt_type.specs.Datatype.{typemap_of}
use Rattle.dt_elems.specs.Taking.{with_elements}
use Rattle.dt_elems.proofs.Clashes.{overlaps_from_none, apart_from_some, overlaps_from_size}
use Rattle.dt_elems.proofs.Inside.{no_elements}
use Rattle.dt_elems.proofs.Receiving.{elements_fit}
use Rattle.dt_elems.proofs.Spreading.{never_overlaps}
use Rattle.dt_elems.proofs.overlap.overlaps.Goals as goal

yes : (es : List Entry) → Overlaps es → IsTrue true ↔ Overlaps es
yes es over = (λ t. over, λ o. refl)

no : (es : List Entry) → (Overlaps es → ⊥) → IsTrue false ↔ Overlaps es
no es apart = (λ t. absurd (false≢true t), λ o. absurd (apart o))

none_overlap : (es : List Entry) → es ≡ [] → Overlaps es → ⊥
none_overlap es none over = let lt = over.4 in let gone = ap length none in omega arith

pub returns-then-not-has_elements : goal.returns-then-not-has_elements
returns-then-not-has_elements c =
    let es = elements (typemap_of c.args.ty.now) c.args.count c.args.origin in
    no es (none_overlap es (no_elements (typemap_of c.args.ty.now) c.args.count c.args.origin (λ some. false≢true (sym c.if-not-has_elements.true ∙ c.has_elements.ensures.1 some))))

pub returns-then-packed_size-len : goal.returns-then-packed_size-len
returns-then-packed_size-len c =
    let es = elements (typemap_of c.args.ty.now) c.args.count c.args.origin in
    let size = c.packed_size.ensures c.args.origin in
    let large = c.if-packed_size-len.true in
    yes es (overlaps_from_size c.args.len es c.requires (omega arith))

few : (len n total long packed : ℕ) → 0 < n → packed ≡ n * total → packed ≤ len → long ≤ total → long ≤ len
few len (suc n) total long packed some is fits short = omega arith
few len zero total long packed some is fits short = absurd (omega arith)

pub few_entries-requires : goal.few_entries-requires
few_entries-requires c =
    let m = typemap_of c.args.ty.now in
    let some = (c.has_elements.ensures.0 c.if-not-has_elements.false).0 in
    let size = c.packed_size.ensures c.args.origin ∙ total_of_elements Native m c.args.count c.args.origin in
    few c.args.len c.args.count (total Native m.entries) (length m.entries) c.packed_size.result some size c.if-packed_size-len.false (elements_fit Native m.entries)

pub returns-in-Ok : goal.returns-in-Ok
returns-in-Ok c =
    let es = elements (typemap_of c.args.ty.now) c.args.count c.args.origin in
    let origin = to_z-of_z w64 c.args.origin c.ranges.origin in
    let free : c.deref_mut.result.now ≡ replicate c.args.len false = c.deref_mut.ensures.value ∙ c.in_ok-taken.ensures.items_if_clones_equal (λ y h. h) in
    no es (apart_from_some c.args.len es c.take_copies.new.taken c.requires (ap (λ bs. with_elements bs es) (sym free) ∙ ap (λ x. with_elements c.deref_mut.result.now (elements (typemap_of c.args.ty.now) c.args.count x)) (sym origin) ∙ c.in-Ok.ensures))

pub returns : goal.returns
returns c =
    let es = elements (typemap_of c.args.ty.now) c.args.count c.args.origin in
    let origin = to_z-of_z w64 c.args.origin c.ranges.origin in
    let free : c.deref_mut.result.now ≡ replicate c.args.len false = c.deref_mut.ensures.value ∙ c.in_ok-taken.ensures.items_if_clones_equal (λ y h. h) in
    yes es (overlaps_from_none c.args.len es c.requires (ap (λ bs. with_elements bs es) (sym free) ∙ ap (λ x. with_elements c.deref_mut.result.now (elements (typemap_of c.args.ty.now) c.args.count x)) (sym origin) ∙ c.in-Err.ensures))

pub returns-then-copies_are_apart : goal.returns-then-copies_are_apart
returns-then-copies_are_apart c =
    let es = elements (typemap_of c.args.ty.now) c.args.count c.args.origin in
    no es (never_overlaps es (c.if-copies_are_apart.ensures refl c.args.origin))
