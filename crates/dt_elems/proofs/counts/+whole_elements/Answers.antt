use Rattle.std.specs.List.{AllByRecursion}
use Rattle.std.proofs.Common.{◌≡◌, ℕ, ◌+◌, ◌*◌, ◌/◌, ◌%◌, ◌<◌, ◌≢◌, ℤ, List, [], ◌∷◌, pos, length, refl, sym, ap, ◌∙◌, subst, arith}
use Rattle.std.proofs.Math.Nat.{mod-lt}
use Rattle.dt_kinds.specs.declared.kind.Rep.{Rep}
use Rattle.dt_map.specs.declared.bounds.Bounds.{Bounds}
use Rattle.dt_map.specs.declared.entry.Entry.{Entry}
use Rattle.dt_map.specs.Constructors.{copies_at}
use Rattle.dt_map.specs.Counts.{received_elements}
use Rattle.dt_map.specs.Packed.{total}
use Rattle.dt_map.specs.Setting.{done}
use Rattle.dt_map.specs.Typemap.{Marked}
use Rattle.dt_offsets.specs.Offsets.{row_offsets, grid_offsets, spot_offsets}
use Rattle.dt_type.specs.declared.datatype.Seen.{Seen}
use Rattle.dt_type.specs.declared.shape.ShapeOf.{ShapeOf}
use Rattle.dt_type.specs.declared.shape.ShapeOf.TheVariants.{Seq}
use Rattle.dt_type.specs.declared.shape.ShapePartOf.{ShapePartOf}
use Rattle.dt_type.specs.Datatype.{typemap_of, entries_of, depth_of}
use Rattle.dt_type.specs.Shape.{placed_by, placed_parts, olds_of}
use Rattle.dt_type.proofs.EntryFits.{all_of_map}
use Rattle.dt_type.proofs.Lookups.{part_entries}
use Rattle.dt_elems.proofs.Cuts.{leading_copies, leading_seen, leading_one, received_at, whole_fit}
use Rattle.dt_elems.proofs.Receiving.{received-nothing, received-le}
use Rattle.dt_elems.proofs.counts.+whole_elements.Goals as goal

-- the answer, with the numbers that the code reads: whole copies, and the leading elements of what is left
module _ (rep : Rep) (m : Marked) (n one elements : ℕ) (size : one ≡ total rep m.entries) (counted : elements ≡ length m.entries) (some : one ≢ 0) where
  pub whole_is : n / one * elements ≡ (n / total rep m.entries) * length m.entries
  whole_is = ap (λ k. n / k * elements) size ∙ ap (λ k. (n / total rep m.entries) * k) counted

  pub long : 0 < total rep m.entries
  long = omega arith

  pub less : n % one < total rep m.entries
  less = let cut = mod-lt n long in let same = ap (λ k. n % k) size in omega arith

  pub answer_is : (k : ℕ) → done rep m.entries (n % one) ≡ k → n / one * elements + k ≡ received_elements rep m n
  answer_is k leading = received_at rep m n (n / one * elements) (n % one) k long whole_is (ap (λ k. n % k) size) leading

pub returns-then-one-eq0 : goal.returns-then-one-eq0
returns-then-one-eq0 t c = sym (received-nothing c.args.rep (typemap_of c.args.ty.now) c.args.bytes (sym c.copy_size-one.ensures ∙ c.if-one-eq0.true))

pub overflow_mul-whole : goal.overflow_mul-whole
overflow_mul-whole t c =
    let m = typemap_of c.args.ty.now in
    let counted = ap (λ (b : Bounds). b.elements) c.bounds.ensures.value in
    let same = whole_is c.args.rep m c.args.bytes c.copy_size-one.result c.bounds.result.elements c.copy_size-one.ensures counted c.if-one-eq0.false in
    let fits = whole_fit c.args.rep m c.args.bytes (long c.args.rep m c.args.bytes c.copy_size-one.result c.bounds.result.elements c.copy_size-one.ensures counted c.if-one-eq0.false) in
    omega (arith, c.ranges.bytes.fits)

pub returns-in-One : goal.returns-in-One
returns-in-One t c =
    let m = typemap_of c.args.ty.now in
    let e : Entry = record { kind = c.in-One.field-0; disp = pos 0 } in
    let counted = ap (λ (b : Bounds). b.elements) c.bounds.ensures.value in
    let seen : entries_of c.args.ty.now ≡ e ∷ [] = sym c.shape.ensures.placed ∙ ap (λ (s : ShapeOf Seen). (placed_by s).entries) c.in-One.is in
    let cut = less c.args.rep m c.args.bytes c.copy_size-one.result c.bounds.result.elements c.copy_size-one.ensures counted c.if-one-eq0.false in
    let none = ap (λ es. done c.args.rep es (c.args.bytes % c.copy_size-one.result)) seen ∙ leading_one c.args.rep e (c.args.bytes % c.copy_size-one.result) (subst (λ es. c.args.bytes % c.copy_size-one.result < total c.args.rep es) seen cut) in
    let all = answer_is c.args.rep m c.args.bytes c.copy_size-one.result c.bounds.result.elements c.copy_size-one.ensures counted c.if-one-eq0.false 0 none in
    omega arith

of_copies : (rep : Rep) (m old : Marked) (xs : List ℤ) (n one elements k : ℕ) → one ≡ total rep m.entries → elements ≡ length m.entries → one ≢ 0
    → m.entries ≡ (copies_at xs old).entries → k ≡ received_elements rep old (n % one) → n / one * elements + k ≡ received_elements rep m n
of_copies rep m old xs n one elements k size counted some seen inner =
    answer_is rep m n one elements size counted some k (leading_seen rep m.entries xs old (n % one) seen (less rep m n one elements size counted some) ∙ sym inner)

pub returns-in-Grid : goal.returns-in-Grid
returns-in-Grid t c =
    of_copies c.args.rep (typemap_of c.args.ty.now) (typemap_of c.in-Grid.old) (grid_offsets c.in-Grid.turns) c.args.bytes c.copy_size-one.result c.bounds.result.elements c.whole_elements.result
    c.copy_size-one.ensures (ap (λ (b : Bounds). b.elements) c.bounds.ensures.value) c.if-one-eq0.false
    (sym c.shape.ensures.placed ∙ ap (λ (s : ShapeOf Seen). (placed_by s).entries) c.in-Grid.is) c.whole_elements.ensures

pub overflow_add-result : goal.overflow_add-result
overflow_add-result t c =
    let all = of_copies c.args.rep (typemap_of c.args.ty.now) (typemap_of c.in-Grid.old) (grid_offsets c.in-Grid.turns) c.args.bytes c.copy_size-one.result c.bounds.result.elements c.whole_elements.result
    c.copy_size-one.ensures (ap (λ (b : Bounds). b.elements) c.bounds.ensures.value) c.if-one-eq0.false
    (sym c.shape.ensures.placed ∙ ap (λ (s : ShapeOf Seen). (placed_by s).entries) c.in-Grid.is) c.whole_elements.ensures in
    let fits = received-le c.args.rep (typemap_of c.args.ty.now) c.args.bytes in
    omega (arith, c.ranges.bytes.fits)

pub returns-in-Each : goal.returns-in-Each
returns-in-Each t c =
    of_copies c.args.rep (typemap_of c.args.ty.now) (typemap_of c.in-Each.old) (spot_offsets c.in-Each.spots) c.args.bytes c.copy_size-one.result c.bounds.result.elements c.whole_elements-in-Each.result
    c.copy_size-one.ensures (ap (λ (b : Bounds). b.elements) c.bounds.ensures.value) c.if-one-eq0.false
    (sym c.shape.ensures.placed ∙ ap (λ (s : ShapeOf Seen). (placed_by s).entries) c.in-Each.is) c.whole_elements-in-Each.ensures

pub overflow_add-result-in-Each : goal.overflow_add-result-in-Each
overflow_add-result-in-Each t c =
    let all = of_copies c.args.rep (typemap_of c.args.ty.now) (typemap_of c.in-Each.old) (spot_offsets c.in-Each.spots) c.args.bytes c.copy_size-one.result c.bounds.result.elements c.whole_elements-in-Each.result
    c.copy_size-one.ensures (ap (λ (b : Bounds). b.elements) c.bounds.ensures.value) c.if-one-eq0.false
    (sym c.shape.ensures.placed ∙ ap (λ (s : ShapeOf Seen). (placed_by s).entries) c.in-Each.is) c.whole_elements-in-Each.ensures in
    let fits = received-le c.args.rep (typemap_of c.args.ty.now) c.args.bytes in
    omega (arith, c.ranges.bytes.fits)

-- the elements before the part in which the bytes end, and those in it
of_parts : (rep : Rep) (m : Marked) (parts : List (ShapePartOf Seen)) (p : ShapePartOf Seen) (n one elements before left k : ℕ) → one ≡ total rep m.entries → elements ≡ length m.entries → one ≢ 0
    → m.entries ≡ (placed_parts parts).entries → done rep (placed_parts parts).entries (n % one) ≡ before + done rep (part_entries p) left → left < total rep (part_entries p)
    → k ≡ received_elements rep (typemap_of p.old) left → n / one * elements + before + k ≡ received_elements rep m n
of_parts rep m parts p n one elements before left k size counted some seen split cut inner =
    let here = leading_copies rep (row_offsets p.first p.copies p.step) (typemap_of p.old) left cut ∙ sym inner in
    let leading = ap (λ es. done rep es (n % one)) seen ∙ split ∙ ap (λ d. before + d) here in
    let all = answer_is rep m n one elements size counted some (before + k) leading in
    omega arith

seen_parts : (s : ShapeOf Seen) (es : List Entry) (parts slice : List (ShapePartOf Seen)) → (placed_by s).entries ≡ es → s ≡ Seq parts → slice ≡ parts → es ≡ (placed_parts slice).entries
seen_parts s es parts slice placed is same = sym placed ∙ ap (λ (s : ShapeOf Seen). (placed_by s).entries) is ∙ ap (λ ps. (placed_parts ps).entries) (sym same)

pub returns-in-Seq : goal.returns-in-Seq
returns-in-Seq t c =
    let p : ShapePartOf Seen = c.part_with-before.result.1.now in
    of_parts c.args.rep (typemap_of c.args.ty.now) c.as_slice.result.now p c.args.bytes c.copy_size-one.result c.bounds.result.elements c.part_with-before.result.0 c.part_with-before.result.2 c.whole_elements-in-Seq.result
    c.copy_size-one.ensures (ap (λ (b : Bounds). b.elements) c.bounds.ensures.value) c.if-one-eq0.false
    (seen_parts c.shape.result.now (entries_of c.args.ty.now) c.in-Seq.parts c.as_slice.result.now c.shape.ensures.placed c.in-Seq.is c.as_slice.ensures)
    c.part_with-before.ensures.elements c.part_with-before.ensures.within c.whole_elements-in-Seq.ensures

pub overflow_add-result-in-Seq-2 : goal.overflow_add-result-in-Seq-2
overflow_add-result-in-Seq-2 t c =
    let p : ShapePartOf Seen = c.part_with-before.result.1.now in
    let all = of_parts c.args.rep (typemap_of c.args.ty.now) c.as_slice.result.now p c.args.bytes c.copy_size-one.result c.bounds.result.elements c.part_with-before.result.0 c.part_with-before.result.2 c.whole_elements-in-Seq.result
    c.copy_size-one.ensures (ap (λ (b : Bounds). b.elements) c.bounds.ensures.value) c.if-one-eq0.false
    (seen_parts c.shape.result.now (entries_of c.args.ty.now) c.in-Seq.parts c.as_slice.result.now c.shape.ensures.placed c.in-Seq.is c.as_slice.ensures)
    c.part_with-before.ensures.elements c.part_with-before.ensures.within c.whole_elements-in-Seq.ensures in
    let fits = received-le c.args.rep (typemap_of c.args.ty.now) c.args.bytes in
    omega (arith, c.ranges.bytes.fits)

pub overflow_add-result-in-Seq : goal.overflow_add-result-in-Seq
overflow_add-result-in-Seq t c =
    let p : ShapePartOf Seen = c.part_with-before.result.1.now in
    let all = of_parts c.args.rep (typemap_of c.args.ty.now) c.as_slice.result.now p c.args.bytes c.copy_size-one.result c.bounds.result.elements c.part_with-before.result.0 c.part_with-before.result.2
    (received_elements c.args.rep (typemap_of p.old) c.part_with-before.result.2)
    c.copy_size-one.ensures (ap (λ (b : Bounds). b.elements) c.bounds.ensures.value) c.if-one-eq0.false
    (seen_parts c.shape.result.now (entries_of c.args.ty.now) c.in-Seq.parts c.as_slice.result.now c.shape.ensures.placed c.in-Seq.is c.as_slice.ensures)
    c.part_with-before.ensures.elements c.part_with-before.ensures.within refl in
    let fits = received-le c.args.rep (typemap_of c.args.ty.now) c.args.bytes in
    omega (arith, c.ranges.bytes.fits)

pub whole_elements-requires-in-Seq : goal.whole_elements-requires-in-Seq
whole_elements-requires-in-Seq t c =
    let parts : List (ShapePartOf Seen) = c.in-Seq.parts in
    let P : Seen → Type 0 = λ old. depth_of old < depth_of c.args.ty.now in
    let olds : AllByRecursion P (olds_of c.shape.result.now) = c.shape.ensures.below in
    let here = subst (λ (s : ShapeOf Seen). AllByRecursion P (olds_of s)) c.in-Seq.is olds in
    let all = all_of_map P (λ (p : ShapePartOf Seen). p.old) parts here in
    let low = c.part_with-before.ensures.below (depth_of c.args.ty.now) (subst (λ (ps : List (ShapePartOf Seen)). AllByRecursion (λ p. P p.old) ps) (sym c.as_slice.ensures) all) in
    (omega (arith, low, c.decreases), tt)
