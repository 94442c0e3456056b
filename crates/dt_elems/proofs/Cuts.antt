-- Where received bytes end in what a shape places.
use Rattle.std.proofs.Common.{◌≡◌, ℕ, suc, ◌+◌, ◌*◌, ◌-◌, ◌/◌, ◌%◌, ◌≤◌, ◌<◌, inl, inr, ℤ, List, [], ◌∷◌, ◌++◌, drop, length, get_or, sym, ap, ◌∙◌, subst, cond, arith}
use Rattle.std.specs.List.{flat_map}
use Rattle.std.proofs.lemmas.Bool.Decides.{leb_tells}
use Rattle.std.proofs.lemmas.List.{at_drop_more, drop_all}
use Rattle.std.proofs.lemmas.List.Folds.{flat_map-map}
use Rattle.std.proofs.lemmas.List.Sums.{sum_by-cons}
use Rattle.dt_kinds.specs.declared.kind.Rep.{Rep}
use Rattle.dt_kinds.specs.Kind.{packed_size}
use Rattle.dt_offsets.specs.Offsets.{row_offsets}
use Rattle.dt_offsets.proofs.Reaches.{count-row}
use Rattle.dt_map.specs.declared.entry.Entry.{Entry}
use Rattle.dt_map.specs.Constructors.{copies_at}
use Rattle.dt_map.specs.Counts.{received_elements}
use Rattle.dt_map.specs.Packed.{total}
use Rattle.dt_map.specs.Setting.{done}
use Rattle.dt_map.specs.Typemap.{Marked, shift}
use Rattle.dt_map.proofs.Copies.{total-append, total-shift}
use Rattle.dt_type.specs.declared.datatype.Seen.{Seen}
use Rattle.dt_type.specs.declared.shape.ShapePartOf.{ShapePartOf}
use Rattle.dt_type.specs.Datatype.{typemap_of, entries_of}
use Rattle.dt_type.proofs.Lookups.{part_entries}
use Rattle.dt_elems.proofs.Receiving.{done-placed, done-more, done-cut, received-some, received-le, none_or_some}

-- copies
pub entries-copies : (xs : List ℤ) (m : Marked) → (copies_at xs m).entries ≡ flat_map (λ x. shift x m.entries) xs
entries-copies xs m = flat_map-map (λ (member : ℤ × Marked). shift member.0 member.1.entries) (λ x. (x, m)) xs

total-placed : (rep : Rep) (es : List Entry) (xs : List ℤ) → total rep (flat_map (λ x. shift x es) xs) ≡ length xs * total rep es
total-placed rep es [] = omega arith
total-placed rep es (x ∷ xs) =
    omega (arith, total-append rep (shift x es) (flat_map (λ y. shift y es) xs), total-shift rep x es, total-placed rep es xs)

pub total-copies : (rep : Rep) (xs : List ℤ) (m : Marked) → total rep (copies_at xs m).entries ≡ length xs * total rep m.entries
total-copies rep xs m = ap (total rep) (entries-copies xs m) ∙ total-placed rep m.entries xs

right_some : (a t n : ℕ) → n < a * t → 0 < t
right_some a t n h = elim (none_or_some t) [ inl none ↦ (let gone = ap (λ k. a * k) none in absurd (omega arith)) | inr some ↦ some ]

-- the leading elements of copies, where the bytes end before they do
pub leading_copies : (rep : Rep) (xs : List ℤ) (m : Marked) (n : ℕ) → n < total rep (copies_at xs m).entries → done rep (copies_at xs m).entries n ≡ received_elements rep m n
leading_copies rep xs m n cut =
    let all = total-copies rep xs m in
    let some = right_some (length xs) (total rep m.entries) n (omega arith) in
    ap (λ es. done rep es n) (entries-copies xs m) ∙ done-placed rep m.entries xs n some (omega arith) ∙ sym (received-some rep m n some)

pub leading_seen : (rep : Rep) (es : List Entry) (xs : List ℤ) (m : Marked) (n : ℕ) → es ≡ (copies_at xs m).entries → n < total rep es → done rep es n ≡ received_elements rep m n
leading_seen rep es xs m n seen cut = ap (λ fs. done rep fs n) seen ∙ leading_copies rep xs m n (subst (λ fs. n < total rep fs) seen cut)

-- the leading elements of one entry
pub leading_one : (rep : Rep) (e : Entry) (n : ℕ) → n < total rep (e ∷ []) → done rep (e ∷ []) n ≡ 0
leading_one rep e n cut =
    let sum = sum_by-cons (λ (e : Entry). packed_size rep e.kind) e [] in
    elim (leb_tells (packed_size rep e.kind) n) [
      | inl h ↦ let fits = h.1 in absurd (omega arith)
      | inr h ↦ ap (λ b. cond b (suc 0) 0) h.0
    ]

-- whole copies of a type, and what is left
pub received_at : (rep : Rep) (m : Marked) (n q r k : ℕ) → 0 < total rep m.entries → q ≡ (n / total rep m.entries) * length m.entries → r ≡ n % total rep m.entries → done rep m.entries r ≡ k → q + k ≡ received_elements rep m n
received_at rep m n q r k some whole rest leading =
    let found : done rep m.entries (n % total rep m.entries) ≡ k = ap (done rep m.entries) (sym rest) ∙ leading in
    let all = received-some rep m n some in
    omega arith

pub whole_fit : (rep : Rep) (m : Marked) (n : ℕ) → 0 < total rep m.entries → (n / total rep m.entries) * length m.entries ≤ n
whole_fit rep m n some = let all = received-some rep m n some in let fits = received-le rep m n in omega arith

-- parts
pub total-part : (rep : Rep) (p : ShapePartOf Seen) → total rep (part_entries p) ≡ p.copies * total rep (entries_of p.old)
total-part rep p = total-copies rep (row_offsets p.first p.copies p.step) (typemap_of p.old) ∙ ap (λ n. n * total rep (entries_of p.old)) (count-row p.first p.step p.copies)

module _ {X : Type 0} (rep : Rep) (f : X → List Entry) (xs : List X) (i : ℕ) (x d : X) (lt : i < length xs) (is : x ≡ get_or xs i d) (n : ℕ) where
  abbrev rest : List Entry
  rest = flat_map f (drop i xs)

  abbrev after : List Entry
  after = flat_map f (drop (i + 1) xs)

  unjoined : rest ≡ f x ++ after
  unjoined = at_drop_more (flat_map f) xs i d lt ∙ ap (λ y. f y ++ after) (sym is)

  pub ends_here : n < total rep (f x) → done rep rest n ≡ done rep (f x) n
  ends_here cut = ap (λ es. done rep es n) unjoined ∙ done-cut rep (f x) after n cut

  pub ends_later : total rep (f x) ≤ n → done rep rest n ≡ length (f x) + done rep after (n - total rep (f x))
  ends_later fits = ap (λ es. done rep es n) unjoined ∙ done-more rep (f x) after n fits

  pub cut_later : n < total rep rest → total rep (f x) ≤ n → n - total rep (f x) < total rep after
  cut_later cut fits = let all = ap (total rep) unjoined ∙ total-append rep (f x) after in omega arith

pub none_left : {X : Type 0} (rep : Rep) (f : X → List Entry) (xs : List X) (i n : ℕ) → length xs ≤ i → n < total rep (flat_map f (drop i xs)) → ⊥
none_left rep f xs i n past cut =
    let gone : total rep (flat_map f (drop i xs)) ≡ 0 = ap (λ ys. total rep (flat_map f ys)) (drop_all i xs past) in
    omega arith
