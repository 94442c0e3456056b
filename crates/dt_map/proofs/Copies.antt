-- the elements of an operation on copies
use Rattle.std.proofs.Common.{◌≡◌, ℕ, zero, suc, ◌+◌, ℤ, pos, ◌+ℤ◌, ◌*ℤ◌, List, [], ◌∷◌, ◌++◌, map, refl, sym, ap, ◌∙◌, arith, append-nil}
use Rattle.std.proofs.lemmas.Int.{ints}
use Rattle.std.proofs.lemmas.List.Sums.{sum_by-append, sum_by-cons}
use Rattle.std.proofs.lemmas.Grind.{flat_map-append}
use Rattle.std.specs.List.{flat_map}
use Rattle.dt_kinds.specs.declared.kind.Rep.{Rep}
use Rattle.dt_kinds.specs.Kind.{packed_size}
use Rattle.dt_map.specs.declared.entry.Entry.{Entry}
use Rattle.dt_offsets.specs.Offsets.{below}
use Rattle.dt_map.specs.Typemap.{Marked, shift, shift_entry}
use Rattle.dt_map.specs.Bounds.{extent_of}
use Rattle.dt_map.specs.Elements.{elements}
use Rattle.dt_map.specs.Packed.{total}
use Rattle.dt_map.specs.Laws.{ElementsArePlaced, ElementsOfMore, TotalOfElements}
use Rattle.dt_map.proofs.Placings.{placed, shift-append, shift-shift}

pub elements_of_more : ElementsOfMore
elements_of_more m n origin =
    let copy : ℕ → List Entry = λ i. shift (origin +ℤ (pos i *ℤ extent_of m)) m.entries in
    flat_map-append copy (below n) (n ∷ []) ∙ ap (λ s. elements m n origin ++ s) (append-nil (copy n))

further_copies : (m : Marked) (origin : ℤ) (at : ℕ → ℤ) (is : List ℕ) →
    flat_map (λ i. shift (origin +ℤ at i) m.entries) is ≡ shift origin (flat_map placed (map (λ x. (x, m)) (map at is)))
further_copies m origin at [] = refl
further_copies m origin at (i ∷ is) =
    let turned : origin +ℤ at i ≡ at i +ℤ origin = omega (arith, ints) in
    let rest = flat_map placed (map (λ x. (x, m)) (map at is)) in
    ap (λ x. shift x m.entries ++ flat_map (λ i. shift (origin +ℤ at i) m.entries) is) turned
    ∙ (ap (λ s. s ++ flat_map (λ i. shift (origin +ℤ at i) m.entries) is) (sym (shift-shift origin (at i) m.entries))
    ∙ (ap (λ s. shift origin (shift (at i) m.entries) ++ s) (further_copies m origin at is)
    ∙ sym (shift-append origin (shift (at i) m.entries) rest)))

pub elements_are_placed : ElementsArePlaced
elements_are_placed m n origin = further_copies m origin (λ i. pos i *ℤ extent_of m) (below n)

pub total-append : (rep : Rep) (es fs : List Entry) → total rep (es ++ fs) ≡ total rep es + total rep fs
total-append rep es fs = sum_by-append (λ (e : Entry). packed_size rep e.kind) es fs

pub total-shift : (rep : Rep) (x : ℤ) (es : List Entry) → total rep (shift x es) ≡ total rep es
total-shift rep x [] = refl
total-shift rep x (e ∷ es) =
    let h = total-shift rep x es in
    let size : Entry → ℕ = λ e. packed_size rep e.kind in
    omega (arith, sum_by-cons size (shift_entry x e) (shift x es), sum_by-cons size e es)

pub total_of_elements : TotalOfElements
total_of_elements rep m zero origin = omega arith
total_of_elements rep m (suc n) origin =
    let more = ap (total rep) (elements_of_more m n origin) in
    let parts = total-append rep (elements m n origin) (shift (origin +ℤ (pos n *ℤ extent_of m)) m.entries) in
    let last = total-shift rep (origin +ℤ (pos n *ℤ extent_of m)) m.entries in
    let before = total_of_elements rep m n origin in
    omega (arith, more, parts, last, before)
