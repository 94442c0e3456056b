-- The elements among received bytes, by arithmetic: whole copies, and the leading elements of one that is cut.
use Rattle.std.proofs.Common.{◌≡◌, ℕ, zero, suc, ◌+◌, ◌*◌, ◌-◌, ◌/◌, ◌%◌, ◌≤◌, ◌<◌, cond, nat_le, Some, None, map, ◌⊎◌, ℤ, pos, ◌+ℤ◌, ◌*ℤ◌, List, [], ◌∷◌, ◌++◌, length, refl, sym, ap, ◌∙◌, subst, arith, inl, inr}
use Rattle.std.specs.List.{flat_map}
use Rattle.std.proofs.Math.Nat.{mod-eq-sub-mod, div-eq-sub-div, mul-mod_left, mul-div_cancel}
use Rattle.std.proofs.lemmas.Bool.{cases_lt}
use Rattle.std.proofs.lemmas.Bool.Decides.{leb_tells, eqb_tells}
use Rattle.std.proofs.lemmas.List.{length-map}
use Rattle.std.proofs.lemmas.List.Folds.{flat_map-map}
use Rattle.std.proofs.lemmas.List.Sums.{sum_by-cons}
use Rattle.std.proofs.lemmas.Nat.{div-add-mod'}
use Rattle.dt_kinds.specs.declared.kind.Kind.{Kind}
use Rattle.dt_kinds.specs.declared.kind.Rep.{Rep}
use Rattle.dt_kinds.specs.declared.kind.Rep.TheVariants.{Native, External32}
use Rattle.dt_kinds.specs.Kind.{packed_size}
use Rattle.dt_kinds.proofs.Table.{native_size-pos, external_size-pos}
use Rattle.dt_offsets.specs.Offsets.{below}
use Rattle.dt_offsets.proofs.Reaches.{length-below}
use Rattle.dt_map.specs.declared.entry.Entry.{Entry}
use Rattle.dt_map.specs.Bounds.{extent_of}
use Rattle.dt_map.specs.Counts.{received_elements, whole_copies}
use Rattle.dt_map.specs.Elements.{elements}
use Rattle.dt_map.specs.Packed.{total}
use Rattle.dt_map.specs.Setting.{done}
use Rattle.dt_map.specs.Typemap.{Marked, shift, shift_entry}
use Rattle.dt_map.proofs.Copies.{total-shift, total_of_elements}
use Rattle.dt_map.proofs.Leading.{done_is_greatest}
use Rattle.dt_elems.specs.Laws.{CopiesAreWhole, NothingReceived, RepeatedOften, ReceivedAreDone, CountsNeverFall, WholeCopiesHaveAll}

pub size-pos : (rep : Rep) (kind : Kind) → 0 < packed_size rep kind
size-pos Native kind = native_size-pos kind
size-pos External32 kind = external_size-pos kind

total-cons : (rep : Rep) (e : Entry) (es : List Entry) → total rep (e ∷ es) ≡ packed_size rep e.kind + total rep es
total-cons rep e es = sum_by-cons (λ (e : Entry). packed_size rep e.kind) e es

pub elements_fit : (rep : Rep) (es : List Entry) → length es ≤ total rep es
elements_fit rep [] = omega arith
elements_fit rep (e ∷ es) = omega (arith, size-pos rep e.kind, elements_fit rep es, total-cons rep e es)

-- entries further on have the same sizes
pub done-shift : (rep : Rep) (x : ℤ) (es : List Entry) (n : ℕ) → done rep (shift x es) n ≡ done rep es n
done-shift rep x [] n = refl
done-shift rep x (e ∷ es) n = ap (λ k. cond (nat_le (packed_size rep e.kind) n) (suc k) 0) (done-shift rep x es (n - packed_size rep e.kind))

-- of joined entries: all of the first ones, or some of them
pub done-more : (rep : Rep) (es fs : List Entry) (n : ℕ) → total rep es ≤ n → done rep (es ++ fs) n ≡ length es + done rep fs (n - total rep es)
done-more rep [] fs n fits = let none : n - total rep [] ≡ n = omega arith in sym (ap (done rep fs) none) ∙ omega arith
done-more rep (e ∷ es) fs n fits =
    let size = packed_size rep e.kind in
    let sum = total-cons rep e es in
    let rest : n - size - total rep es ≡ n - total rep (e ∷ es) = omega arith in
    elim (leb_tells size n) [
      | inl h ↦
          ap (λ b. cond b (suc (done rep (es ++ fs) (n - size))) 0) h.0
          ∙ (ap suc (done-more rep es fs (n - size) (omega arith) ∙ ap (λ k. length es + done rep fs k) rest) ∙ omega arith)
      | inr h ↦ let large = h.1 in absurd (omega arith)
    ]

pub done-cut : (rep : Rep) (es fs : List Entry) (n : ℕ) → n < total rep es → done rep (es ++ fs) n ≡ done rep es n
done-cut rep [] fs n cut = absurd (omega arith)
done-cut rep (e ∷ es) fs n cut =
    let size = packed_size rep e.kind in
    let sum = total-cons rep e es in
    elim (leb_tells size n) [
      | inl h ↦ ap (λ k. cond (nat_le size n) (suc k) 0) (done-cut rep es fs (n - size) (let fits = h.1 in omega arith))
      | inr h ↦ ap (λ b. cond b (suc (done rep (es ++ fs) (n - size))) 0) h.0 ∙ sym (ap (λ b. cond b (suc (done rep es (n - size))) 0) h.0)
    ]

pub done-le : (rep : Rep) (es : List Entry) (n : ℕ) → done rep es n ≤ n
done-le rep [] n = omega arith
done-le rep (e ∷ es) n =
    let size = packed_size rep e.kind in
    elim (leb_tells size n) [
      | inl h ↦
          let fits = h.1 in
          let rest = done-le rep es (n - size) in
          let some = size-pos rep e.kind in
          let is = ap (λ b. cond b (suc (done rep es (n - size))) 0) h.0 in
          omega arith
      | inr h ↦ let is = ap (λ b. cond b (suc (done rep es (n - size))) 0) h.0 in omega arith
    ]

-- copies of entries, all of one size: whole copies, and some elements of the next one
module _ {X : Type 0} (rep : Rep) (f : X → List Entry) (es : List Entry) (some : 0 < total rep es) (same_total : (x : X) → total rep (f x) ≡ total rep es) (same_length : (x : X) → length (f x) ≡ length es) (same_done : (x : X) (n : ℕ) → done rep (f x) n ≡ done rep es n) where
  abbrev counted : ℕ → ℕ
  counted n = (n / total rep es) * length es + done rep es (n % total rep es)

  counted-less : (n : ℕ) → n < total rep es → done rep es n ≡ counted n
  counted-less n less =
      let parts = div-add-mod' n (total rep es) in
      let none : n / total rep es ≡ 0 = grind (arith, parts) in
      let rest : n % total rep es ≡ n = grind (arith, parts, none) in
      sym (ap (λ k. k * length es + done rep es (n % total rep es)) none ∙ (omega arith) ∙ ap (done rep es) rest)

  counted-more : (n : ℕ) → total rep es ≤ n → length es + counted (n - total rep es) ≡ counted n
  counted-more n more =
      let quotient = div-eq-sub-div some more in
      let rest = mod-eq-sub-mod more in
      let left = ap (done rep es) rest in
      let product = ap (λ q. q * length es) quotient in
      omega arith

  pub done-copies : (xs : List X) (n : ℕ) → n ≤ length xs * total rep es → done rep (flat_map f xs) n ≡ counted n
  done-copies [] n small =
      let none : n ≡ 0 = omega arith in
      let zero_done = done-le rep es 0 in
      ap (λ k. done rep [] k) none ∙ (let e : done rep es 0 ≡ 0 = omega arith in sym e) ∙ counted-less 0 some ∙ sym (ap counted none)
  done-copies (x ∷ xs) n small =
      let one = same_total x in
      let long = same_length x in
      elim (cases_lt n (total rep es)) [
        | inl less ↦ done-cut rep (f x) (flat_map f xs) n (omega arith) ∙ same_done x n ∙ counted-less n less
        | inr more ↦
            let rest = done-copies xs (n - total rep es) (omega arith) in
            let left : n - total rep (f x) ≡ n - total rep es = omega arith in
            done-more rep (f x) (flat_map f xs) n (omega arith)
            ∙ ap (λ k. length (f x) + done rep (flat_map f xs) k) left
            ∙ (omega (arith, long, rest))
            ∙ counted-more n more
      ]

-- so are copies that are placed, whatever the offsets
pub done-placed : (rep : Rep) (es : List Entry) (xs : List ℤ) (n : ℕ) → 0 < total rep es → n ≤ length xs * total rep es
    → done rep (flat_map (λ x. shift x es) xs) n ≡ (n / total rep es) * length es + done rep es (n % total rep es)
done-placed rep es xs n some small =
    done-copies rep (λ x. shift x es) es some (λ x. total-shift rep x es) (λ x. length-map es (shift_entry x)) (λ x k. done-shift rep x es k) xs n small

pub done-repeated : (rep : Rep) (es : List Entry) (k n : ℕ) → 0 < total rep es → n ≤ k * total rep es
    → done rep (flat_map (λ i. es) (below k)) n ≡ (n / total rep es) * length es + done rep es (n % total rep es)
done-repeated rep es k n some small =
    let long = length-below k in
    done-copies rep (λ i. es) es some (λ i. refl) (λ i. refl) (λ i m. refl) (below k) n (subst (λ l. n ≤ l * total rep es) (sym long) small)

-- received elements
often : (t k n : ℕ) → 0 < t → n < k → n ≤ k * t
often zero k n some enough = absurd (omega arith)
often (suc t) k n some enough = omega arith

pub received-some : (rep : Rep) (m : Marked) (n : ℕ) → let es = m.entries in 0 < total rep es
    → received_elements rep m n ≡ (n / total rep es) * length es + done rep es (n % total rep es)
received-some rep m n some = done-repeated rep m.entries (suc n) n some (often (total rep m.entries) (suc n) n some (omega arith))

no_entries : (rep : Rep) (es : List Entry) → total rep es ≡ 0 → es ≡ []
no_entries rep [] none = refl
no_entries rep (e ∷ es) none = let some = size-pos rep e.kind in let sum = total-cons rep e es in absurd (omega arith)

nothing_repeated : {X : Type 0} (xs : List X) → flat_map (λ x. let es : List Entry = [] in es) xs ≡ []
nothing_repeated [] = refl
nothing_repeated (x ∷ xs) = nothing_repeated xs

pub done-nothing : (rep : Rep) (es : List Entry) (k n : ℕ) → total rep es ≡ 0 → done rep (flat_map (λ i. es) (below k)) n ≡ 0
done-nothing rep es k n none =
    ap (λ fs. done rep (flat_map (λ i. fs) (below k)) n) (no_entries rep es none) ∙ ap (λ fs. done rep fs n) (nothing_repeated (below k))

pub received-nothing : (rep : Rep) (m : Marked) (n : ℕ) → total rep m.entries ≡ 0 → received_elements rep m n ≡ 0
received-nothing rep m n none = done-nothing rep m.entries (suc n) n none

-- nothing or something
pub none_or_some : (n : ℕ) → (n ≡ 0) ⊎ (0 < n)
none_or_some zero = inl refl
none_or_some (suc n) = inr (omega arith)

pub received-le : (rep : Rep) (m : Marked) (n : ℕ) → received_elements rep m n ≤ n
received-le rep m n = done-le rep (flat_map (λ i. m.entries) (below (suc n))) n

-- the laws
pub repeated_often : RepeatedOften
repeated_often rep m n k often_enough =
    elim (none_or_some (total rep m.entries)) [
      | inl none ↦ done-nothing rep m.entries k n none ∙ sym (received-nothing rep m n none)
      | inr some ↦ done-repeated rep m.entries k n some (often (total rep m.entries) k n some often_enough) ∙ sym (received-some rep m n some)
    ]

operation_nothing : (rep : Rep) (m : Marked) (count n : ℕ) (origin : ℤ) → total rep m.entries ≡ 0 → done rep (elements m count origin) n ≡ 0
operation_nothing rep m count n origin none =
    let gone = no_entries rep m.entries none in
    ap (λ es. done rep (flat_map (λ i. shift (origin +ℤ (pos i *ℤ extent_of m)) es) (below count)) n) gone
    ∙ ap (λ fs. done rep fs n) (nothing_repeated (below count))

pub received_are_done : ReceivedAreDone
received_are_done rep m count n origin small =
    let at : ℕ → ℤ = λ i. origin +ℤ (pos i *ℤ extent_of m) in
    let all = total_of_elements rep m count origin in
    let long = length-map (below count) at ∙ length-below count in
    let enough : n ≤ count * total rep m.entries = omega arith in
    elim (none_or_some (total rep m.entries)) [
      | inl none ↦ operation_nothing rep m count n origin none ∙ sym (received-nothing rep m n none)
      | inr some ↦
          ap (λ es. done rep es n) (sym (flat_map-map (λ x. shift x m.entries) at (below count)))
          ∙ done-placed rep m.entries (map at (below count)) n some (subst (λ l. n ≤ l * total rep m.entries) (sym long) enough)
          ∙ sym (received-some rep m n some)
    ]

done-never_falls : (rep : Rep) (es : List Entry) (n k : ℕ) → n ≤ k → done rep es n ≤ done rep es k
done-never_falls rep es n k more =
    let few = done_is_greatest rep es n in
    let many = done_is_greatest rep es k in
    many.2 (done rep es n) few.0 (let fit = few.1 in omega arith)

pub counts_never_fall : CountsNeverFall
counts_never_fall rep m n k more =
    let first = repeated_often rep m n (suc k) (omega arith) in
    let grown = done-never_falls rep (flat_map (λ i. m.entries) (below (suc k))) n k more in
    omega arith

whole_at : (one n c : ℕ) → whole_copies (suc one) n ≡ Some c → c * suc one ≡ n
whole_at one n c is =
    let parts = div-add-mod' n (suc one) in
    elim (eqb_tells (n % suc one) 0) [
      | inl h ↦
          let found : Some (n / suc one) ≡ Some c = sym (ap (λ b. cond b (Some (n / suc one)) None) h.0) ∙ is in
          let quotient : n / suc one ≡ c = cc in
          let rest = h.1 in
          let product = ap (λ q. q * suc one) quotient in
          omega arith
      | inr h ↦ let found : None ≡ Some c = sym (ap (λ b. cond b (Some (n / suc one)) None) h.0) ∙ is in cc
    ]

at_whole : (one n c : ℕ) → c * suc one ≡ n → whole_copies (suc one) n ≡ Some c
at_whole one n c is =
    let rest : n % suc one ≡ 0 = ap (λ k. k % suc one) (sym is) ∙ mul-mod_left c (suc one) in
    let quotient : n / suc one ≡ c = ap (λ k. k / suc one) (sym is) ∙ mul-div_cancel c (omega arith) in
    elim (eqb_tells (n % suc one) 0) [
      | inl h ↦ ap (λ b. cond b (Some (n / suc one)) None) h.0 ∙ ap Some quotient
      | inr h ↦ absurd (h.1 rest)
    ]

pub copies_are_whole : CopiesAreWhole
copies_are_whole zero n c some = absurd (omega arith)
copies_are_whole (suc one) n c some = (whole_at one n c, at_whole one n c)

pub nothing_received : NothingReceived
nothing_received rep m n none = (received-nothing rep m n none, ap (λ t. whole_copies t 0) none, ap (λ t. whole_copies t (suc n)) none)

no_copies : (n c : ℕ) → whole_copies 0 n ≡ Some c → c ≡ 0
no_copies zero c is = cc
no_copies (suc n) c is = cc

pub whole_copies_have_all : WholeCopiesHaveAll
whole_copies_have_all rep m n c is =
    elim (none_or_some (total rep m.entries)) [
      | inl none ↦
          let copies = no_copies n c (sym (ap (λ t. whole_copies t n) none) ∙ is) in
          received-nothing rep m n none ∙ sym (ap (λ k. k * length m.entries) copies ∙ omega arith)
      | inr some ↦
          let all = (copies_are_whole (total rep m.entries) n c some).0 is in
          let rest : n % total rep m.entries ≡ 0 = ap (λ k. k % total rep m.entries) (sym all) ∙ mul-mod_left c (total rep m.entries) in
          let quotient : n / total rep m.entries ≡ c = ap (λ k. k / total rep m.entries) (sym all) ∙ mul-div_cancel c some in
          let none = done-le rep m.entries 0 in
          let end : done rep m.entries 0 ≡ 0 = omega arith in
          received-some rep m n some
          ∙ ap (λ q. q * length m.entries + done rep m.entries (n % total rep m.entries)) quotient
          ∙ ap (λ k. c * length m.entries + done rep m.entries k) rest
          ∙ ap (λ k. c * length m.entries + k) end ∙ omega arith
    ]
