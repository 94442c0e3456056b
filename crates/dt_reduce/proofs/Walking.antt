-- Rows that are joined, one after another, from the first element on.
use Rattle.std.proofs.Common.{◌≡◌, ℕ, zero, suc, ◌+◌, ◌*◌, ◌<◌, ◌≤◌, true, ◌&&◌, ℤ, List, [], ◌∷◌, ◌++◌, take, drop, length, refl, sym, ap, subst, ◌∙◌, arith}
use Rattle.std.proofs.lemmas.Bool.{and_parts}
use Rattle.std.proofs.lemmas.List.{drop-map, take-map, length-map, length-take, get_or-take}
use Rattle.std.proofs.lemmas.Nat.{mul-le}
use Rattle.dt_kinds.specs.declared.kind.Kind.{Kind}
use Rattle.dt_kinds.specs.declared.kind.Rep.TheVariants.{Native}
use Rattle.dt_map.specs.declared.entry.Entry.{Entry}
use Rattle.dt_map.specs.Elements.{are_inside, lies_inside, IsByteOf, Overlaps}
use Rattle.dt_map.specs.Typemap.{shift, shift_entry}
use Rattle.dt_reduce.specs.Paired.{Paired, ArePaired, AreNextRows, source_of, target_of, at_count, after}
use Rattle.dt_reduce.specs.Reduced.{reduced}
use Rattle.dt_reduce.proofs.Reducing.{reduced_more}
use Rattle.dt_rows.specs.declared.rows.Rows.{Rows}
use Rattle.dt_rows.specs.Rows.{elements_of_rows}
use Rattle.dt_rows.proofs.Packing.{some_elements}
use Rattle.dt_rows.proofs.SettingRows.{two_pieces}

inside_drop : (len n : ℕ) (es : List Entry) → are_inside len es ≡ true → are_inside len (drop n es) ≡ true
inside_drop len zero [] all = refl
inside_drop len zero (e ∷ es) all = all
inside_drop len (suc n) [] all = refl
inside_drop len (suc n) (e ∷ es) all = inside_drop len n es (and_parts (lies_inside len e) (are_inside len es) all).1

inside_take : (len n : ℕ) (es : List Entry) → are_inside len es ≡ true → are_inside len (take n es) ≡ true
inside_take len zero [] all = refl
inside_take len zero (e ∷ es) all = refl
inside_take len (suc n) [] all = refl
inside_take len (suc n) (e ∷ es) all =
    let parts = and_parts (lies_inside len e) (are_inside len es) all in
    ap (λ b. b && are_inside len (take n es)) parts.0 ∙ inside_take len n es parts.1

overlaps_front : (m : ℕ) (es : List Entry) → Overlaps (take m es) → Overlaps es
overlaps_front m es (i, j, x, less, within, one, other) =
    let long = length-take m es in
    let few : j < m = omega (arith, within, long) in (
      i,
      j,
      x,
      less,
      omega (arith, within, long),
      (λ d. subst (IsByteOf x) (get_or-take m es i d (omega (arith, less, few))) (one d)),
      (λ d. subst (IsByteOf x) (get_or-take m es j d few) (other d)),
    )

-- elements of an operation that come next, at its place in a buffer
next_placed : (x : ℤ) (k n : ℕ) (es : List Entry) → shift x (take n (drop k es)) ≡ take n (drop k (shift x es))
next_placed x k n es = sym (ap (take n) (drop-map (shift_entry x) k es) ∙ take-map (shift_entry x) n (drop k es))

length-front : (x : ℤ) (k : ℕ) (es : List Entry) → length (take k (shift x es)) ≡ length (take k es)
length-front x k es = ap length (take-map (shift_entry x) k es) ∙ length-map (take k es) (shift_entry x)

-- rows that come next of elements of which some were joined
pub record IsStep (a p q : Paired) (r : Rows) (x y : ℤ) : Type 0 where
  pub passed : q ≡ at_count a q.done
  pub done : q.done ≡ p.done + r.rows * r.run.elements
  pub some : 0 < r.rows * r.run.elements
  pub source_inside : are_inside a.source_len (source_of a) ≡ true
  pub target_inside : are_inside a.target_len (target_of a) ≡ true
  pub apart : Overlaps (target_of a) → ⊥
  pub within : q.done ≤ length a.elements
  pub source : shift x (elements_of_rows r) ≡ take (r.rows * r.run.elements) (drop p.done (source_of a))
  pub target : shift y (elements_of_rows r) ≡ take (r.rows * r.run.elements) (drop p.done (target_of a))

pub step : (a p q : Paired) (r : Rows) (x y : ℤ) → p ≡ at_count a p.done → AreNextRows p r → q ≡ after p (r.rows * r.run.elements) → ArePaired q → x ≡ q.source_origin → y ≡ q.target_origin
    → IsStep a p q r x y
step a p q r x y is next moved are here there =
    let n = r.rows * r.run.elements in
    let k = p.done in
    let count : q.done ≡ k + n = ap (λ (u : Paired). u.done) moved in
    let passed : q ≡ at_count a q.done = moved ∙ ap (λ (u : Paired). at_count u (k + n)) is ∙ ap (at_count a) (sym count) in
    let elements : elements_of_rows r ≡ take n (drop k a.elements) = next.all ∙ ap (λ (u : Paired). take n (drop k u.elements)) is in
    let known = subst ArePaired passed are in
    let least = mul-le 1 1 r.rows r.run.elements next.shape.some (some_elements Native r.run next.shape.run) in
    record {
      passed = passed;
      done = count;
      some = omega (arith, least);
      source_inside = known.source;
      target_inside = known.target;
      apart = known.apart;
      within = known.within;
      source = ap (λ z. shift z (elements_of_rows r)) (here ∙ ap (λ (u : Paired). u.source_origin) passed) ∙ ap (shift a.source_origin) elements ∙ next_placed a.source_origin k n a.elements;
      target = ap (λ z. shift z (elements_of_rows r)) (there ∙ ap (λ (u : Paired). u.target_origin) passed) ∙ ap (shift a.target_origin) elements ∙ next_placed a.target_origin k n a.elements;
    }

module _ (a p q : Paired) (r : Rows) (x y : ℤ) (s : IsStep a p q r x y) where
  abbrev count : ℕ
  count = r.rows * r.run.elements

  pub source_lies : (len : ℕ) → len ≡ a.source_len → are_inside len (shift x (elements_of_rows r)) ≡ true
  source_lies len same =
      ap (are_inside len) s.source
      ∙ inside_take len count (drop p.done (source_of a)) (inside_drop len p.done (source_of a) (ap (λ n. are_inside n (source_of a)) same ∙ s.source_inside))

  pub target_lies : (len : ℕ) → len ≡ a.target_len → are_inside len (shift y (elements_of_rows r)) ≡ true
  target_lies len same =
      ap (are_inside len) s.target
      ∙ inside_take len count (drop p.done (target_of a)) (inside_drop len p.done (target_of a) (ap (λ n. are_inside n (target_of a)) same ∙ s.target_inside))

  pub more_joined : (join : Kind → ℕ → ℕ → ℕ) (source old mid new : List ℕ) → length old ≡ a.target_len
      → mid ≡ reduced join (take p.done (source_of a)) (take p.done (target_of a)) source old
      → new ≡ reduced join (shift x (elements_of_rows r)) (shift y (elements_of_rows r)) source mid
      → new ≡ reduced join (take q.done (source_of a)) (take q.done (target_of a)) source old
  more_joined join source old mid new same before here =
      let k = p.done in
      let es = source_of a in
      let fs = target_of a in
      let inside : are_inside (length old) fs ≡ true = ap (λ n. are_inside n fs) same ∙ s.target_inside in
      let apart : Overlaps (take k fs ++ take count (drop k fs)) → ⊥ = λ over. s.apart (overlaps_front (k + count) fs (subst Overlaps (two_pieces fs k count) over)) in
      here
      ∙ ap (λ hs. reduced join hs (shift y (elements_of_rows r)) source mid) s.source
      ∙ ap (λ hs. reduced join (take count (drop k es)) hs source mid) s.target
      ∙ ap (reduced join (take count (drop k es)) (take count (drop k fs)) source) before
      ∙ reduced_more join (take k es) (take count (drop k es)) (take k fs) (take count (drop k fs)) source old
      (length-front a.source_origin k a.elements ∙ sym (length-front a.target_origin k a.elements)) apart
      (inside_take (length old) k fs inside) (inside_take (length old) count (drop k fs) (inside_drop (length old) k fs inside))
      ∙ ap (λ hs. reduced join hs (take k fs ++ take count (drop k fs)) source old) (two_pieces es k count)
      ∙ ap (λ hs. reduced join (take (k + count) es) hs source old) (two_pieces fs k count)
      ∙ ap (λ n. reduced join (take n es) (take n fs) source old) (sym s.done)
