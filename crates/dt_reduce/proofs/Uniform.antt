-- Elements of one kind: their words are joined as their bytes stand, one after another.
use Rattle.std.proofs.Common.{◌≡◌, ℕ, ◌*◌, true, ℤ, pos, List, [], ◌∷◌, ◌++◌, map, drop, length, refl, sym, ap, ◌∙◌, arith, length-append}
use Rattle.std.proofs.lemmas.Bool.{and_parts}
use Rattle.std.proofs.lemmas.List.{drop_at, length-map}
use Rattle.std.specs.List.{AllByRecursion, flat_map}
use Rattle.byteorder.specs.Endian.{little_number, little_bytes}
use Rattle.byteorder.specs.Numbers.{little_from-append}
use Rattle.dt_kinds.specs.declared.kind.Kind.{Kind}
use Rattle.dt_kinds.specs.declared.kind.Rep.TheVariants.{Native}
use Rattle.dt_kinds.specs.Kind.{native_size}
use Rattle.dt_map.specs.declared.entry.Entry.{Entry}
use Rattle.dt_map.specs.Elements.{are_inside, lies_inside}
use Rattle.dt_map.specs.Packed.{bytes_at, packed}
use Rattle.dt_map.specs.Typemap.{shift, shift_entry}
use Rattle.dt_map.proofs.Seats.{length-below}
use Rattle.dt_offsets.specs.Offsets.{below, row_offsets}
use Rattle.dt_reduce.specs.Reduced.{joined_bytes}
use Rattle.dt_reduce.specs.Words.{joined_words}
use Rattle.dt_rows.specs.declared.rows.Rows.{Rows}
use Rattle.dt_rows.specs.Rows.{element_at, adjacent, elements_of_rows}
use Rattle.dt_elems.proofs.Clashes.{lies}
use Rattle.dt_reduce.proofs.Apart.{size_there}

-- all elements have a kind
abbrev pub AreOf : Kind → List Entry → Type 0
AreOf kind es = AllByRecursion (λ e. e.kind ≡ kind) es

of_places : (kind : Kind) (places : List ℤ) → AreOf kind (map (element_at kind) places)
of_places kind [] = tt
of_places kind (x ∷ places) = (refl, of_places kind places)

of_append : (kind : Kind) (es fs : List Entry) → AreOf kind es → AreOf kind fs → AreOf kind (es ++ fs)
of_append kind [] fs first last = last
of_append kind (e ∷ es) fs first last = (first.0, of_append kind es fs first.1 last)

of_each : (kind : Kind) (n : ℕ) (places : List ℤ) → AreOf kind (flat_map (adjacent kind n) places)
of_each kind n [] = tt
of_each kind n (x ∷ places) = of_append kind (adjacent kind n x) (flat_map (adjacent kind n) places) (of_places kind _) (of_each kind n places)

pub of_rows : (r : Rows) → AreOf r.run.kind (elements_of_rows r)
of_rows r = of_each r.run.kind r.run.elements (row_offsets r.run.disp r.rows r.step)

length-offsets : (x : ℤ) (n : ℕ) (step : ℤ) → length (row_offsets x n step) ≡ n
length-offsets x n step = length-map (below n) _ ∙ length-below n

length-each : (kind : Kind) (n : ℕ) (places : List ℤ) → length (flat_map (adjacent kind n) places) ≡ length places * n
length-each kind n [] = omega arith
length-each kind n (x ∷ places) =
    let rest = length-each kind n places in
    let here = length-map (row_offsets x n (pos (native_size kind))) (element_at kind) ∙ length-offsets x n (pos (native_size kind)) in
    omega (arith, rest, here, length-append (adjacent kind n x) (flat_map (adjacent kind n) places))

pub length-rows : (r : Rows) → length (elements_of_rows r) ≡ r.rows * r.run.elements
length-rows r =
    length-each r.run.kind r.run.elements (row_offsets r.run.disp r.rows r.step)
    ∙ ap (λ n. n * r.run.elements) (length-offsets r.run.disp r.rows r.step)

-- the first word of packed bytes
first_word : (buffer : List ℕ) (e : Entry) (rest : List ℕ) (size : ℕ) → native_size e.kind ≡ size → length (bytes_at buffer e) ≡ native_size e.kind
    → little_number (native_size e.kind) (bytes_at buffer e) ≡ little_number size (bytes_at buffer e ++ rest)
first_word buffer e rest size same long =
    sym (little_from-append (native_size e.kind) (bytes_at buffer e) rest (omega (arith, long)))
    ∙ ap (λ n. little_number n (bytes_at buffer e ++ rest)) same

module _ (join : Kind → ℕ → ℕ → ℕ) (kind : Kind) (x y : ℤ) (source target : List ℕ) where
  pub joined_is_words : (hs : List Entry) → AreOf kind hs → are_inside (length source) (shift x hs) ≡ true → are_inside (length target) (shift y hs) ≡ true
      → joined_bytes join (shift x hs) (shift y hs) source target
      ≡ joined_words join kind (length hs) (packed Native (shift x hs) source) (packed Native (shift y hs) target)
  joined_is_words [] all here there = refl
  joined_is_words (h ∷ hs) all here there =
      let e = shift_entry x h in
      let f = shift_entry y h in
      let size = native_size kind in
      let same : native_size h.kind ≡ size = ap native_size all.0 in
      let parts = and_parts (lies_inside (length source) e) (are_inside (length source) (shift x hs)) here in
      let other = and_parts (lies_inside (length target) f) (are_inside (length target) (shift y hs)) there in
      let long = size_there source e (lies (length source) e parts.0) in
      let wide = size_there target f (lies (length target) f other.0) in
      let a = packed Native (shift x hs) source in
      let b = packed Native (shift y hs) target in
      let word = first_word source e a size same long in
      let mine = first_word target f b size same wide in
      let later = joined_bytes join (shift x hs) (shift y hs) source target in
      ap (λ w. little_bytes (native_size h.kind) (join h.kind w (little_number (native_size h.kind) (bytes_at target f))) ++ later) word
      ∙ ap (λ w. little_bytes (native_size h.kind) (join h.kind (little_number size (bytes_at source e ++ a)) w) ++ later) mine
      ∙ ap (λ k. little_bytes (native_size k) (join k (little_number size (bytes_at source e ++ a)) (little_number size (bytes_at target f ++ b))) ++ later) all.0
      ∙ ap (λ s. little_bytes size (join kind (little_number size (bytes_at source e ++ a)) (little_number size (bytes_at target f ++ b))) ++ s)
      (joined_is_words hs all.1 parts.1 other.1
      ∙ ap (λ s. joined_words join kind (length hs) s b) (sym (drop_at (bytes_at source e) a size (long ∙ same)))
      ∙ ap (λ s. joined_words join kind (length hs) (drop size (bytes_at source e ++ a)) s) (sym (drop_at (bytes_at target f) b size (wide ∙ same))))
