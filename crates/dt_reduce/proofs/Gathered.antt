-- Rows whose bytes were gathered from both sides, joined, and scattered: their elements are reduced.
use Rattle.std.proofs.Common.{◌≡◌, ℕ, zero, suc, ◌+◌, ◌*◌, ◌≤◌, true, ℤ, List, ◌++◌, take, drop, length, refl, sym, ap, ◌∙◌, arith, length-drop}
use Rattle.std.proofs.Math.Nat.{mul_assoc}
use Rattle.std.proofs.lemmas.List.{drop-append-le, take_all}
use Rattle.byteorder.specs.Endian.{little_number, little_bytes}
use Rattle.byteorder.specs.Numbers.{little_from-append}
use Rattle.dt_kinds.specs.declared.kind.Kind.{Kind}
use Rattle.dt_kinds.specs.declared.kind.Rep.TheVariants.{Native}
use Rattle.dt_kinds.specs.Kind.{native_size}
use Rattle.dt_map.specs.declared.entry.Entry.{Entry}
use Rattle.dt_map.specs.Elements.{are_inside}
use Rattle.dt_map.specs.Packed.{packed, total}
use Rattle.dt_map.specs.Setting.{set_each}
use Rattle.dt_map.specs.Typemap.{shift}
use Rattle.dt_map.proofs.Copies.{total-shift}
use Rattle.dt_map.proofs.Writing.{packed_has_total}
use Rattle.dt_reduce.specs.Reduced.{reduced}
use Rattle.dt_reduce.specs.Words.{joined_word, joined_words}
use Rattle.dt_reduce.proofs.Joining.{length-words}
use Rattle.dt_reduce.proofs.Reducing.{set_front}
use Rattle.dt_reduce.proofs.Uniform.{of_rows, length-rows, joined_is_words}
use Rattle.dt_rows.specs.declared.rows.Rows.{Rows}
use Rattle.dt_rows.specs.Rows.{elements_of_rows, bytes_in, packed_rows}
use Rattle.dt_rows.specs.Storing.{IsWhole}
use Rattle.dt_rows.proofs.SettingRows.{drop_none}
use Rattle.dt_rows.proofs.Totals.{total_of_rows}

-- words use no bytes behind them
words_of_front : (join : Kind → ℕ → ℕ → ℕ) (kind : Kind) (n : ℕ) (a b more rest : List ℕ) → n * native_size kind ≤ length a → n * native_size kind ≤ length b
    → joined_words join kind n (a ++ more) (b ++ rest) ≡ joined_words join kind n a b
words_of_front join kind zero a b more rest long wide = refl
words_of_front join kind (suc n) a b more rest long wide =
    let size = native_size kind in
    let next : suc n * size ≡ size + n * size = omega arith in
    let here : size ≤ length a = omega (arith, long, next) in
    let there : size ≤ length b = omega (arith, wide, next) in
    let later = joined_words join kind n (drop size (a ++ more)) (drop size (b ++ rest)) in
    ap (λ w. little_bytes size (join kind w (little_number size (b ++ rest))) ++ later) (little_from-append size a more here)
    ∙ ap (λ w. little_bytes size (join kind (little_number size a) w) ++ later) (little_from-append size b rest there)
    ∙ ap (λ s. joined_word join kind a b ++ joined_words join kind n s (drop size (b ++ rest))) (drop-append-le size a more here)
    ∙ ap (λ s. joined_word join kind a b ++ joined_words join kind n (drop size a ++ more) s) (drop-append-le size b rest there)
    ∙ ap (λ s. joined_word join kind a b ++ s) (words_of_front join kind n (drop size a) (drop size b) more rest (omega (arith, long, next, length-drop size a)) (omega (arith, wide, next, length-drop size b)))

module _ (r : Rows) (whole : IsWhole Native r.run) where
  abbrev here : List Entry
  here = elements_of_rows r

  pub bytes_are : total Native here ≡ bytes_in r
  bytes_are = total_of_rows Native r ∙ ap (λ n. r.rows * n) (sym whole.1)

  pub count_bytes : (r.rows * r.run.elements) * native_size r.run.kind ≡ bytes_in r
  count_bytes = mul_assoc r.rows r.run.elements (native_size r.run.kind) ∙ ap (λ n. r.rows * n) (sym whole.1)

  module _ (x : ℤ) (buffer : List ℕ) (inside : are_inside (length buffer) (shift x here) ≡ true) where
    images : List ℕ
    images = packed Native (shift x here) buffer

    length-images : length (packed Native (shift x here) buffer) ≡ bytes_in r
    length-images = packed_has_total Native (shift x here) buffer inside ∙ total-shift Native x here ∙ bytes_are

    rows_are_packed : packed_rows Native r x buffer ≡ packed Native (shift x here) buffer
    rows_are_packed =
        ap (λ k. take (bytes_in r) (drop k (packed Native (shift x here) buffer))) whole.0
        ∙ ap (take (bytes_in r)) (drop_none (packed Native (shift x here) buffer))
        ∙ take_all (bytes_in r) (packed Native (shift x here) buffer) (omega (arith, length-images))

  pub rows_are_reduced : (join : Kind → ℕ → ℕ → ℕ) (x y : ℤ) (source target words mine joined more rest last : List ℕ) (count : ℕ)
      → are_inside (length source) (shift x here) ≡ true → are_inside (length target) (shift y here) ≡ true → count ≡ r.rows * r.run.elements
      → words ≡ packed_rows Native r x source ++ more → mine ≡ packed_rows Native r y target ++ rest
      → joined ≡ joined_words join r.run.kind count words mine ++ last
      → set_each Native (shift y here) target joined ≡ reduced join (shift x here) (shift y here) source target
  rows_are_reduced join x y source target words mine joined more rest last count inside within all gathered got put =
      let n = r.rows * r.run.elements in
      let kind = r.run.kind in
      let a = packed Native (shift x here) source in
      let b = packed Native (shift y here) target in
      let bytes = count_bytes in
      let long = length-images x source inside in
      let wide = length-images y target within in
      let word : joined_words join kind count words mine ≡ joined_words join kind n a b =
      ap (λ m. joined_words join kind m words mine) all
      ∙ ap (λ s. joined_words join kind n s mine) (gathered ∙ ap (λ s. s ++ more) (rows_are_packed x source inside))
      ∙ ap (λ s. joined_words join kind n (a ++ more) s) (got ∙ ap (λ s. s ++ rest) (rows_are_packed y target within))
      ∙ words_of_front join kind n a b more rest (omega (arith, bytes, long)) (omega (arith, bytes, wide)) in
      let size = length-words join kind n a b in
      let room = total-shift Native y here ∙ bytes_are in
      ap (set_each Native (shift y here) target) (put ∙ ap (λ s. s ++ last) word)
      ∙ set_front (shift y here) target (joined_words join kind n a b) last (omega (arith, size, bytes, room))
      ∙ ap (set_each Native (shift y here) target)
      (sym (joined_is_words join kind x y source target here (of_rows r) inside within ∙ ap (λ m. joined_words join kind m a b) (length-rows r)))
