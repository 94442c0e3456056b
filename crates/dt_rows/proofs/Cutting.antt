-- The first bytes of what stands in external32 for adjacent elements, and its bytes from inside the first element on.
use Rattle.std.proofs.Common.{◌≡◌, ℕ, suc, ◌+◌, ◌-◌, ◌*◌, ◌≤◌, ◌<◌, ℤ, pos, ◌+ℤ◌, ◌*ℤ◌, List, [], ◌∷◌, ◌++◌, take, drop, length, reverse, refl, sym, ap, ◌∙◌, arith, append-nil, length-drop}
use Rattle.std.specs.Prelude.{nat_abs}
use Rattle.std.specs.List.{flat_map}
use Rattle.std.proofs.lemmas.Int.{ints}
use Rattle.std.proofs.lemmas.List.{length-take-le, length-reverse, take_all, take_at, take-append-le, drop-append-le}
use Rattle.std.proofs.lemmas.Nat.{mul-le}
use Rattle.std.proofs.Math.Seq.{take-append-add}
use Rattle.dt_kinds.specs.declared.kind.Kind.{Kind}
use Rattle.dt_kinds.specs.Kind.{native_size, external_size}
use Rattle.dt_kinds.proofs.Table.{external_is_no_larger}
use Rattle.dt_offsets.specs.Offsets.{below}
use Rattle.dt_rows.specs.Pieces.{bytes_from, turned, turned_row, IsPiece}
use Rattle.dt_rows.proofs.Joined.{joined_same, joined_split, length-joined}
use Rattle.dt_rows.proofs.RowBytes.{pieces_by_number}

flat_map_same : {X A : Type 0} (f g : X → List A) (xs : List X) → ((x : X) → f x ≡ g x) → flat_map f xs ≡ flat_map g xs
flat_map_same f g [] same = refl
flat_map_same f g (x ∷ xs) same = ap (λ s. s ++ flat_map f xs) (same x) ∙ ap (λ s. g x ++ s) (flat_map_same f g xs same)

module _ (kind : Kind) (buffer : List ℕ) where
  abbrev size : ℕ
  size = native_size kind

  abbrev ext : ℕ
  ext = external_size kind

  abbrev row : ℕ → ℤ → List ℕ
  row n x = turned_row kind n buffer x

  -- one element is a row of one
  one_turned : (x : ℤ) → row 1 x ≡ turned kind buffer x
  one_turned x = let here : x +ℤ (pos 0 *ℤ pos size) ≡ x = omega (arith, ints) in append-nil _ ∙ ap (turned kind buffer) here

  pub ones_turned : (places : List ℤ) → flat_map (turned_row kind 1 buffer) places ≡ flat_map (turned kind buffer) places
  ones_turned places = flat_map_same (turned_row kind 1 buffer) (turned kind buffer) places one_turned

  -- two rows one after another
  row_split : (w m : ℕ) (x : ℤ) → row (w + m) x ≡ row w x ++ row m (x +ℤ pos (w * size))
  row_split w m x =
      let at : ℤ → ℕ → List ℕ = λ y j. turned kind buffer (y +ℤ (pos j *ℤ pos size)) in
      let further : (j : ℕ) → x +ℤ (pos (w + j) *ℤ pos size) ≡ (x +ℤ pos (w * size)) +ℤ (pos j *ℤ pos size) = λ j. omega (arith, ints) in
      pieces_by_number reverse ext buffer x (w + m) (pos size)
      ∙ joined_split (at x) w m
      ∙ ap (λ s. s ++ flat_map (λ j. at x (w + j)) (below m)) (sym (pieces_by_number reverse ext buffer x w (pos size)))
      ∙ ap (λ s. row w x ++ s) (joined_same _ (at (x +ℤ pos (w * size))) m (λ j lt. ap (turned kind buffer) (further j)) ∙ sym (pieces_by_number reverse ext buffer _ m (pos size)))

  length-turned : (x : ℤ) → nat_abs x + size ≤ length buffer → length (turned kind buffer x) ≡ ext
  length-turned x within =
      let small = external_is_no_larger kind in
      length-reverse (bytes_from buffer ext x) ∙ length-take-le ext (drop (nat_abs x) buffer) (omega (arith, small, within, length-drop (nat_abs x) buffer))

  -- a row that lies inside has all its bytes
  element_within : (n j : ℕ) (x : ℤ) → IsPiece (length buffer) (n * size) x → j < n → nat_abs (x +ℤ pos (j * size)) + size ≤ length buffer
  element_within n j x inside lt =
      let all = mul-le (suc j) size n size (omega arith) (omega arith) in
      let from = inside.from in
      let within = inside.within in
      let next : suc j * size ≡ j * size + size = omega arith in
      omega (arith, ints, all, from, within, next)

  pub length-row : (n w : ℕ) (x : ℤ) → IsPiece (length buffer) (n * size) x → w ≤ n → length (row w x) ≡ w * ext
  length-row n w x inside le =
      ap length (pieces_by_number reverse ext buffer x w (pos size))
      ∙ length-joined (λ j. turned kind buffer (x +ℤ (pos j *ℤ pos size))) ext w (λ j lt. length-turned (x +ℤ pos (j * size)) (element_within n j x inside (omega arith)))

  -- the first bytes of a row: those of whole elements, and some of one more
  pub whole_leading : (n w : ℕ) (x : ℤ) → IsPiece (length buffer) (n * size) x → w ≤ n → take (w * ext) (row n x) ≡ row w x
  whole_leading n w x inside le =
      let parts : n ≡ w + (n - w) = omega arith in
      ap (λ k. take (w * ext) (row k x)) parts ∙ ap (take (w * ext)) (row_split w (n - w) x)
      ∙ take_at (row w x) (row (n - w) (x +ℤ pos (w * size))) (w * ext) (length-row n w x inside le)

  pub more_leading : (n w t : ℕ) (x : ℤ) → IsPiece (length buffer) (n * size) x → w < n → t ≤ ext
      → take (w * ext + t) (row n x) ≡ row w x ++ take t (turned kind buffer (x +ℤ pos (w * size)))
  more_leading n w t x inside lt le =
      let parts : n ≡ w + (1 + (n - w - 1)) = omega arith in
      let there = x +ℤ pos (w * size) in
      let rest = row (n - w - 1) (there +ℤ pos (1 * size)) in
      let one = turned kind buffer there in
      let long = length-turned there (element_within n w x inside lt) in
      ap (λ k. take (w * ext + t) (row k x)) parts ∙ ap (take (w * ext + t)) (row_split w (1 + (n - w - 1)) x)
      ∙ ap (λ k. take (k + t) (row w x ++ row (1 + (n - w - 1)) there)) (sym (length-row n w x inside (omega arith)))
      ∙ take-append-add (row w x) (row (1 + (n - w - 1)) there) t
      ∙ ap (λ s. row w x ++ take t s) (row_split 1 (n - w - 1) there ∙ ap (λ s. s ++ rest) (one_turned there))
      ∙ ap (λ s. row w x ++ s) (take-append-le t one rest (omega (arith, long)))

  -- the bytes of a row from inside its first element on
  cut_row : (n skip : ℕ) (x : ℤ) → IsPiece (length buffer) (n * size) x → 0 < n → skip ≤ ext
      → drop skip (row n x) ≡ drop skip (turned kind buffer x) ++ row (n - 1) (x +ℤ pos size)
  cut_row n skip x inside some le =
      let parts : n ≡ 1 + (n - 1) = omega arith in
      let one = turned kind buffer x in
      let first : x +ℤ pos (0 * size) ≡ x = omega (arith, ints) in
      let next : x +ℤ pos (1 * size) ≡ x +ℤ pos size = omega (arith, ints) in
      let long = ap (λ z. length (turned kind buffer z)) (sym first) ∙ length-turned (x +ℤ pos (0 * size)) (element_within n 0 x inside some) in
      ap (λ k. drop skip (row k x)) parts
      ∙ ap (drop skip) (row_split 1 (n - 1) x ∙ ap (λ s. s ++ row (n - 1) (x +ℤ pos (1 * size))) (one_turned x) ∙ ap (λ z. one ++ row (n - 1) z) next)
      ∙ drop-append-le skip one (row (n - 1) (x +ℤ pos size)) (omega (arith, long))

  rest_of_one : (n skip : ℕ) (x : ℤ) → IsPiece (length buffer) (n * size) x → 0 < n → length (drop skip (turned kind buffer x)) ≡ ext - skip
  rest_of_one n skip x inside some =
      let first : x +ℤ pos (0 * size) ≡ x = omega (arith, ints) in
      let long = ap (λ z. length (turned kind buffer z)) (sym first) ∙ length-turned (x +ℤ pos (0 * size)) (element_within n 0 x inside some) in
      length-drop skip (turned kind buffer x) ∙ ap (λ k. k - skip) long

  pub cut_in_one : (n skip b : ℕ) (x : ℤ) → IsPiece (length buffer) (n * size) x → 0 < n → skip + b ≤ ext
      → take b (drop skip (row n x)) ≡ take b (drop skip (turned kind buffer x))
  cut_in_one n skip b x inside some le =
      let long = rest_of_one n skip x inside some in
      ap (take b) (cut_row n skip x inside some (omega arith)) ∙ take-append-le b (drop skip (turned kind buffer x)) (row (n - 1) (x +ℤ pos size)) (omega (arith, long))

  pub cut_and_more : (n skip h k : ℕ) (x : ℤ) → IsPiece (length buffer) (n * size) x → 0 < n → skip + h ≡ ext
      → take (h + k) (drop skip (row n x)) ≡ take h (drop skip (turned kind buffer x)) ++ take k (row (n - 1) (x +ℤ pos size))
  cut_and_more n skip h k x inside some is =
      let one = drop skip (turned kind buffer x) in
      let long = rest_of_one n skip x inside some in
      let all : take h one ≡ one = take_all h one (omega (arith, long)) in
      let same : h ≡ length one = omega (arith, long) in
      ap (take (h + k)) (cut_row n skip x inside some (omega arith))
      ∙ ap (λ j. take (j + k) (one ++ row (n - 1) (x +ℤ pos size))) same
      ∙ take-append-add one (row (n - 1) (x +ℤ pos size)) k
      ∙ ap (λ s. s ++ take k (row (n - 1) (x +ℤ pos size))) (sym all)
