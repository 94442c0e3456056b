-- Rows of words: joined, written as bytes, and read from them again.
use Rattle.std.proofs.Common.{◌≡◌, ℕ, zero, suc, ◌+◌, ◌-◌, ◌<◌, inl, inr, true, ℤ, pos, List, [], ◌∷◌, ◌++◌, take, drop, length, refl, sym, ap, subst, ◌∙◌, arith, length-append, length-drop}
use Rattle.std.proofs.Math.Nat.{mod-lt}
use Rattle.std.proofs.lemmas.Bool.{and_parts, cases_lt}
use Rattle.std.proofs.lemmas.List.{drop_at, get_or-drop, get_or-take, get_or_append_left, get_or-append_right, get_or_past, take-append-drop, length-take, length-take-le}
use Rattle.std.proofs.lemmas.List.Sums.{sum_by-cons}
use Rattle.std.specs.Int.{bytes_low_first}
use Rattle.std.specs.List.{AllByRecursion}
use Rattle.byteorder.specs.Endian.{little_number, little_bytes}
use Rattle.byteorder.specs.Numbers.{length-bytes_low_first, little_from-append, little_from-lt, little_number-reads_back}
use Rattle.dt_elems.proofs.Clashes.{lies}
use Rattle.dt_kinds.specs.Bytes.{AreBytes}
use Rattle.dt_kinds.proofs.Bytes.{numbers_keep_bytes}
use Rattle.dt_kinds.specs.declared.kind.Kind.{Kind}
use Rattle.dt_kinds.specs.declared.kind.Rep.TheVariants.{Native}
use Rattle.dt_kinds.specs.Kind.{native_size, packed_size}
use Rattle.dt_map.specs.declared.entry.Entry.{Entry}
use Rattle.dt_map.specs.Elements.{elements, are_inside, lies_inside}
use Rattle.dt_map.specs.Packed.{bytes_at, packed, total}
use Rattle.dt_map.specs.Typemap.{Marked, shift}
use Rattle.dt_ops.specs.Laws.{GivesWords, IsAssociative}
use Rattle.dt_ops.proofs.Folding.{IsOrderFree}
use Rattle.dt_reduce.specs.Folded.{kinds_of, words_of, AreWords, joined_row, bytes_of_row}
use Rattle.dt_reduce.specs.Kept.{row_of, ArePacked}
use Rattle.dt_reduce.proofs.Apart.{size_there}
use Rattle.dt_rows.proofs.Operation.{placed_elements}

total-cons : (e : Entry) (es : List Entry) → total Native (e ∷ es) ≡ native_size e.kind + total Native es
total-cons e es = sum_by-cons (λ (f : Entry). packed_size Native f.kind) e es

-- the rest of bytes are bytes
pub bytes_behind : (n : ℕ) (bytes : List ℕ) → AreBytes bytes → AreBytes (drop n bytes)
bytes_behind n bytes are i = subst (λ b. b < 256) (sym (get_or-drop n bytes i 0)) (are (n + i))

pub bytes_before : (n : ℕ) (bytes : List ℕ) → AreBytes bytes → AreBytes (take n bytes)
bytes_before n bytes are i =
    elim (cases_lt i n) [
      | inl less ↦ subst (λ b. b < 256) (sym (get_or-take n bytes i 0 less)) (are i)
      | inr past ↦ subst (λ b. b < 256) (sym (get_or_past (take n bytes) i 0 (omega (arith, past, length-take n bytes)))) (omega arith)
    ]

pub bytes-append : (first last : List ℕ) → AreBytes first → AreBytes last → AreBytes (first ++ last)
bytes-append first last are more i =
    elim (cases_lt i (length first)) [
      | inl less ↦ subst (λ b. b < 256) (sym (get_or_append_left first last 0 i less)) (are i)
      | inr past ↦ subst (λ b. b < 256) (sym (get_or-append_right first last (length first) i 0 refl past)) (more (i - length first))
    ]

are_bytes : (bytes : List ℕ) → AllByRecursion (λ b. b < 256) bytes → AreBytes bytes
are_bytes [] all i = omega arith
are_bytes (b ∷ bytes) all zero = all.0
are_bytes (b ∷ bytes) all (suc i) = are_bytes bytes all.1 i

each_low : (i n x : ℕ) → AllByRecursion (λ b. b < 256) (bytes_low_first i n x)
each_low i zero x = tt
each_low zero (suc n) x = (mod-lt x (omega arith), each_low 1 n x)
each_low (suc i) (suc n) x = (mod-lt _ (omega arith), each_low (suc (suc i)) n x)

-- the bytes of a word are bytes
pub word_bytes : (n word : ℕ) → AreBytes (little_bytes n word)
word_bytes n word = are_bytes (little_bytes n word) (each_low 0 n word)

-- bytes are read as words
pub row_is_words : (kinds : List Kind) (bytes : List ℕ) → AreBytes bytes → AreWords kinds (row_of kinds bytes)
row_is_words [] bytes are = tt
row_is_words (kind ∷ kinds) bytes are =
    (little_from-lt 0 (native_size kind) bytes are, row_is_words kinds (drop (native_size kind) bytes) (bytes_behind (native_size kind) bytes are))

-- words come back from their bytes
pub words_come_back : (kinds : List Kind) (words : List ℕ) → AreWords kinds words → row_of kinds (bytes_of_row kinds words) ≡ words
words_come_back [] [] are = refl
words_come_back [] (w ∷ words) are = absurd are
words_come_back (kind ∷ kinds) [] are = absurd are
words_come_back (kind ∷ kinds) (w ∷ words) are =
    let size = native_size kind in
    let rest = bytes_of_row kinds words in
    ap (λ n. n ∷ row_of kinds (drop size (little_bytes size w ++ rest))) (little_number-reads_back size w rest are.0)
    ∙ ap (λ s. w ∷ row_of kinds s) (drop_at (little_bytes size w) rest size (length-bytes_low_first 0 size w))
    ∙ ap (λ s. w ∷ s) (words_come_back kinds words are.1)

-- and bytes from their words
pub bytes_come_back : (es : List Entry) (bytes : List ℕ) → ArePacked es bytes → bytes_of_row (kinds_of es) (row_of (kinds_of es) bytes) ≡ bytes
bytes_come_back [] [] p = refl
bytes_come_back [] (b ∷ bytes) p = let all = p.all in absurd (omega (arith, all))
bytes_come_back (e ∷ es) bytes p =
    let size = native_size e.kind in
    let long = p.all in
    let all = total-cons e es in
    let wide = length-take-le size bytes (omega (arith, long, all)) in
    let split = take-append-drop size bytes in
    let number : little_number size bytes ≡ little_number size (take size bytes) =
    ap (little_number size) (sym split) ∙ little_from-append size (take size bytes) (drop size bytes) (omega (arith, wide)) in
    ap (λ n. little_bytes size n ++ bytes_of_row (kinds_of es) (row_of (kinds_of es) (drop size bytes))) number
    ∙ ap (λ s. s ++ bytes_of_row (kinds_of es) (row_of (kinds_of es) (drop size bytes))) (numbers_keep_bytes size (take size bytes) wide (bytes_before size bytes p.bytes)).1
    ∙ ap (λ s. take size bytes ++ s) (bytes_come_back es (drop size bytes) (record { all = omega (arith, long, all, length-drop size bytes); bytes = bytes_behind size bytes p.bytes }))
    ∙ split

-- words have as many bytes as their elements
pub words_are_packed : (es : List Entry) (words : List ℕ) → AreWords (kinds_of es) words → ArePacked es (bytes_of_row (kinds_of es) words)
words_are_packed [] [] are = record { all = refl; bytes = λ i. omega arith }
words_are_packed [] (w ∷ words) are = absurd are
words_are_packed (e ∷ es) [] are = absurd are
words_are_packed (e ∷ es) (w ∷ words) are =
    let size = native_size e.kind in
    let rest = words_are_packed es words are.1 in
    let long = rest.all in
    let wide = length-bytes_low_first 0 size w in
    record {
      all = omega (arith, long, wide, total-cons e es, length-append (little_bytes size w) (bytes_of_row (kinds_of es) words));
      bytes = bytes-append (little_bytes size w) (bytes_of_row (kinds_of es) words) (word_bytes size w) rest.bytes;
    }

-- packed bytes are read as the words of the elements
pub packed_is_words : (es : List Entry) (buffer : List ℕ) → are_inside (length buffer) es ≡ true → row_of (kinds_of es) (packed Native es buffer) ≡ words_of es buffer
packed_is_words [] buffer inside = refl
packed_is_words (e ∷ es) buffer inside =
    let size = native_size e.kind in
    let parts = and_parts (lies_inside (length buffer) e) (are_inside (length buffer) es) inside in
    let long = size_there buffer e (lies (length buffer) e parts.0) in
    let rest = packed Native es buffer in
    ap (λ n. n ∷ row_of (kinds_of es) (drop size (bytes_at buffer e ++ rest))) (little_from-append size (bytes_at buffer e) rest (omega (arith, long)))
    ∙ ap (λ s. little_number size (bytes_at buffer e) ∷ row_of (kinds_of es) s) (drop_at (bytes_at buffer e) rest size long)
    ∙ ap (λ s. little_number size (bytes_at buffer e) ∷ s) (packed_is_words es buffer parts.1)

kinds-shift : (x : ℤ) (es : List Entry) → kinds_of (shift x es) ≡ kinds_of es
kinds-shift x [] = refl
kinds-shift x (e ∷ es) = ap (λ kinds. e.kind ∷ kinds) (kinds-shift x es)

-- the kinds are the same wherever an operation begins
pub kinds_anywhere : (m : Marked) (count : ℕ) (origin : ℤ) → kinds_of (elements m count origin) ≡ kinds_of (elements m count (pos 0))
kinds_anywhere m count origin = ap kinds_of (sym (placed_elements m count origin)) ∙ kinds-shift origin (elements m count (pos 0))

module _ (join : Kind → ℕ → ℕ → ℕ) (gives : GivesWords join) where
  pub joined_are_words : (kinds : List Kind) (a b : List ℕ) → AreWords kinds a → AreWords kinds b → AreWords kinds (joined_row join kinds a b)
  joined_are_words [] a b first last = tt
  joined_are_words (kind ∷ kinds) [] b first last = absurd first
  joined_are_words (kind ∷ kinds) (x ∷ a) [] first last = absurd last
  joined_are_words (kind ∷ kinds) (x ∷ a) (y ∷ b) first last = (gives kind x y first.0 last.0, joined_are_words kinds a b first.1 last.1)

  rows_associate : IsAssociative join → (kinds : List Kind) (a b c : List ℕ) → AreWords kinds a → AreWords kinds b → AreWords kinds c
      → joined_row join kinds (joined_row join kinds a b) c ≡ joined_row join kinds a (joined_row join kinds b c)
  rows_associate associates [] a b c first second third = refl
  rows_associate associates (kind ∷ kinds) [] b c first second third = absurd first
  rows_associate associates (kind ∷ kinds) (x ∷ a) [] c first second third = absurd second
  rows_associate associates (kind ∷ kinds) (x ∷ a) (y ∷ b) [] first second third = absurd third
  rows_associate associates (kind ∷ kinds) (x ∷ a) (y ∷ b) (z ∷ c) first second third =
      ap (λ w. w ∷ joined_row join kinds (joined_row join kinds a b) c) (associates kind x y z first.0 second.0 third.0)
      ∙ ap (λ s. join kind x (join kind y z) ∷ s) (rows_associate associates kinds a b c first.1 second.1 third.1)

  -- rows of words of such kinds may be joined in any bracketing
  pub rows_are_free : IsAssociative join → (kinds : List Kind) → IsOrderFree (joined_row join kinds) (AreWords kinds)
  rows_are_free associates kinds = record { closed = joined_are_words kinds; assoc = rows_associate associates kinds }
