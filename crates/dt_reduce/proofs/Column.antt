-- Each word of folded rows is what the words of its number are joined to.
use Rattle.std.proofs.Common.{◌≡◌, Some, ℕ, zero, suc, ◌+◌, ◌<◌, ◌≤◌, List, [], ◌∷◌, ◌++◌, map, take, drop, length, get_or, refl, sym, ap, ◌∙◌, arith, append-nil}
use Rattle.std.proofs.Math.Seq.{drop-append-add}
use Rattle.std.proofs.lemmas.List.{take_at}
use Rattle.std.specs.List.{AllByRecursion, fold}
use Rattle.byteorder.specs.Endian.{little_number, little_bytes}
use Rattle.byteorder.specs.Numbers.{length-bytes_low_first, little_number-reads_back}
use Rattle.dt_kinds.specs.declared.kind.Kind.{Kind}
use Rattle.dt_kinds.specs.declared.kind.Rep.TheVariants.{Native}
use Rattle.dt_kinds.specs.Kind.{native_size}
use Rattle.dt_map.specs.declared.entry.Entry.{Entry}
use Rattle.dt_map.specs.Packed.{total}
use Rattle.dt_map.proofs.Writing.{setting_keeps_the_rest}
use Rattle.dt_ops.specs.Laws.{GivesWords}
use Rattle.dt_ops.specs.Word.{IsWord}
use Rattle.dt_reduce.specs.Folded.{kinds_of, AreWords, joined_row, bytes_of_row, folded}
use Rattle.dt_reduce.specs.Laws.{WordsAreFolded}
use Rattle.dt_reduce.specs.Reduced.{word_at}
use Rattle.dt_reduce.proofs.PackedRows.{total-cons}
use Rattle.dt_reduce.proofs.Rowing.{joined_are_words, words_are_packed}
use Rattle.dt_reduce.proofs.WordLaw.{bytes_are_set}

word_is : (fs : List Entry) (words : List ℕ) (k : ℕ) (d : Entry) → AreWords (kinds_of fs) words → k < length fs → IsWord (get_or fs k d).kind (get_or words k 0)
word_is [] words k d are within = absurd (omega (arith, within))
word_is (f ∷ fs) [] k d are within = absurd are
word_is (f ∷ fs) (w ∷ words) zero d are within = are.0
word_is (f ∷ fs) (w ∷ words) (suc k) d are within = word_is fs words k d are.1 (omega (arith, within))

-- the bytes of a word among those of all
bytes_at_word : (fs : List Entry) (words : List ℕ) (k : ℕ) (d : Entry) → AreWords (kinds_of fs) words → k < length fs
    → take (native_size (get_or fs k d).kind) (drop (total Native (take k fs)) (bytes_of_row (kinds_of fs) words)) ≡ little_bytes (native_size (get_or fs k d).kind) (get_or words k 0)
bytes_at_word [] words k d are within = absurd (omega (arith, within))
bytes_at_word (f ∷ fs) [] k d are within = absurd are
bytes_at_word (f ∷ fs) (w ∷ words) zero d are within =
    let size = native_size f.kind in
    take_at (little_bytes size w) (bytes_of_row (kinds_of fs) words) size (length-bytes_low_first 0 size w)
bytes_at_word (f ∷ fs) (w ∷ words) (suc k) d are within =
    let size = native_size f.kind in
    let kind = (get_or fs k d).kind in
    let rest = bytes_of_row (kinds_of fs) words in
    let long = length-bytes_low_first 0 size w in
    let place : total Native (f ∷ take k fs) ≡ length (little_bytes size w) + total Native (take k fs) = omega (arith, long, total-cons f (take k fs)) in
    ap (λ n. take (native_size kind) (drop n (little_bytes size w ++ rest))) place
    ∙ ap (take (native_size kind)) (drop-append-add (little_bytes size w) rest (total Native (take k fs)))
    ∙ bytes_at_word fs words k d are.1 (omega (arith, within))

module _ (join : Kind → ℕ → ℕ → ℕ) (gives : GivesWords join) where
  joined_at : (fs : List Entry) (a b : List ℕ) (k : ℕ) (d : Entry) → AreWords (kinds_of fs) a → AreWords (kinds_of fs) b → k < length fs
      → get_or (joined_row join (kinds_of fs) a b) k 0 ≡ join (get_or fs k d).kind (get_or a k 0) (get_or b k 0)
  joined_at [] a b k d first second within = absurd (omega (arith, within))
  joined_at (f ∷ fs) [] b k d first second within = absurd first
  joined_at (f ∷ fs) (x ∷ a) [] k d first second within = absurd second
  joined_at (f ∷ fs) (x ∷ a) (y ∷ b) zero d first second within = refl
  joined_at (f ∷ fs) (x ∷ a) (y ∷ b) (suc k) d first second within = joined_at fs a b k d first.1 second.1 (omega (arith, within))

  -- one word of all rows, joined
  column : (fs : List Entry) (row : List ℕ) (rows : List (List ℕ)) (k : ℕ) (d : Entry) → AreWords (kinds_of fs) row → AllByRecursion (AreWords (kinds_of fs)) rows → k < length fs
      → fold (join (get_or fs k d).kind) (get_or row k 0) (map (λ r. get_or r k 0) rows) ≡ get_or (fold (joined_row join (kinds_of fs)) row rows) k 0
  column fs row [] k d first all within = refl
  column fs row (next ∷ rows) k d first all within =
      let kind = (get_or fs k d).kind in
      let kinds = kinds_of fs in
      ap (λ w. fold (join kind) w (map (λ r. get_or r k 0) rows)) (sym (joined_at fs row next k d first all.0 within))
      ∙ column fs (joined_row join kinds row next) rows k d (joined_are_words join gives kinds row next first all.0) all.1 within

  folded_is_words : (kinds : List Kind) (row : List ℕ) (rows : List (List ℕ)) → AreWords kinds row → AllByRecursion (AreWords kinds) rows → AreWords kinds (fold (joined_row join kinds) row rows)
  folded_is_words kinds row [] first all = first
  folded_is_words kinds row (next ∷ rows) first all = folded_is_words kinds (joined_row join kinds row next) rows (joined_are_words join gives kinds row next first all.0) all.1

pub words_are_folded : WordsAreFolded
words_are_folded join fs [] into gives inside apart some are = absurd (omega (arith, some))
words_are_folded join fs (row ∷ rows) into gives inside apart some are =
    let words = fold (joined_row join (kinds_of fs)) row rows in
    let known = folded_is_words join gives (kinds_of fs) row rows are.0 are.1 in
    let images = bytes_of_row (kinds_of fs) words in
    let new = folded join fs (row ∷ rows) into in
    let long = (words_are_packed fs words known).all in
    let enough : total Native fs ≤ length images = omega (arith, long) in (
      λ k d within.
          let f = get_or fs k d in
          let size = native_size f.kind in
          let image = bytes_at_word fs words k d known within in
          let wide = ap length image ∙ length-bytes_low_first 0 size (get_or words k 0) in
          let word : word_at new f ≡ get_or words k 0 =
          ap (little_number size) (bytes_are_set fs into images apart inside enough k d within wide ∙ image ∙ sym (append-nil (little_bytes size (get_or words k 0))))
          ∙ little_number-reads_back size (get_or words k 0) [] (word_is fs words k d known within) in
          ap Some (column join gives fs row rows k d are.0 are.1 within ∙ sym word),
      λ x off. (setting_keeps_the_rest Native fs into images inside enough).1 x off,
    )
