-- Words of one kind that are joined one after another.
use borrow.Rule.Slice.PartMut.{put_mid}
use Rattle.std.proofs.Common.{◌≡◌, ℕ, zero, suc, ◌+◌, ◌*◌, List, ◌++◌, take, drop, length, sym, ap, ◌∙◌, arith, length-append, length-drop, append-nil}
use Rattle.std.proofs.lemmas.List.{append_assoc, drop-drop, drop_at, take_all}
use Rattle.byteorder.specs.Numbers.{length-bytes_low_first}
use Rattle.byteorder.specs.Endian.{little_number}
use Rattle.dt_kinds.specs.declared.kind.Kind.{Kind}
use Rattle.dt_kinds.specs.Kind.{native_size}
use Rattle.dt_reduce.specs.Words.{joined_word, joined_words}
use Rattle.dt_rows.proofs.Filling.{last_written}
use Rattle.dt_rows.proofs.SettingRows.{drop_none}

module _ (join : Kind → ℕ → ℕ → ℕ) (kind : Kind) where
  abbrev size : ℕ
  size = native_size kind

  length-word : (a b : List ℕ) → length (joined_word join kind a b) ≡ size
  length-word a b = length-bytes_low_first 0 size (join kind (little_number size a) (little_number size b))

  pub length-words : (n : ℕ) (a b : List ℕ) → length (joined_words join kind n a b) ≡ n * size
  length-words zero a b = omega arith
  length-words (suc n) a b =
      let here = length-word a b in
      let rest = length-words n (drop size a) (drop size b) in
      omega (arith, here, rest, length-append (joined_word join kind a b) (joined_words join kind n (drop size a) (drop size b)))

  -- a word more
  more_words : (n : ℕ) (a b : List ℕ) → joined_words join kind (suc n) a b ≡ joined_words join kind n a b ++ joined_word join kind (drop (n * size) a) (drop (n * size) b)
  more_words zero a b =
      let none : 0 ≡ 0 * size = omega arith in
      append-nil (joined_word join kind a b)
      ∙ ap (λ s. joined_word join kind s b) (sym (drop_none a) ∙ ap (λ k. drop k a) none)
      ∙ ap (λ t. joined_word join kind (drop (0 * size) a) t) (sym (drop_none b) ∙ ap (λ k. drop k b) none)
  more_words (suc n) a b =
      let next : (xs : List ℕ) → drop (n * size) (drop size xs) ≡ drop (suc n * size) xs = λ xs. drop-drop (n * size) size xs ∙ ap (λ k. drop k xs) (let turn : size + n * size ≡ suc n * size = omega arith in turn) in
      ap (λ s. joined_word join kind a b ++ s) (more_words n (drop size a) (drop size b))
      ∙ sym (append_assoc (joined_word join kind a b) (joined_words join kind n (drop size a) (drop size b)) (joined_word join kind (drop (n * size) (drop size a)) (drop (n * size) (drop size b))))
      ∙ ap (λ s. joined_words join kind (suc n) a b ++ joined_word join kind s (drop (n * size) (drop size b))) (next a)
      ∙ ap (λ t. joined_words join kind (suc n) a b ++ joined_word join kind (drop (suc n * size) a) t) (next b)

  -- a word more is joined in a target of which the first ones are
  pub words_more : (n at k : ℕ) (source old mid new : List ℕ) → mid ≡ joined_words join kind n source old ++ drop (n * size) old → at ≡ n * size → length mid ≡ at + k
      → new ≡ joined_word join kind (drop at source) (take k (drop at mid)) ++ drop size (take k (drop at mid))
      → put_mid at k mid new ≡ joined_words join kind (n + 1) source old ++ drop ((n + 1) * size) old
  words_more n at k source old mid new is from long put =
      let front = joined_words join kind n source old in
      let wide : length front ≡ at = length-words n source old ∙ sym from in
      let whole : mid ≡ front ++ drop at old = is ∙ ap (λ m. front ++ drop m old) (sym from) in
      let back : drop at mid ≡ drop at old = ap (drop at) whole ∙ drop_at front (drop at old) at wide in
      let rest : take k (drop at mid) ≡ drop at old = take_all k (drop at mid) (omega (arith, long, length-drop at mid)) ∙ back in
      let size_of = ap length whole in
      let next : suc n ≡ n + 1 = omega arith in
      last_written front old mid new at k whole wide (omega (arith, size_of, long, wide, length-append front (drop at old), length-drop at old))
      ∙ ap (λ s. front ++ s) (put ∙ ap (λ t. joined_word join kind (drop at source) t ++ drop size t) rest
      ∙ ap (λ s. joined_word join kind (drop at source) (drop at old) ++ s) (drop-drop size at old))
      ∙ sym (append_assoc front (joined_word join kind (drop at source) (drop at old)) (drop (at + size) old))
      ∙ ap (λ m. (front ++ joined_word join kind (drop m source) (drop m old)) ++ drop (m + size) old) from
      ∙ ap (λ s. s ++ drop (n * size + size) old) (sym (more_words n source old))
      ∙ ap (λ m. joined_words join kind m source old ++ drop (n * size + size) old) next
      ∙ ap (λ m. joined_words join kind (n + 1) source old ++ drop m old) (let sum : n * size + size ≡ (n + 1) * size = omega arith in sum)
