-- Packed bytes of elements, whose words are joined run by run.
use borrow.Rule.Slice.PartMut.{put_mid}
use Rattle.std.proofs.Common.{◌≡◌, ℕ, ◌+◌, ◌*◌, ◌<◌, ◌≤◌, List, [], ◌∷◌, ◌++◌, take, drop, length, refl, sym, ap, subst, ◌∙◌, arith, length-append, length-drop}
use Rattle.std.proofs.lemmas.List.{append_assoc, drop-drop, drop_at, take_all, take-append-drop}
use Rattle.std.proofs.lemmas.List.Sums.{sum_by-cons}
use Rattle.std.proofs.lemmas.Nat.{mul-le}
use Rattle.byteorder.specs.Endian.{little_number, little_bytes}
use Rattle.byteorder.specs.Numbers.{length-bytes_low_first}
use Rattle.dt_kinds.specs.declared.kind.Kind.{Kind}
use Rattle.dt_kinds.specs.declared.kind.Rep.TheVariants.{Native}
use Rattle.dt_kinds.specs.Kind.{native_size, packed_size}
use Rattle.dt_map.specs.declared.entry.Entry.{Entry}
use Rattle.dt_map.specs.Packed.{total}
use Rattle.dt_map.proofs.Copies.{total-append}
use Rattle.dt_reduce.specs.Folded.{kinds_of}
use Rattle.dt_reduce.specs.Kept.{joined_packed}
use Rattle.dt_reduce.specs.Paired.{Paired, AreNextRows, at_count, after}
use Rattle.dt_reduce.specs.Words.{joined_word, joined_words}
use Rattle.dt_reduce.proofs.Gathered.{count_bytes, bytes_are}
use Rattle.dt_reduce.proofs.Uniform.{AreOf, of_rows, length-rows}
use Rattle.dt_rows.specs.declared.rows.Rows.{Rows}
use Rattle.dt_rows.specs.Rows.{elements_of_rows}
use Rattle.dt_rows.proofs.Filling.{last_written}
use Rattle.dt_rows.proofs.Packing.{some_elements}
use Rattle.dt_rows.proofs.SettingRows.{drop_none, two_pieces}

pub total-cons : (e : Entry) (es : List Entry) → total Native (e ∷ es) ≡ native_size e.kind + total Native es
total-cons e es = sum_by-cons (λ (f : Entry). packed_size Native f.kind) e es

-- the bytes of elements of one kind
pub total_of_kind : (kind : Kind) (es : List Entry) → AreOf kind es → total Native es ≡ length es * native_size kind
total_of_kind kind [] all = omega arith
total_of_kind kind (e ∷ es) all =
    let rest = total_of_kind kind es all.1 in
    let here = ap native_size all.0 in
    omega (arith, rest, here, total-cons e es)

-- the first elements have no more bytes than all
pub total_of_front : (n : ℕ) (es : List Entry) → total Native (take n es) ≤ total Native es
total_of_front n es =
    let parts = ap (total Native) (sym (take-append-drop n es)) ∙ total-append Native (take n es) (drop n es) in
    omega (arith, parts)

module _ (join : Kind → ℕ → ℕ → ℕ) where
  pub length-packed : (es : List Entry) (a b : List ℕ) → length (joined_packed join (kinds_of es) a b) ≡ total Native es
  length-packed [] a b = refl
  length-packed (e ∷ es) a b =
      let size = native_size e.kind in
      let word = join e.kind (little_number size a) (little_number size b) in
      let rest = length-packed es (drop size a) (drop size b) in
      let here = length-bytes_low_first 0 size word in
      omega (arith, rest, here, total-cons e es, length-append (little_bytes size word) (joined_packed join (kinds_of es) (drop size a) (drop size b)))

  packed-append : (es fs : List Entry) (a b : List ℕ)
      → joined_packed join (kinds_of (es ++ fs)) a b ≡ joined_packed join (kinds_of es) a b ++ joined_packed join (kinds_of fs) (drop (total Native es) a) (drop (total Native es) b)
  packed-append [] fs a b = ap (λ s. joined_packed join (kinds_of fs) s b) (sym (drop_none a)) ∙ ap (joined_packed join (kinds_of fs) (drop 0 a)) (sym (drop_none b))
  packed-append (e ∷ es) fs a b =
      let size = native_size e.kind in
      let word = little_bytes size (join e.kind (little_number size a) (little_number size b)) in
      let first = joined_packed join (kinds_of es) (drop size a) (drop size b) in
      let next : (xs : List ℕ) → drop (total Native es) (drop size xs) ≡ drop (total Native (e ∷ es)) xs = λ xs. drop-drop (total Native es) size xs ∙ ap (λ n. drop n xs) (sym (total-cons e es)) in
      ap (λ s. word ++ s) (packed-append es fs (drop size a) (drop size b))
      ∙ sym (append_assoc word first (joined_packed join (kinds_of fs) (drop (total Native es) (drop size a)) (drop (total Native es) (drop size b))))
      ∙ ap (λ s. (word ++ first) ++ joined_packed join (kinds_of fs) s (drop (total Native es) (drop size b))) (next a)
      ∙ ap (λ s. (word ++ first) ++ joined_packed join (kinds_of fs) (drop (total Native (e ∷ es)) a) s) (next b)

  -- elements of one kind: their words are joined one after another
  packed_is_joined : (kind : Kind) (es : List Entry) (a b : List ℕ) → AreOf kind es → joined_packed join (kinds_of es) a b ≡ joined_words join kind (length es) a b
  packed_is_joined kind [] a b all = refl
  packed_is_joined kind (e ∷ es) a b all =
      let size = native_size kind in
      ap (λ k. little_bytes (native_size k) (join k (little_number (native_size k) a) (little_number (native_size k) b)) ++ joined_packed join (kinds_of es) (drop (native_size k) a) (drop (native_size k) b)) all.0
      ∙ ap (λ s. joined_word join kind a b ++ s) (packed_is_joined kind es (drop size a) (drop size b) all.1)

  -- a run more is joined in a target of which the first ones are
  pub run_more : (es : List Entry) (d n at k count : ℕ) (kind : Kind) (source old mid new : List ℕ) → AreOf kind (take n (drop d es)) → count ≡ length (take n (drop d es))
      → at ≡ total Native (take d es) → mid ≡ joined_packed join (kinds_of (take d es)) source old ++ drop at old → length mid ≡ at + k
      → new ≡ joined_words join kind count (drop at source) (take k (drop at mid)) ++ drop (count * native_size kind) (take k (drop at mid))
      → put_mid at k mid new ≡ joined_packed join (kinds_of (take (d + n) es)) source old ++ drop (total Native (take (d + n) es)) old
  run_more es d n at k count kind source old mid new all number place is long put =
      let size = native_size kind in
      let before = take d es in
      let here = take n (drop d es) in
      let front = joined_packed join (kinds_of before) source old in
      let wide : length front ≡ at = length-packed before source old ∙ sym place in
      let back : drop at mid ≡ drop at old = ap (drop at) is ∙ drop_at front (drop at old) at wide in
      let rest : take k (drop at mid) ≡ drop at old = take_all k (drop at mid) (omega (arith, long, length-drop at mid)) ∙ back in
      let size_of = ap length is in
      let bytes : count * size ≡ total Native here = ap (λ c. c * size) number ∙ sym (total_of_kind kind here all) in
      let whole : before ++ here ≡ take (d + n) es = two_pieces es d n in
      let all_bytes : at + count * size ≡ total Native (take (d + n) es) =
      let sum = sym (total-append Native before here) ∙ ap (total Native) whole in omega (arith, place, bytes, sum) in
      let words : joined_words join kind count (drop at source) (drop at old) ≡ joined_packed join (kinds_of here) (drop (total Native before) source) (drop (total Native before) old) =
      ap (λ c. joined_words join kind c (drop at source) (drop at old)) number ∙ sym (packed_is_joined kind here (drop at source) (drop at old) all)
      ∙ ap (λ p. joined_packed join (kinds_of here) (drop p source) (drop p old)) place in
      last_written front old mid new at k is wide (omega (arith, size_of, long, wide, length-append front (drop at old), length-drop at old))
      ∙ ap (λ s. front ++ s) (put ∙ ap (λ t. joined_words join kind count (drop at source) t ++ drop (count * size) t) rest)
      ∙ ap (λ s. front ++ (s ++ drop (count * size) (drop at old))) words
      ∙ ap (λ s. front ++ (joined_packed join (kinds_of here) (drop (total Native before) source) (drop (total Native before) old) ++ s)) (drop-drop (count * size) at old ∙ ap (λ p. drop p old) all_bytes)
      ∙ sym (append_assoc front (joined_packed join (kinds_of here) (drop (total Native before) source) (drop (total Native before) old)) (drop (total Native (take (d + n) es)) old))
      ∙ ap (λ s. s ++ drop (total Native (take (d + n) es)) old) (sym (packed-append before here source old) ∙ ap (λ fs. joined_packed join (kinds_of fs) source old) whole)

-- rows that come next of elements of which some were joined
pub record IsRunStep (a p q : Paired) (r : Rows) : Type 0 where
  pub passed : q ≡ at_count a q.done
  pub done : q.done ≡ p.done + r.rows * r.run.elements
  pub some : 0 < r.rows * r.run.elements
  pub kind : AreOf r.run.kind (take (r.rows * r.run.elements) (drop p.done a.elements))
  pub number : r.rows * r.run.elements ≡ length (take (r.rows * r.run.elements) (drop p.done a.elements))
  pub bytes : r.rows * r.run.elements * native_size r.run.kind ≡ r.rows * r.run.bytes
  pub place : total Native (take p.done a.elements) + r.rows * r.run.bytes ≡ total Native (take q.done a.elements)
  pub within : q.done ≤ length a.elements
  pub all : total Native (take q.done a.elements) ≤ total Native a.elements

pub run_step : (a p q : Paired) (r : Rows) → p ≡ at_count a p.done → AreNextRows p r → q ≡ after p (r.rows * r.run.elements) → IsRunStep a p q r
run_step a p q r is next moved =
    let n = r.rows * r.run.elements in
    let count : q.done ≡ p.done + n = ap (λ (u : Paired). u.done) moved in
    let here : elements_of_rows r ≡ take n (drop p.done a.elements) = next.all ∙ ap (λ (u : Paired). take n (drop p.done u.elements)) is in
    let least = mul-le 1 1 r.rows r.run.elements next.shape.some (some_elements Native r.run next.shape.run) in
    let number : n ≡ length (take n (drop p.done a.elements)) = sym (length-rows r) ∙ ap length here in
    let bytes = count_bytes r next.whole in
    let size : r.rows * r.run.bytes ≡ total Native (take n (drop p.done a.elements)) = sym (bytes_are r next.whole) ∙ ap (total Native) here in
    let sum = sym (total-append Native (take p.done a.elements) (take n (drop p.done a.elements))) ∙ ap (total Native) (two_pieces a.elements p.done n) ∙ ap (λ k. total Native (take k a.elements)) (sym count) in
    let within = next.within in
    let long = ap (λ (u : Paired). length u.elements) is in
    record {
      passed = moved ∙ ap (λ (u : Paired). at_count u (p.done + n)) is ∙ ap (at_count a) (sym count);
      done = count;
      some = omega (arith, least);
      kind = subst (AreOf r.run.kind) here (of_rows r);
      number = number;
      bytes = bytes;
      place = omega (arith, size, sum);
      within = omega (arith, count, within, long);
      all = total_of_front q.done a.elements;
    }
