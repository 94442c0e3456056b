-- Lists that were filled with the first bytes of a row, or with its bytes from inside the first element on.
use borrow.Rule.Slice.PartMut.{put_mid}
use Rattle.std.proofs.Common.{◌≡◌, ℕ, suc, ◌+◌, ◌-◌, ◌*◌, ◌/◌, ◌≤◌, ◌<◌, ℤ, pos, ◌+ℤ◌, ◌*ℤ◌, List, [], ◌++◌, take, drop, length, reverse, inl, inr, refl, sym, ap, ◌∙◌, arith, append-nil, length-drop, length-append}
use Rattle.std.specs.Prelude.{min}
use Rattle.std.proofs.lemmas.Bool.{cases_lt}
use Rattle.std.proofs.lemmas.Int.{ints}
use Rattle.std.proofs.lemmas.List.{take_at, drop_at, drop_all, length-take-le}
use Rattle.std.proofs.lemmas.Nat.{mul-le}
use Rattle.std.proofs.Math.Nat.{lt-div-mul-add, div-mul-le_self}
use Rattle.dt_kinds.specs.declared.kind.Kind.{Kind}
use Rattle.dt_kinds.specs.Kind.{native_size, external_size}
use Rattle.dt_kinds.proofs.Table.{external_size-pos}
use Rattle.dt_offsets.specs.Offsets.{row_offsets}
use Rattle.dt_rows.specs.Pieces.{pieces, turned, turned_row, IsPiece}
use Rattle.dt_rows.proofs.Cutting.{length-row, whole_leading, more_leading, cut_in_one, cut_and_more}

pub fewer : (a b e : ℕ) → a * e < b * e → a < b
fewer a b e lt =
    elim (cases_lt a b) [
      | inl less ↦ less
      | inr from ↦ (let more = mul-le b e a e from (omega arith) in absurd (omega (arith, lt, more)))
    ]

pub no_more : (a b e : ℕ) → 0 < e → a * e ≤ b * e → a ≤ b
no_more a b e some le =
    elim (cases_lt b a) [
      | inr from ↦ from
      | inl less ↦ (let more = mul-le (suc b) e a e less (omega arith) in let next : suc b * e ≡ b * e + e = omega arith in absurd (omega (arith, le, more, next, some)))
    ]

-- a part at the end of a list was written
pub last_written : (front old mid new : List ℕ) (a k : ℕ) → mid ≡ front ++ drop a old → length front ≡ a → length old ≤ a + k → put_mid a k mid new ≡ front ++ new
last_written front old mid new a k is long all =
    let before : take a mid ≡ front = ap (take a) is ∙ take_at front (drop a old) a long in
    let after : drop k (drop a mid) ≡ [] =
    ap (drop k) (ap (drop a) is ∙ drop_at front (drop a old) a long) ∙ drop_all k (drop a old) (omega (arith, length-drop a old)) in
    ap (λ s. s ++ (new ++ drop k (drop a mid))) before ∙ ap (λ s. front ++ (new ++ s)) after ∙ ap (λ s. front ++ s) (append-nil new)

module _ (kind : Kind) (buffer : List ℕ) (n : ℕ) (start : ℤ) (inside : IsPiece (length buffer) (n * native_size kind) start) where
  abbrev ext : ℕ
  ext = external_size kind

  -- whole elements, and the first bytes of one more
  pub filled_leading : (w t k a : ℕ) (size at : ℤ) (old mid cut : List ℕ)
      → mid ≡ pieces reverse ext buffer (row_offsets start w size) ++ drop (w * ext) old → size ≡ pos (native_size kind) → a ≡ w * ext
      → length old ≡ a + t → t ≤ k → w < n → t ≤ ext
      → cut ≡ take t (turned kind buffer at) → at ≡ start +ℤ (pos w *ℤ size)
      → put_mid a k mid cut ≡ take (length old) (turned_row kind n buffer start)
  filled_leading w t k a size at old mid cut is wide from long le lt small put there =
      let front = length-row kind buffer n w start inside (omega arith) in
      let whole : mid ≡ turned_row kind w buffer start ++ drop a old =
      is ∙ ap (λ s. pieces reverse ext buffer (row_offsets start w s) ++ drop (w * ext) old) wide
      ∙ ap (λ m. turned_row kind w buffer start ++ drop m old) (sym from) in
      let place : at ≡ start +ℤ pos (w * native_size kind) = there ∙ ap (λ s. start +ℤ (pos w *ℤ s)) wide in
      last_written (turned_row kind w buffer start) old mid cut a k whole (front ∙ sym from) (omega (arith, long, le))
      ∙ ap (λ s. turned_row kind w buffer start ++ s) (put ∙ ap (λ x. take t (turned kind buffer x)) place)
      ∙ sym (ap (λ m. take m (turned_row kind n buffer start)) (long ∙ ap (λ m. m + t) from) ∙ more_leading kind buffer n w t start inside lt small)

  -- whole elements alone
  pub filled_whole : (w : ℕ) (size : ℤ) (old mid : List ℕ)
      → mid ≡ pieces reverse ext buffer (row_offsets start w size) ++ drop (w * ext) old → size ≡ pos (native_size kind) → length old ≡ w * ext → w ≤ n
      → mid ≡ take (length old) (turned_row kind n buffer start)
  filled_whole w size old mid is wide long le =
      is ∙ ap (λ s. pieces reverse ext buffer (row_offsets start w s) ++ drop (w * ext) old) wide
      ∙ ap (λ s. turned_row kind w buffer start ++ s) (drop_all (w * ext) old (omega (arith, long))) ∙ append-nil (turned_row kind w buffer start)
      ∙ sym (ap (λ m. take m (turned_row kind n buffer start)) long ∙ whole_leading kind buffer n w start inside le)

  -- bytes of the first element alone
  pub filled_in_one : (skip h : ℕ) (old cut : List ℕ) → 0 < n → skip + h ≤ ext → length old ≤ h → h ≤ length old → cut ≡ take h (drop skip (turned kind buffer start))
      → cut ++ drop h old ≡ take (length old) (drop skip (turned_row kind n buffer start))
  filled_in_one skip h old cut some le most least put =
      let same : h ≡ length old = omega arith in
      ap (λ s. cut ++ s) (drop_all h old most) ∙ append-nil cut ∙ put
      ∙ sym (cut_in_one kind buffer n skip h start inside some le) ∙ ap (λ m. take m (drop skip (turned_row kind n buffer start))) same

  -- the last bytes of the first element, and the first ones of those after it
  pub filled_and_more : (skip h k b : ℕ) (next size : ℤ) (old cut rest : List ℕ) → 0 < n → skip + h ≡ ext → length old ≡ h + b → b ≤ k → length cut ≡ h
      → cut ≡ take h (drop skip (turned kind buffer start)) → next ≡ start +ℤ size → size ≡ pos (native_size kind)
      → rest ≡ take b (turned_row kind (n - 1) buffer next)
      → put_mid h k (cut ++ drop h old) rest ≡ take (length old) (drop skip (turned_row kind n buffer start))
  filled_and_more skip h k b next size old cut rest some is long le front put there wide more =
      let place : next ≡ start +ℤ pos (native_size kind) = there ∙ ap (λ s. start +ℤ s) wide in
      last_written cut old (cut ++ drop h old) rest h k refl front (omega (arith, long, le))
      ∙ ap (λ s. s ++ rest) put
      ∙ ap (λ s. take h (drop skip (turned kind buffer start)) ++ s) (more ∙ ap (λ x. take b (turned_row kind (n - 1) buffer x)) place)
      ∙ sym (ap (λ m. take m (drop skip (turned_row kind n buffer start))) long ∙ cut_and_more kind buffer n skip h b start inside some is)

  -- as many whole elements as have room, and then the first bytes of one more
  pub filled_with_cut : (e : ℕ) (at begin size : ℤ) (old mid cut : List ℕ) → let w = length old / e in
      e ≡ ext → begin ≡ start → size ≡ pos (native_size kind)
      → mid ≡ pieces reverse ext buffer (row_offsets begin w size) ++ drop (w * ext) old → length mid ≡ length old
      → w * e < length mid → length old ≤ n * ext
      → cut ≡ take (length (take (length mid - w * e) (drop (w * e) mid))) (turned kind buffer at) → at ≡ begin +ℤ (pos w *ℤ size)
      → put_mid (w * e) (length mid - w * e) mid cut ≡ take (length old) (turned_row kind n buffer start)
  filled_with_cut e at begin size old mid cut same first wide is even more room put there =
      let w = length old / e in
      let some = external_size-pos kind in
      let below = lt-div-mul-add {a = length old} {b = e} (omega (arith, some, same)) in
      let from : w * e ≡ w * ext = ap (λ m. w * m) same in
      let less = fewer w n ext (omega (arith, from, more, even, room)) in
      let left : length (take (length mid - w * e) (drop (w * e) mid)) ≡ length old - w * e =
      length-take-le (length mid - w * e) (drop (w * e) mid) (omega (arith, length-drop (w * e) mid)) ∙ ap (λ m. m - w * e) even in
      filled_leading w (length old - w * e) (length mid - w * e) (w * e) size at old mid cut
      (is ∙ ap (λ x. pieces reverse ext buffer (row_offsets x w size) ++ drop (w * ext) old) first) wide from
      (omega (arith, more, even)) (omega (arith, even)) less (omega (arith, below, same))
      (put ∙ ap (λ m. take m (turned kind buffer at)) left) (there ∙ ap (λ x. x +ℤ (pos w *ℤ size)) first)

  pub filled_without_cut : (e : ℕ) (begin size : ℤ) (old mid : List ℕ) → let w = length old / e in
      e ≡ ext → begin ≡ start → size ≡ pos (native_size kind)
      → mid ≡ pieces reverse ext buffer (row_offsets begin w size) ++ drop (w * ext) old → length mid ≡ length old
      → length mid ≤ w * e → length old ≤ n * ext
      → mid ≡ take (length old) (turned_row kind n buffer start)
  filled_without_cut e begin size old mid same first wide is even all room =
      let w = length old / e in
      let some = external_size-pos kind in
      let most = div-mul-le_self (length old) e in
      let from : w * e ≡ w * ext = ap (λ m. w * m) same in
      let long : length old ≡ w * ext = omega (arith, from, most, even, all) in
      filled_whole w size old mid
      (is ∙ ap (λ x. pieces reverse ext buffer (row_offsets x w size) ++ drop (w * ext) old) first) wide long
      (no_more w n ext some (omega (arith, long, room)))

  -- from inside the first element on, as much as has room
  pub filled_from_cut : (e skip h : ℕ) (begin size next : ℤ) (old cut rest : List ℕ) → let mid = cut ++ drop h old in
      0 < n → skip < ext → e ≡ ext → h ≡ min (length old) (e - skip) → begin ≡ start → size ≡ pos (native_size kind) → next ≡ begin +ℤ (pos 1 *ℤ size)
      → length cut ≡ length (take h old) → h < length mid
      → cut ≡ take (length (take h old)) (drop skip (turned kind buffer begin))
      → rest ≡ take (length (take (length mid - h) (drop h mid))) (turned_row kind (n - 1) buffer next)
      → put_mid h (length mid - h) mid rest ≡ take (length old) (drop skip (turned_row kind n buffer start))
  filled_from_cut e skip h begin size next old cut rest some within same least first wide there even more put after =
      let mid = cut ++ drop h old in
      let front : length (take h old) ≡ h = length-take-le h old (omega (arith, least)) in
      let whole = length-append cut (drop h old) in
      let left = length-drop h old in
      let long : length mid ≡ length old = omega (arith, whole, left, even, front, least) in
      let head : skip + h ≡ ext = omega (arith, least, same, within, more, long) in
      let tail : length (take (length mid - h) (drop h mid)) ≡ length old - h =
      length-take-le (length mid - h) (drop h mid) (omega (arith, length-drop h mid)) ∙ ap (λ m. m - h) long in
      let place : next ≡ start +ℤ size = omega (arith, ints, there, first) in
      filled_and_more skip h (length mid - h) (length old - h) next size old cut rest some head (omega (arith, more, long)) (omega (arith, long)) (even ∙ front)
      (put ∙ ap (λ m. take m (drop skip (turned kind buffer begin))) front ∙ ap (λ x. take h (drop skip (turned kind buffer x))) first)
      place wide (after ∙ ap (λ m. take m (turned_row kind (n - 1) buffer next)) tail)

  pub filled_inside_one : (e skip h : ℕ) (begin : ℤ) (old cut : List ℕ) →
      0 < n → skip < ext → e ≡ ext → h ≡ min (length old) (e - skip) → begin ≡ start → length cut ≡ length (take h old) → length (cut ++ drop h old) ≤ h
      → cut ≡ take (length (take h old)) (drop skip (turned kind buffer begin))
      → cut ++ drop h old ≡ take (length old) (drop skip (turned_row kind n buffer start))
  filled_inside_one e skip h begin old cut some within same least first even all put =
      let front : length (take h old) ≡ h = length-take-le h old (omega (arith, least)) in
      let whole = length-append cut (drop h old) in
      let left = length-drop h old in
      filled_in_one skip h old cut some (omega (arith, least, same, within)) (omega (arith, whole, left, even, front, all)) (omega (arith, least))
      (put ∙ ap (λ m. take m (drop skip (turned kind buffer begin))) front ∙ ap (λ x. take h (drop skip (turned kind buffer x))) first)
