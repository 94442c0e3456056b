-- Adjacent bytes as elements, and what is copied of them.
use Rattle.std.proofs.Common.{◌≡◌, ℕ, zero, suc, ◌+◌, ◌-◌, ◌≤◌, ℤ, pos, ◌+ℤ◌, ◌*ℤ◌, List, [], ◌∷◌, ◌++◌, map, take, drop, length, refl, sym, ap, ◌∙◌, arith, append_assoc, append-nil, length-append, length-drop}
use Rattle.std.specs.Prelude.{nat_abs}
use Rattle.std.proofs.lemmas.Int.{ints}
use Rattle.std.proofs.lemmas.List.{drop-drop, length-take-le, map-append, length-map, take_at, drop_at, take_all}
use Rattle.dt_kinds.specs.declared.kind.Kind.{Kind}
use Rattle.dt_kinds.specs.declared.kind.Kind.TheVariants.{Byte}
use Rattle.dt_kinds.specs.Kind.{native_size}
use Rattle.dt_map.specs.declared.entry.Entry.{Entry}
use Rattle.dt_map.specs.Packed.{bytes_at}
use Rattle.dt_map.specs.Setting.{written}
use Rattle.dt_map.proofs.Seats.{length-below}
use Rattle.dt_offsets.specs.Offsets.{below, row_offsets}
use Rattle.dt_rows.specs.Rows.{element_at, adjacent}
use Rattle.dt_rows.proofs.SettingRows.{drop_none, two_pieces}
use Rattle.dt_rows.proofs.Joined.{take_further}
use Rattle.dt_copy.specs.Copied.{copied}

-- what is copied in two steps, and how many places that takes
pub copied_none : (es : List Entry) (s t : List ℕ) → copied es [] s t ≡ t
copied_none [] s t = refl
copied_none (e ∷ es) s t = refl

pub copied_append : (es fs gs : List Entry) (s t : List ℕ) → copied (es ++ fs) gs s t ≡ copied fs (drop (length es) gs) s (copied es gs s t)
copied_append [] fs gs s t = ap (λ hs. copied fs hs s t) (sym (drop_none gs))
copied_append (e ∷ es) fs [] s t = sym (copied_none fs s t)
copied_append (e ∷ es) fs (g ∷ gs) s t = copied_append es fs gs s (written t (nat_abs g.disp) (bytes_at s e))

pub copied_front : (es gs : List Entry) (s t : List ℕ) → copied es (take (length es) gs) s t ≡ copied es gs s t
copied_front [] gs s t = refl
copied_front (e ∷ es) [] s t = refl
copied_front (e ∷ es) (g ∷ gs) s t = copied_front es gs s (written t (nat_abs g.disp) (bytes_at s e))

-- bytes that are written behind others
pub length-written : (buffer : List ℕ) (at : ℕ) (bytes : List ℕ) → at + length bytes ≤ length buffer → length (written buffer at bytes) ≡ length buffer
length-written buffer at bytes fits =
    omega (arith, length-append (take at buffer) (bytes ++ drop (at + length bytes) buffer), length-append bytes (drop (at + length bytes) buffer), length-take-le at buffer (omega arith), length-drop (at + length bytes) buffer)

written_further : (buffer : List ℕ) (at n : ℕ) (p q : List ℕ) → length p ≡ n → at + (length p + length q) ≤ length buffer → written (written buffer at p) (at + n) q ≡ written buffer at (p ++ q)
written_further buffer at n p q long room =
    let front = take at buffer in
    let back = drop (at + length p) buffer in
    let size : length front ≡ at = length-take-le at buffer (omega (arith, room)) in
    let whole : length (front ++ p) ≡ at + n = omega (arith, length-append front p, size, long) in
    let joined : written buffer at p ≡ (front ++ p) ++ back = sym (append_assoc front p back) in
    let before : take (at + n) (written buffer at p) ≡ front ++ p = ap (take (at + n)) joined ∙ take_at (front ++ p) back (at + n) whole in
    let after : drop ((at + n) + length q) (written buffer at p) ≡ drop (at + length (p ++ q)) buffer =
    ap (λ k. drop k (written buffer at p)) (let turn : (at + n) + length q ≡ length q + (at + n) = omega arith in turn)
    ∙ sym (drop-drop (length q) (at + n) (written buffer at p) ∙ ap (λ k. drop k (written buffer at p)) (let turn : (at + n) + length q ≡ length q + (at + n) = omega arith in turn))
    ∙ ap (drop (length q)) (ap (drop (at + n)) joined ∙ drop_at (front ++ p) back (at + n) whole)
    ∙ drop-drop (length q) (at + length p) buffer ∙ ap (λ k. drop k buffer) (let sum : (at + length p) + length q ≡ at + length (p ++ q) = omega (arith, length-append p q) in sum) in
    ap (λ s. s ++ (q ++ drop ((at + n) + length q) (written buffer at p))) before
    ∙ ap (λ s. (front ++ p) ++ (q ++ s)) after
    ∙ append_assoc front p (q ++ drop (at + length (p ++ q)) buffer)
    ∙ ap (λ s. front ++ s) (sym (append_assoc p q (drop (at + length (p ++ q)) buffer)))

-- adjacent elements
pub length-adjacent : (kind : Kind) (n : ℕ) (x : ℤ) → length (adjacent kind n x) ≡ n
length-adjacent kind n x = length-map (row_offsets x n (pos (native_size kind))) (element_at kind) ∙ length-map (below n) _ ∙ length-below n

pub adjacent_more : (kind : Kind) (n : ℕ) (x : ℤ) → adjacent kind (suc n) x ≡ adjacent kind n x ++ element_at kind (x +ℤ (pos n *ℤ pos (native_size kind))) ∷ []
adjacent_more kind n x =
    let at : ℕ → ℤ = λ j. x +ℤ (pos j *ℤ pos (native_size kind)) in
    ap (map (element_at kind)) (map-append at (below n) (n ∷ [])) ∙ map-append (element_at kind) (map at (below n)) (at n ∷ [])

abbrev pub bytes_from : ℕ → ℤ → List Entry
bytes_from n x = adjacent Byte n x

pub adjacent_parts : (m n : ℕ) (x : ℤ) → bytes_from (m + n) x ≡ bytes_from m x ++ bytes_from n (x +ℤ pos m)
adjacent_parts m zero x =
    let none : m + 0 ≡ m = omega arith in
    ap (λ k. bytes_from k x) none ∙ sym (append-nil (bytes_from m x))
adjacent_parts m (suc n) x =
    let next : m + suc n ≡ suc (m + n) = omega arith in
    let place : x +ℤ (pos (m + n) *ℤ pos 1) ≡ (x +ℤ pos m) +ℤ (pos n *ℤ pos 1) = omega (arith, ints) in
    ap (λ k. bytes_from k x) next ∙ adjacent_more Byte (m + n) x
    ∙ ap (λ y. bytes_from (m + n) x ++ element_at Byte y ∷ []) place
    ∙ ap (λ es. es ++ element_at Byte ((x +ℤ pos m) +ℤ (pos n *ℤ pos 1)) ∷ []) (adjacent_parts m n x)
    ∙ append_assoc (bytes_from m x) (bytes_from n (x +ℤ pos m)) (element_at Byte ((x +ℤ pos m) +ℤ (pos n *ℤ pos 1)) ∷ [])
    ∙ ap (λ es. bytes_from m x ++ es) (sym (adjacent_more Byte n (x +ℤ pos m)))

-- some of adjacent bytes
pub adjacent_cut : (n k m : ℕ) (x : ℤ) → k + m ≤ n → take m (drop k (bytes_from n x)) ≡ bytes_from m (x +ℤ pos k)
adjacent_cut n k m x within =
    let rest : k + (m + (n - (k + m))) ≡ n = omega (arith, within) in
    let y = x +ℤ pos k in
    ap (λ j. take m (drop k (bytes_from j x))) (sym rest)
    ∙ ap (λ es. take m (drop k es)) (adjacent_parts k (m + (n - (k + m))) x)
    ∙ ap (take m) (drop_at (bytes_from k x) (bytes_from (m + (n - (k + m))) y) k (length-adjacent Byte k x))
    ∙ ap (take m) (adjacent_parts m (n - (k + m)) y)
    ∙ take_at (bytes_from m y) (bytes_from (n - (k + m)) (y +ℤ pos m)) m (length-adjacent Byte m y)

-- adjacent bytes are copied at once
pub span_copied : (n a b : ℕ) (s t : List ℕ) → a + n ≤ length s → b + n ≤ length t → copied (bytes_from n (pos a)) (bytes_from n (pos b)) s t ≡ written t b (take n (drop a s))
span_copied zero a b s t from to =
    let here : b + 0 ≡ b = omega arith in
    sym (ap (λ k. take b t ++ drop k t) here ∙ two_pieces_all b t)
  where
    two_pieces_all : (k : ℕ) (xs : List ℕ) → take k xs ++ drop k xs ≡ xs
    two_pieces_all k xs = ap (λ ys. take k xs ++ ys) (sym (take_all (length xs) (drop k xs) (omega (arith, length-drop k xs)))) ∙ two_pieces xs k (length xs) ∙ take_all (k + length xs) xs (omega arith)
span_copied (suc n) a b s t from to =
    let next : n + 1 ≡ suc n = omega arith in
    let read = bytes_from n (pos a) in
    let put = bytes_from n (pos b) in
    let one : ℕ → List Entry = λ x. element_at Byte (pos x +ℤ (pos n *ℤ pos 1)) ∷ [] in
    let first : length read ≡ n = length-adjacent Byte n (pos a) in
    let last : length put ≡ n = length-adjacent Byte n (pos b) in
    let from_at : nat_abs (pos a +ℤ (pos n *ℤ pos 1)) ≡ a + n = omega (arith, ints) in
    let to_at : nat_abs (pos b +ℤ (pos n *ℤ pos 1)) ≡ b + n = omega (arith, ints) in
    let p = take n (drop a s) in
    let q = take 1 (drop (a + n) s) in
    let wide : length p ≡ n = length-take-le n (drop a s) (omega (arith, from, length-drop a s)) in
    let narrow : length q ≡ 1 = length-take-le 1 (drop (a + n) s) (omega (arith, from, length-drop (a + n) s)) in
    ap (λ es. copied es (bytes_from (suc n) (pos b)) s t) (adjacent_more Byte n (pos a))
    ∙ ap (λ fs. copied (read ++ one a) fs s t) (adjacent_more Byte n (pos b))
    ∙ copied_append read (one a) (put ++ one b) s t
    ∙ ap (λ k. copied (one a) (drop k (put ++ one b)) s (copied read (put ++ one b) s t)) first
    ∙ ap (λ fs. copied (one a) fs s (copied read (put ++ one b) s t)) (drop_at put (one b) n last)
    ∙ ap (λ u. copied (one a) (one b) s u)
    (sym (copied_front read (put ++ one b) s t)
    ∙ ap (λ k. copied read (take k (put ++ one b)) s t) first
    ∙ ap (λ fs. copied read fs s t) (take_at put (one b) n last)
    ∙ span_copied n a b s t (omega (arith, from)) (omega (arith, to)))
    ∙ ap (λ k. written (written t b p) k (take 1 (drop (nat_abs (pos a +ℤ (pos n *ℤ pos 1))) s))) to_at
    ∙ ap (λ k. written (written t b p) (b + n) (take 1 (drop k s))) from_at
    ∙ written_further t b n p q wide (omega (arith, wide, narrow, to))
    ∙ ap (written t b) (take_further s a n 1 ∙ ap (λ k. take k (drop a s)) next)
