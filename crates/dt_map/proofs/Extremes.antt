-- least, greatest and alignment of joined lists, and their ranges
use Rattle.std.proofs.Common.{◌≡◌, ℕ, ◌+◌, ◌*◌, ◌≤◌, ◌<◌, ℤ, Option, Some, None, List, [], ◌∷◌, ◌++◌, map, max, refl, ap, ◌∙◌, sym, arith, take, get_or, length, unwrap_or, slice_index_or, pos, ◌≤ℤ◌}
use Rattle.std.proofs.lemmas.Int.{ints, clamps}
use Rattle.std.proofs.lemmas.List.{map_more, take_more, take_all}
use Rattle.std.proofs.lemmas.List.Elements.{All-head, All-tail}
use Rattle.std.proofs.lemmas.List.Sums.{sum_by-le}
use Rattle.std.specs.List.{All}
use Rattle.std.specs.Int.{int_min, int_max}
use Rattle.dt_kinds.proofs.Table.{native_size-le, external_size-le}
use Rattle.dt_kinds.specs.Kind.{native_size, external_size}
use Rattle.dt_map.specs.declared.entry.Entry.{Entry}
use Rattle.dt_map.specs.Bounds.{alignment, size_of, external_size_of, true_lb, true_ub, end_of}
use Rattle.dt_map.specs.Limits.{EntryFits}
use Rattle.dt_kinds.specs.Displacement.{FitsDisp}
use Rattle.dt_map.specs.Numbers.{lesser, greater, least, greatest}

int_min_assoc : (x y z : ℤ) → int_min (int_min x y) z ≡ int_min x (int_min y z)
int_min_assoc x y z = omega (arith, ints, clamps)

int_max_assoc : (x y z : ℤ) → int_max (int_max x y) z ≡ int_max x (int_max y z)
int_max_assoc x y z = omega (arith, ints, clamps)

pub lesser_assoc : (x y z : Option ℤ) → lesser (lesser x y) z ≡ lesser x (lesser y z)
lesser_assoc None y z = refl
lesser_assoc (Some x) None z = refl
lesser_assoc (Some x) (Some y) None = refl
lesser_assoc (Some x) (Some y) (Some z) = ap Some (int_min_assoc x y z)

pub greater_assoc : (x y z : Option ℤ) → greater (greater x y) z ≡ greater x (greater y z)
greater_assoc None y z = refl
greater_assoc (Some x) None z = refl
greater_assoc (Some x) (Some y) None = refl
greater_assoc (Some x) (Some y) (Some z) = ap Some (int_max_assoc x y z)

pub least-append : (xs ys : List ℤ) → least (xs ++ ys) ≡ lesser (least xs) (least ys)
least-append [] ys = refl
least-append (x ∷ xs) ys = ap (lesser (Some x)) (least-append xs ys) ∙ sym (lesser_assoc (Some x) (least xs) (least ys))

pub greatest-append : (xs ys : List ℤ) → greatest (xs ++ ys) ≡ greater (greatest xs) (greatest ys)
greatest-append [] ys = refl
greatest-append (x ∷ xs) ys = ap (greater (Some x)) (greatest-append xs ys) ∙ sym (greater_assoc (Some x) (greatest xs) (greatest ys))

pub alignment-pos : (entries : List Entry) → 0 < alignment entries
alignment-pos [] = omega arith
alignment-pos (e ∷ entries) = let h = alignment-pos entries in omega arith

pub alignment-le : (entries : List Entry) → alignment entries ≤ 8
alignment-le [] = omega arith
alignment-le (e ∷ entries) = let h = alignment-le entries in let k = native_size-le e.kind in omega arith

pub alignment-append : (xs ys : List Entry) → alignment (xs ++ ys) ≡ max (alignment xs) (alignment ys)
alignment-append [] ys = let h = alignment-pos ys in omega arith
alignment-append (e ∷ xs) ys = let h = alignment-append xs ys in omega arith

-- the step of a pass over the entries
pub least_more : (f : Entry → ℤ) (es : List Entry) (i : ℕ) (d : Entry) → i < length es → least (map f (take (i + 1) es)) ≡ lesser (least (map f (take i es))) (Some (f (get_or es i d)))
least_more f es i d h = ap least (map_more f es i d h) ∙ least-append (map f (take i es)) (f (get_or es i d) ∷ [])

pub greatest_more : (f : Entry → ℤ) (es : List Entry) (i : ℕ) (d : Entry) → i < length es → greatest (map f (take (i + 1) es)) ≡ greater (greatest (map f (take i es))) (Some (f (get_or es i d)))
greatest_more f es i d h = ap greatest (map_more f es i d h) ∙ greatest-append (map f (take i es)) (f (get_or es i d) ∷ [])

pub alignment_more : (es : List Entry) (i : ℕ) (d : Entry) → i < length es → alignment (take (i + 1) es) ≡ max (alignment (take i es)) (native_size (get_or es i d).kind)
alignment_more es i d h =
    let joined = ap alignment (take_more es i d h) ∙ alignment-append (take i es) (get_or es i d ∷ []) in
    let pos = alignment-pos (take i es) in
    omega arith

-- each entry takes at most eight bytes
pub size_of-le : (es : List Entry) → size_of es ≤ length es * 8
size_of-le es = sum_by-le (λ e. native_size e.kind) 8 es (λ k d h. native_size-le (slice_index_or es k d).kind)

pub external_size_of-le : (es : List Entry) → external_size_of es ≤ length es * 8
external_size_of-le es = sum_by-le (λ e. external_size e.kind) 8 es (λ k d h. external_size-le (slice_index_or es k d).kind)

-- the true bounds of entries that fit do, and stand in order
lesser_fits : (x : ℤ) (o : Option ℤ) → FitsDisp x → FitsDisp (unwrap_or o (pos 0)) → FitsDisp (unwrap_or (lesser (Some x) o) (pos 0))
lesser_fits x None f g = f
lesser_fits x (Some y) f g = (omega (arith, ints, clamps, f, g), omega (arith, ints, clamps, f, g))

greater_fits : (x : ℤ) (o : Option ℤ) → FitsDisp x → FitsDisp (unwrap_or o (pos 0)) → FitsDisp (unwrap_or (greater (Some x) o) (pos 0))
greater_fits x None f g = f
greater_fits x (Some y) f g = (omega (arith, ints, clamps, f, g), omega (arith, ints, clamps, f, g))

pub true_lb-fits : (es : List Entry) → All EntryFits es → FitsDisp (true_lb es)
true_lb-fits [] all = (omega (arith, ints), omega (arith, ints))
true_lb-fits (e ∷ es) all = lesser_fits e.disp (least (map (λ e. e.disp) es)) (All-head EntryFits e es all).0 (true_lb-fits es (All-tail EntryFits e es all))

pub true_ub-fits : (es : List Entry) → All EntryFits es → FitsDisp (true_ub es)
true_ub-fits [] all = (omega (arith, ints), omega (arith, ints))
true_ub-fits (e ∷ es) all = greater_fits (end_of e) (greatest (map end_of es)) (All-head EntryFits e es all).1 (true_ub-fits es (All-tail EntryFits e es all))

lesser-le : (x : ℤ) (o : Option ℤ) → unwrap_or (lesser (Some x) o) (pos 0) ≤ℤ x
lesser-le x None = omega (arith, ints)
lesser-le x (Some y) = omega (arith, ints, clamps)

greater-ge : (x : ℤ) (o : Option ℤ) → x ≤ℤ unwrap_or (greater (Some x) o) (pos 0)
greater-ge x None = omega (arith, ints)
greater-ge x (Some y) = omega (arith, ints, clamps)

pub true_bounds_ordered : (es : List Entry) → true_lb es ≤ℤ true_ub es
true_bounds_ordered [] = omega (arith, ints)
true_bounds_ordered (e ∷ es) =
    let low = lesser-le e.disp (least (map (λ e. e.disp) es)) in
    let high = greater-ge (end_of e) (greatest (map end_of es)) in
    omega (arith, ints, low, high)

-- what a pass has found at its end
pub found_true_lb : (es : List Entry) (i : ℕ) (low : Option ℤ) (x : ℤ) → length es ≤ i → low ≡ least (map (λ e. e.disp) (take i es)) → x ≡ unwrap_or low (pos 0) → x ≡ true_lb es
found_true_lb es i low x end kept found =
    found ∙ ap (λ o. unwrap_or o (pos 0)) (kept ∙ ap (λ s. least (map (λ e. e.disp) s)) (take_all i es end))

pub found_true_ub : (es : List Entry) (i : ℕ) (high : Option ℤ) (x : ℤ) → length es ≤ i → high ≡ greatest (map end_of (take i es)) → x ≡ unwrap_or high (pos 0) → x ≡ true_ub es
found_true_ub es i high x end kept found =
    found ∙ ap (λ o. unwrap_or o (pos 0)) (kept ∙ ap (λ s. greatest (map end_of s)) (take_all i es end))
