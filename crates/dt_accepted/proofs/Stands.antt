-- Entries of one kind that stand one after another, none before byte 0.
use Rattle.std.proofs.Common.{◌≡◌, ℕ, zero, suc, ◌+◌, ◌*◌, ◌≤◌, ◌<◌, true, Option, unwrap_or, ℤ, pos, ◌≤ℤ◌, ◌<ℤ◌, List, [], ◌∷◌, ◌++◌, map, length, get_or, Some, None, refl, sym, ap, subst, ◌∙◌, arith, append-nil}
use Rattle.std.proofs.lemmas.Bool.{and_from}
use Rattle.std.proofs.lemmas.Grind.{flat_map-append}
use Rattle.std.proofs.lemmas.Int.{ints, clamps}
use Rattle.std.proofs.lemmas.List.{length-append}
use Rattle.std.proofs.lemmas.List.Sums.{sum_by-cons}
use Rattle.std.specs.Int.{int_min, int_max}
use Rattle.std.specs.List.{flat_map}
use Rattle.dt_kinds.specs.declared.kind.Kind.{Kind}
use Rattle.dt_kinds.specs.declared.kind.Rep.TheVariants.{Native}
use Rattle.dt_kinds.specs.Kind.{native_size}
use Rattle.dt_kinds.proofs.Table.{native_size-pos}
use Rattle.dt_map.specs.declared.entry.Entry.{Entry}
use Rattle.dt_map.specs.Bounds.{end_of, size_of, alignment, true_lb, true_ub}
use Rattle.dt_map.specs.Elements.{lies_inside, are_inside, IsByteOf, Overlaps}
use Rattle.dt_map.specs.Numbers.{lesser, least, greater, greatest}
use Rattle.dt_map.specs.Packed.{total}
use Rattle.dt_map.specs.Typemap.{shift, shift_entry}
use Rattle.dt_offsets.specs.Offsets.{below}

-- an entry at a byte
abbrev pub entry_at : Kind → ℕ → Entry
entry_at kind low = record { kind = kind; disp = pos low }

-- entries from some byte on, each of which begins where the one before it ends or later; the last one ends at the second byte
abbrev pub Behind : Kind → ℕ → List Entry → ℕ → Type 0
Behind kind at [] high = at ≡ high
Behind kind at (e ∷ es) high = (low : ℕ) × (at ≤ low) × (e ≡ entry_at kind low) × Behind kind (low + native_size kind) es high

-- one entry or more, of which the first one begins at the first byte
abbrev pub Stands : Kind → ℕ → List Entry → ℕ → Type 0
Stands kind low [] high = ⊥
Stands kind low (e ∷ es) high = (e ≡ entry_at kind low) × Behind kind (low + native_size kind) es high

-- the same between equal bytes
pub stands_same : (kind : Kind) (a b c d : ℕ) (es : List Entry) → a ≡ b → c ≡ d → Stands kind a es c → Stands kind b es d
stands_same kind a b c d es e f h = subst (λ x. Stands kind x es d) e (subst (λ x. Stands kind a es x) f h)

-- one entry
pub stands_one : (kind : Kind) (low : ℕ) → Stands kind low (entry_at kind low ∷ []) (low + native_size kind)
stands_one kind low = (refl, refl)

-- those behind others
behind_more : (kind : Kind) (a b c d : ℕ) (es fs : List Entry) → Behind kind a es b → b ≤ c → Stands kind c fs d → Behind kind a (es ++ fs) d
behind_more kind a b c d [] [] h le g = absurd g
behind_more kind a b c d [] (f ∷ fs) h le g = (c, omega arith, g.0, g.1)
behind_more kind a b c d (e ∷ es) fs h le g = (h.0, h.1, h.2, behind_more kind (h.0 + native_size kind) b c d es fs h.3 le g)

pub stands_more : (kind : Kind) (a b c d : ℕ) (es fs : List Entry) → Stands kind a es b → b ≤ c → Stands kind c fs d → Stands kind a (es ++ fs) d
stands_more kind a b c d [] fs h le g = absurd h
stands_more kind a b c d (e ∷ es) fs h le g = (h.0, behind_more kind (a + native_size kind) b c d es fs h.1 le g)

-- so many bytes further on
entry_further : (kind : Kind) (e : Entry) (low x : ℕ) → e ≡ entry_at kind low → shift_entry (pos x) e ≡ entry_at kind (low + x)
entry_further kind e low x is = ap (shift_entry (pos x)) is

behind_further : (kind : Kind) (a b x : ℕ) (es : List Entry) → Behind kind a es b → Behind kind (a + x) (shift (pos x) es) (b + x)
behind_further kind a b x [] h = ap (λ y. y + x) h
behind_further kind a b x (e ∷ es) h =
    let rest = behind_further kind (h.0 + native_size kind) b x es h.3 in
    let turned : h.0 + native_size kind + x ≡ h.0 + x + native_size kind = omega arith in
    let le : a ≤ h.0 = h.1 in
    (h.0 + x, omega arith, entry_further kind e h.0 x h.2, subst (λ y. Behind kind y (shift (pos x) es) (b + x)) turned rest)

pub stands_further : (kind : Kind) (a b x : ℕ) (es : List Entry) → Stands kind a es b → Stands kind (a + x) (shift (pos x) es) (b + x)
stands_further kind a b x [] h = absurd h
stands_further kind a b x (e ∷ es) h =
    let rest = behind_further kind (a + native_size kind) b x es h.1 in
    let turned : a + native_size kind + x ≡ a + x + native_size kind = omega arith in
    (entry_further kind e a x h.0, subst (λ y. Behind kind y (shift (pos x) es) (b + x)) turned rest)

-- groups of entries, each behind the one before it
module _ (kind : Kind) (group : ℕ → List Entry) (from to : ℕ → ℕ) where
  pub stands_each : ((i : ℕ) → Stands kind (from i) (group i) (to i)) → ((i : ℕ) → to i ≤ from (suc i)) → (n : ℕ)
      → Stands kind (from 0) (flat_map group (below (suc n))) (to n)
  stands_each each rise zero = subst (λ es. Stands kind (from 0) es (to 0)) (sym (append-nil (group 0))) (each 0)
  stands_each each rise (suc n) =
      let last : flat_map group (below (suc (suc n))) ≡ flat_map group (below (suc n)) ++ group (suc n) =
      flat_map-append group (below (suc n)) (suc n ∷ []) ∙ ap (λ es. flat_map group (below (suc n)) ++ es) (append-nil (group (suc n))) in
      subst (λ es. Stands kind (from 0) es (to (suc n))) (sym last)
      (stands_more kind (from 0) (to n) (from (suc n)) (to (suc n)) (flat_map group (below (suc n))) (group (suc n)) (stands_each each rise n) (rise n) (each (suc n)))

  pub count_each : (k : ℕ) → ((i : ℕ) → length (group i) ≡ k) → (n : ℕ) → length (flat_map group (below n)) ≡ n * k
  count_each k each zero = omega arith
  count_each k each (suc n) =
      let last : flat_map group (below (suc n)) ≡ flat_map group (below n) ++ group n =
      flat_map-append group (below n) (n ∷ []) ∙ ap (λ es. flat_map group (below n) ++ es) (append-nil (group n)) in
      let before = count_each k each n in
      let one = each n in
      omega (arith, ap length last, length-append (flat_map group (below n)) (group n), before, one)

-- they end behind their beginning
behind_ordered : (kind : Kind) (a b : ℕ) (es : List Entry) → Behind kind a es b → a ≤ b
behind_ordered kind a b [] h = omega arith
behind_ordered kind a b (e ∷ es) h =
    let rest = behind_ordered kind (h.0 + native_size kind) b es h.3 in
    let le : a ≤ h.0 = h.1 in
    omega arith

pub stands_ordered : (kind : Kind) (a b : ℕ) (es : List Entry) → Stands kind a es b → a + native_size kind ≤ b
stands_ordered kind a b [] h = absurd h
stands_ordered kind a b (e ∷ es) h = behind_ordered kind (a + native_size kind) b es h.1

-- they lie inside a buffer that reaches as far
lies_at : (kind : Kind) (low len : ℕ) → low + native_size kind ≤ len → lies_inside len (entry_at kind low) ≡ true
lies_at kind low len le =
    let size = native_size kind in
    grind (arith, ints)

behind_inside : (kind : Kind) (a b len : ℕ) (es : List Entry) → Behind kind a es b → b ≤ len → are_inside len es ≡ true
behind_inside kind a b len [] h le = refl
behind_inside kind a b len (e ∷ es) h le =
    let end = behind_ordered kind (h.0 + native_size kind) b es h.3 in
    and_from (lies_inside len e) (are_inside len es) (ap (lies_inside len) h.2 ∙ lies_at kind h.0 len (omega arith))
    (behind_inside kind (h.0 + native_size kind) b len es h.3 le)

stands_behind : (kind : Kind) (a b : ℕ) (es : List Entry) → Stands kind a es b → Behind kind a es b
stands_behind kind a b [] h = absurd h
stands_behind kind a b (e ∷ es) h = (a, omega arith, h.0, h.1)

pub stands_inside : (kind : Kind) (a b len : ℕ) (es : List Entry) → Stands kind a es b → b ≤ len → are_inside len es ≡ true
stands_inside kind a b len es h le = behind_inside kind a b len es (stands_behind kind a b es h) le

-- no two have a common byte
behind_at : (kind : Kind) (a b : ℕ) (es : List Entry) (j : ℕ) (d : Entry) → Behind kind a es b → j < length es → pos a ≤ℤ (get_or es j d).disp
behind_at kind a b [] j d h lt = absurd (omega arith)
behind_at kind a b (e ∷ es) zero d h lt =
    let le : a ≤ h.0 = h.1 in
    let here : pos a ≤ℤ pos h.0 = omega (arith, ints) in
    subst (λ (e : Entry). pos a ≤ℤ e.disp) (sym h.2) here
behind_at kind a b (e ∷ es) (suc j) d h lt =
    let rest = behind_at kind (h.0 + native_size kind) b es j d h.3 (omega arith) in
    let le : a ≤ h.0 = h.1 in
    omega (arith, ints, rest, le)

behind_apart : (kind : Kind) (a b : ℕ) (es : List Entry) → Behind kind a es b → (i j : ℕ) (x : ℤ) → i < j → j < length es
    → ((d : Entry) → IsByteOf x (get_or es i d)) → ((d : Entry) → IsByteOf x (get_or es j d)) → ⊥
behind_apart kind a b [] h i j x lt within here there = absurd (omega arith)
behind_apart kind a b (e ∷ es) h i zero x lt within here there = absurd (omega arith)
behind_apart kind a b (e ∷ es) h zero (suc j) x lt within here there =
    let first = subst (λ (e : Entry). x <ℤ end_of e) h.2 (here e).1 in
    let later = behind_at kind (h.0 + native_size kind) b es j e h.3 (omega arith) in
    let other = (there e).0 in
    absurd (omega (arith, ints, first, later, other))
behind_apart kind a b (e ∷ es) h (suc i) (suc j) x lt within here there =
    behind_apart kind (h.0 + native_size kind) b es h.3 i j x (omega arith) (omega arith) here there

pub stands_apart : (kind : Kind) (a b : ℕ) (es : List Entry) → Stands kind a es b → ¬ Overlaps es
stands_apart kind a b es h (i, j, x, lt, within, here, there) = behind_apart kind a b es (stands_behind kind a b es h) i j x lt within here there

-- their bytes
behind_total : (kind : Kind) (a b : ℕ) (es : List Entry) → Behind kind a es b → total Native es ≡ length es * native_size kind
behind_total kind a b [] h = omega arith
behind_total kind a b (e ∷ es) h =
    let rest = behind_total kind (h.0 + native_size kind) b es h.3 in
    let one : native_size e.kind ≡ native_size kind = ap (λ (e : Entry). native_size e.kind) h.2 in
    omega (arith, rest, one, sum_by-cons (λ (x : Entry). native_size x.kind) e es)

pub stands_total : (kind : Kind) (a b : ℕ) (es : List Entry) → Stands kind a es b → total Native es ≡ length es * native_size kind
stands_total kind a b es h = behind_total kind a b es (stands_behind kind a b es h)

behind_size : (kind : Kind) (a b : ℕ) (es : List Entry) → Behind kind a es b → a + size_of es ≤ b
behind_size kind a b [] h = omega arith
behind_size kind a b (e ∷ es) h =
    let rest = behind_size kind (h.0 + native_size kind) b es h.3 in
    let one : native_size e.kind ≡ native_size kind = ap (λ (e : Entry). native_size e.kind) h.2 in
    let le : a ≤ h.0 = h.1 in
    omega (arith, rest, one, sum_by-cons (λ (x : Entry). native_size x.kind) e es)

pub stands_size : (kind : Kind) (a b : ℕ) (es : List Entry) → Stands kind a es b → a + size_of es ≤ b
stands_size kind a b es h = behind_size kind a b es (stands_behind kind a b es h)

-- their bounds
at_end : (kind : Kind) (e : Entry) (low : ℕ) → e ≡ entry_at kind low → end_of e ≡ pos (low + native_size kind)
at_end kind e low is = ap end_of is

at_disp : (kind : Kind) (e : Entry) (low : ℕ) → e ≡ entry_at kind low → e.disp ≡ pos low
at_disp kind e low is = ap (λ (e : Entry). e.disp) is

-- the least of numbers that are no less than one, and that one
abbrev AtLeast : ℕ → Option ℤ → Type 0
AtLeast a None = Unit {0}
AtLeast a (Some x) = pos a ≤ℤ x

least_behind : (a : ℕ) (x : ℤ) (o : Option ℤ) → pos a ≤ℤ x → AtLeast a o → AtLeast a (lesser (Some x) o)
least_behind a x None le h = le
least_behind a x (Some y) le h = omega (arith, ints, clamps, le, h)

least_is : (a : ℕ) (o : Option ℤ) → AtLeast a o → lesser (Some (pos a)) o ≡ Some (pos a)
least_is a None h = refl
least_is a (Some y) h = let same : int_min (pos a) y ≡ pos a = omega (arith, ints, clamps, h) in ap Some same

later_least : (a b : ℕ) (o : Option ℤ) → a ≤ b → AtLeast b o → AtLeast a o
later_least a b None le h = tt
later_least a b (Some x) le h = omega (arith, ints, h)

disps_behind : (kind : Kind) (a b : ℕ) (es : List Entry) → Behind kind a es b → AtLeast a (least (map (λ e. e.disp) es))
disps_behind kind a b [] h = tt
disps_behind kind a b (e ∷ es) h =
    let rest = disps_behind kind (h.0 + native_size kind) b es h.3 in
    let le : a ≤ h.0 = h.1 in
    let same = at_disp kind e h.0 h.2 in
    let here : pos a ≤ℤ e.disp = omega (arith, ints, le, same) in
    least_behind a e.disp (least (map (λ e. e.disp) es)) here
    (later_least a (h.0 + native_size kind) (least (map (λ e. e.disp) es)) (omega arith) rest)

pub stands_low : (kind : Kind) (a b : ℕ) (es : List Entry) → Stands kind a es b → true_lb es ≡ pos a
stands_low kind a b [] h = absurd h
stands_low kind a b (e ∷ es) h =
    let rest = disps_behind kind (a + native_size kind) b es h.1 in
    let others = least (map (λ e. e.disp) es) in
    ap (λ x. unwrap_or (lesser (Some x) others) (pos 0)) (at_disp kind e a h.0)
    ∙ ap (λ o. unwrap_or o (pos 0)) (least_is a others (later_least a (a + native_size kind) others (omega arith) rest))

-- the greatest end is the last
greater_last : (a b : ℕ) (o : Option ℤ) → a ≤ b → unwrap_or o (pos a) ≡ pos b → greater (Some (pos a)) o ≡ Some (pos b)
greater_last a b None le h = ap Some h
greater_last a b (Some y) le h = let same : int_max (pos a) y ≡ pos b = omega (arith, ints, clamps, h) in ap Some same

ends_behind : (kind : Kind) (a b : ℕ) (es : List Entry) → Behind kind a es b → unwrap_or (greatest (map end_of es)) (pos a) ≡ pos b
ends_behind kind a b [] h = ap pos h
ends_behind kind a b (e ∷ es) h =
    let rest = ends_behind kind (h.0 + native_size kind) b es h.3 in
    let others = greatest (map end_of es) in
    ap (λ x. unwrap_or (greater (Some x) others) (pos a)) (at_end kind e h.0 h.2)
    ∙ ap (λ o. unwrap_or o (pos a))
    (greater_last (h.0 + native_size kind) b others (behind_ordered kind (h.0 + native_size kind) b es h.3) rest)

pub stands_high : (kind : Kind) (a b : ℕ) (es : List Entry) → Stands kind a es b → true_ub es ≡ pos b
stands_high kind a b [] h = absurd h
stands_high kind a b (e ∷ es) h =
    let rest = ends_behind kind (a + native_size kind) b es h.1 in
    let others = greatest (map end_of es) in
    ap (λ x. unwrap_or (greater (Some x) others) (pos 0)) (at_end kind e a h.0)
    ∙ ap (λ o. unwrap_or o (pos 0)) (greater_last (a + native_size kind) b others (behind_ordered kind (a + native_size kind) b es h.1) rest)

behind_align : (kind : Kind) (a b : ℕ) (es : List Entry) → Behind kind a es b → alignment es ≤ native_size kind
behind_align kind a b [] h = native_size-pos kind
behind_align kind a b (e ∷ es) h =
    let rest = behind_align kind (h.0 + native_size kind) b es h.3 in
    let one : native_size e.kind ≡ native_size kind = ap (λ (e : Entry). native_size e.kind) h.2 in
    omega (arith, rest, one)

pub stands_align : (kind : Kind) (a b : ℕ) (es : List Entry) → Stands kind a es b → alignment es ≡ native_size kind
stands_align kind a b [] h = absurd h
stands_align kind a b (e ∷ es) h =
    let rest = behind_align kind (a + native_size kind) b es h.1 in
    let one : native_size e.kind ≡ native_size kind = ap (λ (e : Entry). native_size e.kind) h.0 in
    omega (arith, rest, one)
