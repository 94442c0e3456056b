-- Entries that stand one after another, and no further than some bound, are in range.
use Rattle.std.proofs.Common.{◌≡◌, ℕ, ◌+◌, ◌-◌, ◌%◌, ◌≤◌, None, pos, ◌-ℤ◌, nat_abs, List, sym, ap, subst, ◌∙◌, arith}
use Rattle.std.proofs.lemmas.Int.{ints}
use Rattle.std.proofs.Math.Nat.{mod-lt, mod_self}
use Rattle.dt_kinds.specs.declared.kind.Kind.{Kind}
use Rattle.dt_kinds.specs.Displacement.{FitsDisp}
use Rattle.dt_kinds.specs.Kind.{native_size}
use Rattle.dt_kinds.proofs.Table.{native_size-pos, native_size-le}
use Rattle.dt_map.specs.declared.entry.Entry.{Entry}
use Rattle.dt_map.specs.Bounds.{alignment, true_lb, true_ub, natural_end, natural_ub, extent_of}
use Rattle.dt_map.specs.Limits.{IsInRange}
use Rattle.dt_map.specs.Numbers.{padding}
use Rattle.dt_map.specs.Typemap.{Marked}
use Rattle.dt_accepted.proofs.Stands.{Stands, stands_ordered, stands_size, stands_low, stands_high, stands_align}

-- entries without marks
abbrev pub unmarked : List Entry → Marked
unmarked es = record { entries = es; marks = None }

-- a displacement that is no negative number and not too large
fits : (n : ℕ) → n ≤ 576460752303423488 → FitsDisp (pos n)
fits n le = (omega (arith, ints), omega (arith, ints))

-- the natural upper bound
upper_is : (kind : Kind) (a b : ℕ) (es : List Entry) → Stands kind a es b → natural_ub es ≡ pos (b + padding (b - a) (native_size kind))
upper_is kind a b es h =
    let end = stands_ordered kind a b es h in
    let far : nat_abs (pos b -ℤ pos a) ≡ b - a = omega (arith, ints, end) in
    ap (λ x. natural_end x (true_ub es) (alignment es)) (stands_low kind a b es h)
    ∙ (ap (λ x. natural_end (pos a) x (alignment es)) (stands_high kind a b es h)
    ∙ (ap (natural_end (pos a) (pos b)) (stands_align kind a b es h)
    ∙ ap (λ n. pos (b + padding n (native_size kind))) far))

pub stands_in_range : (kind : Kind) (a b : ℕ) (es : List Entry) → Stands kind a es b → b ≤ 288230376151711744 → IsInRange (unmarked es)
stands_in_range kind a b es h le =
    let end = stands_ordered kind a b es h in
    let size = stands_size kind a b es h in
    let pad = mod-lt (native_size kind - (b - a) % native_size kind) (native_size-pos kind) in
    let small = native_size-le kind in
    record {
      lb = subst FitsDisp (sym (stands_low kind a b es h)) (fits a (omega arith));
      ub = subst FitsDisp (sym (upper_is kind a b es h)) (fits (b + padding (b - a) (native_size kind)) (omega (arith, pad, small)));
      true_lb = subst FitsDisp (sym (stands_low kind a b es h)) (fits a (omega arith));
      true_ub = subst FitsDisp (sym (stands_high kind a b es h)) (fits b (omega arith));
      size = omega (arith, size, le);
    }

-- the extent of entries from byte 0 on that end at a multiple of their size
pub stands_extent : (kind : Kind) (b : ℕ) (es : List Entry) → Stands kind 0 es b → b % native_size kind ≡ 0 → extent_of (unmarked es) ≡ pos b
stands_extent kind b es h whole =
    let z = native_size kind in
    let all : b - 0 ≡ b = omega arith in
    let rest : (b - 0) % z ≡ 0 = ap (λ n. n % z) all ∙ whole in
    let none : padding (b - 0) z ≡ 0 = ap (λ r. (z - r) % z) rest ∙ (ap (λ n. n % z) (let e : z - 0 ≡ z = omega arith in e) ∙ mod_self z) in
    let top : natural_ub es ≡ pos b = upper_is kind 0 b es h ∙ ap pos (let e : b + padding (b - 0) z ≡ b = omega (arith, none) in e) in
    ap (λ x. x -ℤ true_lb es) top ∙ (ap (λ x. pos b -ℤ x) (stands_low kind 0 b es h) ∙ (let e : pos b -ℤ pos 0 ≡ pos b = omega (arith, ints) in e))
