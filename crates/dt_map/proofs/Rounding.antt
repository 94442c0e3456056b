-- the natural upper bound is the least that makes the extent a multiple of the alignment
use Rattle.std.proofs.Common.{◌≡◌, ℕ, zero, suc, ◌+◌, ◌-◌, ◌*◌, ◌/◌, ◌%◌, ◌≤◌, ◌<◌, ℤ, pos, List, Option, Some, None, ◌+ℤ◌, ◌-ℤ◌, ◌≤ℤ◌, nat_abs, ◌⊎◌, inl, inr, sym, ap, ◌∙◌, arith}
use Rattle.std.proofs.lemmas.Int.{ints}
use Rattle.std.proofs.lemmas.Bool.{cases_lt}
use Rattle.std.proofs.Math.Nat.{mod_self, mod-eq_of_lt, mod-lt, mod-add-div, add-mul-mod_self_left}
use Rattle.dt_map.specs.Numbers.{padding}
use Rattle.dt_kinds.specs.declared.displacement.TheConstants.{DISP_MAX}
use Rattle.dt_kinds.specs.Displacement.{FitsDisp}
use Rattle.std.specs.List.{All}
use Rattle.dt_map.specs.declared.entry.Entry.{Entry}
use Rattle.dt_offsets.specs.declared.marks.Marks.{Marks}
use Rattle.dt_map.specs.Limits.{EntryFits, MarksFit}
use Rattle.dt_map.specs.Bounds.{alignment, true_lb, true_ub, natural_ub, lower_from, upper_from}
use Rattle.dt_map.specs.Laws.{PaddingIsLeast, NaturalIsLeast, BoundsAreInRange}
use Rattle.dt_map.proofs.Extremes.{alignment-pos, alignment-le, true_bounds_ordered, true_lb-fits, true_ub-fits}

-- the rest of a sum is that of the rest of one part
rest_of_sum : (n e a : ℕ) → (n + e) % a ≡ (n % a + e) % a
rest_of_sum n e a =
    let parts : n + e ≡ (n % a + e) + a * (n / a) = omega (arith, mod-add-div n a) in
    ap (λ x. x % a) parts ∙ add-mul-mod_self_left (n % a + e) a (n / a)

-- a number that isn't 0 and leaves no rest is no less than the divisor
no_less_than : (a n : ℕ) → 0 < n → n % a ≡ 0 → a ≤ n
no_less_than a n positive none =
    let decided : (n < a) ⊎ (a ≤ n) = cases_lt n a in
    elim decided [ inl below ↦ (let whole : n % a ≡ n = mod-eq_of_lt below in omega arith) | inr above ↦ above ]

by_rest : (a r : ℕ) → r < a → ((r + (a - r) % a) % a ≡ 0) × ((e : ℕ) → (r + e) % a ≡ 0 → (a - r) % a ≤ e)
by_rest a zero below =
    let all : a - 0 ≡ a = omega arith in
    let none : (a - 0) % a ≡ 0 = ap (λ x. x % a) all ∙ mod_self a in
    (ap (λ p. (0 + p) % a) none ∙ mod-eq_of_lt below, λ e h. omega (arith, none))
by_rest a (suc r) below =
    let small : (a - suc r) % a ≡ a - suc r = mod-eq_of_lt (omega arith) in
    let whole : suc r + (a - suc r) ≡ a = omega arith in (
      ap (λ p. (suc r + p) % a) small ∙ (ap (λ x. x % a) whole ∙ mod_self a),
      λ e h. let least : a ≤ suc r + e = no_less_than a (suc r + e) (omega arith) h in omega (arith, small, least),
    )

pub padding_is_least : PaddingIsLeast
padding_is_least n a positive =
    let rest = by_rest a (n % a) (mod-lt n positive) in
    (rest_of_sum n (padding n a) a ∙ rest.0, λ e h. rest.1 e (sym (rest_of_sum n e a) ∙ h))

further_apart : (low high : ℤ) (p : ℕ) → low ≤ℤ high → nat_abs ((high +ℤ pos p) -ℤ low) ≡ nat_abs (high -ℤ low) + p
further_apart low high p ordered = omega (arith, ints)

between : (high u : ℤ) → high ≤ℤ u → u ≡ high +ℤ pos (nat_abs (u -ℤ high))
between high u ordered = omega (arith, ints)

pub natural_is_least : NaturalIsLeast
natural_is_least es =
    let low = true_lb es in
    let high = true_ub es in
    let a = alignment es in
    let ordered = true_bounds_ordered es in
    let p = padding (nat_abs (high -ℤ low)) a in
    let least = padding_is_least (nat_abs (high -ℤ low)) a (alignment-pos es) in (
      omega (arith, ints),
      ap (λ n. n % a) (further_apart low high p ordered) ∙ least.0,
      λ u above h.
          let e = nat_abs (u -ℤ high) in
          let same = between high u above in
          let far = ap (λ z. nat_abs (z -ℤ low)) same ∙ further_apart low high e ordered in
          let no_less = least.1 e (sym (ap (λ n. n % a) far) ∙ h) in
          omega (arith, ints, same, no_less),
    )

-- the bounds of a typemap in range
padding-le : (n a : ℕ) → 0 < a → a ≤ 8 → padding n a ≤ 7
padding-le n a positive few = let h = mod-lt (a - n % a) positive in omega arith

natural_ub_in_range : (es : List Entry) → All EntryFits es → ((pos 0 -ℤ DISP_MAX) ≤ℤ natural_ub es) × (natural_ub es ≤ℤ (DISP_MAX +ℤ pos 7))
natural_ub_in_range es all =
    let high = true_ub-fits es all in
    let more = padding-le (nat_abs (true_ub es -ℤ true_lb es)) (alignment es) (alignment-pos es) (alignment-le es) in
    (omega (arith, ints, high.0, high.1, more), omega (arith, ints, high.0, high.1, more))

ends_in_range : (es : List Entry) (marks : Option Marks) → All EntryFits es → MarksFit marks →
    FitsDisp (lower_from marks es) × ((pos 0 -ℤ DISP_MAX) ≤ℤ upper_from marks es) × (upper_from marks es ≤ℤ (DISP_MAX +ℤ pos 7))
ends_in_range es None all fit = let up = natural_ub_in_range es all in (true_lb-fits es all, up.0, up.1)
ends_in_range es (Some marks) all fit = let high = fit.1 in (fit.0, high.0, omega (arith, ints, high.1))

pub bounds_are_in_range : BoundsAreInRange
bounds_are_in_range m fits =
    let ends = ends_in_range m.entries m.marks fits.0 fits.1 in
    (true_lb-fits m.entries fits.0, true_ub-fits m.entries fits.0, ends.0, ends.1, ends.2)
