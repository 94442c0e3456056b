-- Entries that are too wide for a datatype of their tree, by bounds in range.
use Rattle.std.proofs.Common.{◌≡◌, ◌≤◌, true, false, ℤ, pos, nat_abs, ◌-ℤ◌, List, inl, inr, sym, ap, subst, ◌∙◌, arith, int_lt}
use Rattle.std.proofs.lemmas.Int.{ints}
use Rattle.std.proofs.lemmas.Bool.{true_from_ne_false}
use mir.Syntax.{w64, w128}
use mir.Val.{to_z, of_z}
use Rattle.dt_kinds.specs.Displacement.{FitsDisp}
use Rattle.dt_map.specs.Bounds.{true_lb, true_ub, natural_ub, natural_end, alignment}
use Rattle.dt_map.specs.declared.bounds.Bounds.{Bounds}
use Rattle.dt_map.specs.declared.entry.Entry.{Entry}
use Rattle.dt_rebuild.proofs.Around.{long_back, disp_back}
use Rattle.dt_rebuild.proofs.Narrow.{rounded}
use Rattle.dt_machine.specs.Choice.{AreTooWide}

-- a wide number, read back from its bits
wide_back : (x : ℤ) → nat_abs x ≤ 9223372036854775807 → to_z w128 (of_z w128 x) ≡ x
wide_back x small = omega (arith, ints)

fits_small : (x : ℤ) → FitsDisp x → nat_abs x ≤ 1152921504606846976
fits_small x fits = omega (arith, ints, fits.0, fits.1)

-- the true extent, as it is computed
span_back : (low high x y : ℤ) → FitsDisp low → FitsDisp high → x ≡ to_z w64 (of_z w64 high) → y ≡ to_z w64 (of_z w64 low)
    → to_z w128 (of_z w128 (to_z w128 (of_z w128 x) -ℤ to_z w128 (of_z w128 y))) ≡ high -ℤ low
span_back low high x y fits above a b =
    let x_is : x ≡ high = a ∙ disp_back high above in
    let y_is : y ≡ low = b ∙ disp_back low fits in
    let lower = fits_small low fits in
    let upper = fits_small high above in
    ap (λ z. to_z w128 (of_z w128 (to_z w128 (of_z w128 z) -ℤ to_z w128 (of_z w128 y)))) x_is
    ∙ (ap (λ z. to_z w128 (of_z w128 (to_z w128 (of_z w128 high) -ℤ to_z w128 (of_z w128 z)))) y_is
    ∙ (ap (λ z. to_z w128 (of_z w128 (z -ℤ to_z w128 (of_z w128 low)))) (wide_back high (omega (arith, upper)))
    ∙ (ap (λ z. to_z w128 (of_z w128 (high -ℤ z))) (wide_back low (omega (arith, lower))) ∙ wide_back (high -ℤ low) (omega (arith, ints, fits.0, fits.1, above.0, above.1)))))

module _ (es : List Entry) (b : Bounds) (low : b.true_lb ≡ true_lb es) (high : b.true_ub ≡ true_ub es) (align : b.align ≡ alignment es)
    (fits_low : FitsDisp (true_lb es)) (fits_high : FitsDisp (true_ub es)) (x y : ℤ) (x_is : x ≡ to_z w64 (of_z w64 b.true_ub)) (y_is : y ≡ to_z w64 (of_z w64 b.true_lb)) where
  fits : FitsDisp b.true_lb
  fits = subst FitsDisp (sym low) fits_low

  above : FitsDisp b.true_ub
  above = subst FitsDisp (sym high) fits_high

  abbrev span : ℤ
  span = to_z w128 (of_z w128 (to_z w128 (of_z w128 x) -ℤ to_z w128 (of_z w128 y)))

  span_is : span ≡ true_ub es -ℤ true_lb es
  span_is = span_back b.true_lb b.true_ub x y fits above x_is y_is ∙ (ap (λ z. z -ℤ b.true_lb) high ∙ ap (λ z. true_ub es -ℤ z) low)

  pub by_span : int_lt (pos 576460752303423488) span ≡ true → AreTooWide es
  by_span wide = inl (let same = span_is in omega (arith, ints, wide, same))

  module _ (narrow : int_lt (pos 576460752303423488) span ≡ false) (end : ℤ) (end_is : end ≡ natural_end (to_z w64 (of_z w64 b.true_lb)) (to_z w64 (of_z w64 b.true_ub)) b.align) where
    end_natural : end ≡ natural_ub es
    end_natural =
        end_is
        ∙ (ap (λ z. natural_end z (to_z w64 (of_z w64 b.true_ub)) b.align) (disp_back b.true_lb fits ∙ low)
        ∙ (ap (λ z. natural_end (true_lb es) z b.align) (disp_back b.true_ub above ∙ high) ∙ ap (natural_end (true_lb es) (true_ub es)) align))

    natural_is : to_z w64 (of_z w64 end) ≡ natural_ub es
    natural_is =
        let same = end_natural in
        let round = rounded es in
        long_back end (omega (arith, ints, same, round.0, round.1, fits_high.0, fits_high.1)) ∙ same

    pub by_end : int_lt (pos 1152921504606846976) (to_z w64 (of_z w64 end)) ≡ true → AreTooWide es
    by_end far = inr (let same = natural_is in omega (arith, ints, far, same))

    pub end_of : AreTooWide es → int_lt (pos 1152921504606846976) (to_z w64 (of_z w64 end)) ≡ true
    end_of (inl wide) = let same = span_is in absurd (omega (arith, ints, wide, same, narrow))
    end_of (inr far) =
        true_from_ne_false (int_lt (pos 1152921504606846976) (to_z w64 (of_z w64 end))) (λ near. let same = natural_is in absurd (omega (arith, ints, far, near, same)))
