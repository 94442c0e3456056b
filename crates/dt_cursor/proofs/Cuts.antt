-- Rows of what is left.
use Rattle.std.specs.Prelude.{◌≡◌, ℕ, ◌<◌, ◌≤◌, ◌⊎◌, ℤ, ◌+ℤ◌, ◌*ℤ◌, pos, List, [], ◌∷◌, map}
use Rattle.std.specs.List.{flat_map}
use Rattle.std.proofs.Common.{refl, sym, ap, subst, ◌∙◌, arith, inl, inr, append-nil}
use Rattle.dt_cursor.specs.declared.level.Rest.{Rest}
use Rattle.dt_cursor.specs.Spread.{IsCut, spread}
use Rattle.dt_cursor.proofs.Named.{no_step}
use Rattle.dt_kinds.specs.declared.kind.Kind.{Kind}
use Rattle.dt_kinds.specs.Kind.{native_size}
use Rattle.dt_offsets.specs.Offsets.{row_offsets}
use Rattle.dt_rows.specs.Rows.{element_at}

-- one row, whatever the way to the next
one_row_is : (kind : Kind) (x : ℤ) (jump : ℤ) (n : ℕ) (step : ℤ) → spread kind x 1 jump n step ≡ map (element_at kind) (row_offsets x n step)
one_row_is kind x jump n step = append-nil (map (element_at kind) (row_offsets (x +ℤ (pos 0 *ℤ jump)) n step)) ∙ ap (λ y. map (element_at kind) (row_offsets y n step)) (no_step x jump)

-- single elements, whatever the way to the next in a row
singles_are : (kind : Kind) (x : ℤ) (m : ℕ) (jump step : ℤ) → spread kind x m jump 1 step ≡ map (element_at kind) (row_offsets x m jump)
singles_are kind x m jump step = each_single (row_offsets x m jump)
  where
    each_single : (ys : List ℤ) → flat_map (λ y. map (element_at kind) (row_offsets y 1 step)) ys ≡ map (element_at kind) ys
    each_single [] = refl
    each_single (y ∷ ys) = ap (λ z. element_at kind z ∷ flat_map (λ w. map (element_at kind) (row_offsets w 1 step)) ys) (no_step y step) ∙ ap (λ s. element_at kind y ∷ s) (each_single ys)

module _ (kind : Kind) (r : Rest) where
  -- some of the first row, adjacent
  pub cut_row : (n : ℕ) → 0 < n → n ≤ r.row → 0 < r.rows → (n ≡ 1) ⊎ (r.step ≡ pos (native_size kind)) → IsCut kind r (record { rows = 1; elements = n; step = pos 0 })
  cut_row n some most rows adjacent = record {
    rows = 1;
    elements = n;
    left = record { some_rows = omega arith; some = some; most_rows = omega (arith, rows); most = most; whole = λ more. absurd (omega (arith, more)) };
    count = refl;
    same = λ x.
        one_row_is kind x (pos 0) n (pos (native_size kind))
        ∙ elim adjacent [
          | inl single ↦
              subst (λ k. map (element_at kind) (row_offsets x k (pos (native_size kind))) ≡ map (element_at kind) (row_offsets x k r.step)) (sym single)
              (sym (one_row_is kind x (pos 0) 1 (pos (native_size kind))) ∙ singles_are kind x 1 (pos 0) (pos (native_size kind)) ∙ sym (singles_are kind x 1 (pos 0) r.step) ∙ one_row_is kind x (pos 0) 1 r.step)
          | inr step ↦ ap (λ y. map (element_at kind) (row_offsets x n y)) (sym step)
        ]
        ∙ sym (one_row_is kind x r.jump n r.step);
  }

  -- whole rows of adjacent elements
  pub cut_rows : (m : ℕ) (step : ℤ) → 0 < m → m ≤ r.rows → 0 < r.row → step ≡ r.jump → (r.row ≡ 1) ⊎ (r.step ≡ pos (native_size kind)) → IsCut kind r (record { rows = m; elements = r.row; step = step })
  cut_rows m step some most row jump adjacent = record {
    rows = m;
    elements = r.row;
    left = record { some_rows = some; some = row; most_rows = most; most = omega arith; whole = λ more. refl };
    count = refl;
    same = λ x.
        ap (λ y. spread kind x m y r.row (pos (native_size kind))) jump
        ∙ elim adjacent [
          | inl single ↦
              subst (λ k. spread kind x m r.jump k (pos (native_size kind)) ≡ spread kind x m r.jump k r.step) (sym single)
              (singles_are kind x m r.jump (pos (native_size kind)) ∙ sym (singles_are kind x m r.jump r.step))
          | inr size ↦ ap (λ y. spread kind x m r.jump r.row y) (sym size)
        ];
  }

  -- rows of one element each
  pub cut_singles : (n : ℕ) (step : ℤ) → 0 < n → n ≤ r.row → 0 < r.rows → (n ≡ 1) ⊎ (step ≡ r.step) → IsCut kind r (record { rows = n; elements = 1; step = step })
  cut_singles n step some most rows same_step = record {
    rows = 1;
    elements = n;
    left = record { some_rows = omega arith; some = some; most_rows = omega (arith, rows); most = most; whole = λ more. absurd (omega (arith, more)) };
    count = omega arith;
    same = λ x.
        singles_are kind x n step (pos (native_size kind))
        ∙ elim same_step [
          | inl single ↦
              subst (λ k. map (element_at kind) (row_offsets x k step) ≡ map (element_at kind) (row_offsets x k r.step)) (sym single)
              (sym (one_row_is kind x (pos 0) 1 step) ∙ singles_are kind x 1 (pos 0) step ∙ sym (singles_are kind x 1 (pos 0) r.step) ∙ one_row_is kind x (pos 0) 1 r.step)
          | inr is ↦ ap (λ y. map (element_at kind) (row_offsets x n y)) is
        ]
        ∙ sym (one_row_is kind x r.jump n r.step);
  }
