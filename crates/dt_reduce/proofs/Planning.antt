-- A plan as it is seen.
use Rattle.std.proofs.Common.{◌≡◌, ℕ, ℤ, pos, true, List, sym, ap, subst, ◌∙◌}
use Rattle.dt_map.specs.declared.entry.Entry.{Entry}
use Rattle.dt_map.specs.Elements.{elements, are_inside, Overlaps}
use Rattle.dt_map.specs.Typemap.{Marked}
use Rattle.dt_reduce.specs.Paired.{Paired, source_of, target_of}
use Rattle.dt_reduce.specs.Plan.{Reduction, CanReduce, reduction_of}
use Rattle.dt_rows.proofs.Operation.{placed_elements}

abbrev pub seen : Paired → Reduction
seen p = record { source = source_of p; source_len = p.source_len; target = target_of p; target_len = p.target_len }

module _ (m : Marked) (count : ℕ) where
  pub seen_is : (p : Paired) (x source_origin y target_origin : ℤ) (source_len target_len : ℕ) → x ≡ source_origin → y ≡ target_origin
      → p ≡ record { elements = elements m count (pos 0); source_origin = x; source_len = source_len; target_origin = y; target_len = target_len; done = 0 }
      → seen p ≡ reduction_of m count source_origin source_len target_origin target_len
  seen_is p x source_origin y target_origin source_len target_len here there is =
      let told : List Entry → List Entry → Reduction = λ es fs. record { source = es; source_len = source_len; target = fs; target_len = target_len } in
      ap seen is
      ∙ ap (λ es. told es (target_of (record { elements = elements m count (pos 0); source_origin = x; source_len = source_len; target_origin = y; target_len = target_len; done = 0 })))
      (placed_elements m count x ∙ ap (elements m count) here)
      ∙ ap (told (elements m count source_origin)) (placed_elements m count y ∙ ap (elements m count) there)

  pub can_reduce : (x source_origin y target_origin : ℤ) (source_len target_len : ℕ) → x ≡ source_origin → y ≡ target_origin
      → are_inside source_len (elements m count x) ≡ true → are_inside target_len (elements m count y) ≡ true → (Overlaps (elements m count y) → ⊥)
      → CanReduce (reduction_of m count source_origin source_len target_origin target_len)
  can_reduce x source_origin y target_origin source_len target_len here there one other apart =
      record {
        inside = record { source = ap (λ z. are_inside source_len (elements m count z)) (sym here) ∙ one; target = ap (λ z. are_inside target_len (elements m count z)) (sym there) ∙ other };
        apart = λ over. apart (subst (λ z. Overlaps (elements m count z)) (sym there) over);
      }
