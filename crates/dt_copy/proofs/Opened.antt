-- What holds of the operations of a copy as it is planned.
use Rattle.std.proofs.Common.{◌≡◌, ℕ, ◌*◌, ◌^◌, ◌≤◌, true, ℤ, pos, List, [], ◌∷◌, length, inl, inr, sym, ap, subst, ◌∙◌, arith}
use Rattle.std.proofs.lemmas.Bool.{cases_lt}
use Rattle.std.proofs.lemmas.List.{length-map}
use Rattle.std.proofs.lemmas.List.Sums.{sum_by-cons}
use Rattle.dt_copy.specs.Matching.{Begins, DifferAt}
use Rattle.dt_copy.specs.Plan.{Copy, AreEnough, DifferFirst, IsPlan, copy_of}
use Rattle.dt_copy.specs.Side.{Reader, at_byte, kinds_of}
use Rattle.dt_copy.proofs.Alike.{AreFirst, begins_alike, first_of_bytes}
use Rattle.dt_copy.proofs.Elements.{length-kinds_of}
use Rattle.dt_elems.proofs.Clashes.{overlaps_from_size}
use Rattle.dt_elems.proofs.Receiving.{received_are_done}
use Rattle.dt_kinds.specs.declared.kind.Rep.TheVariants.{Native}
use Rattle.dt_kinds.specs.Kind.{packed_size}
use Rattle.dt_kinds.proofs.Table.{native_size-pos, native_size-le}
use Rattle.dt_layout.proofs.Programs.{length-elements}
use Rattle.dt_map.specs.declared.entry.Entry.{Entry}
use Rattle.dt_map.specs.Counts.{received_elements}
use Rattle.dt_map.specs.Elements.{elements, are_inside, Overlaps}
use Rattle.dt_map.specs.Packed.{total}
use Rattle.dt_map.specs.Setting.{done}
use Rattle.dt_map.specs.Typemap.{Marked, shift_entry}
use Rattle.dt_rows.proofs.Operation.{placed_elements}

-- how many elements an operation has
pub number_of : (m : Marked) (count : ℕ) (origin : ℤ) → length (elements m count origin) ≡ count * length m.entries
number_of m count origin =
    sym (ap length (placed_elements m count origin)) ∙ length-map (elements m count (pos 0)) (shift_entry origin) ∙ length-elements m count

-- each element has 1 to 8 bytes
some_bytes_each : (es : List Entry) → length es ≤ total Native es
some_bytes_each [] = omega arith
some_bytes_each (e ∷ es) =
    let rest = some_bytes_each es in
    omega (arith, rest, native_size-pos e.kind, sum_by-cons (λ (f : Entry). packed_size Native f.kind) e es)

few_bytes_each : (es : List Entry) → total Native es ≤ 8 * length es
few_bytes_each [] = omega arith
few_bytes_each (e ∷ es) =
    let rest = few_bytes_each es in
    omega (arith, rest, native_size-le e.kind, sum_by-cons (λ (f : Entry). packed_size Native f.kind) e es)

-- elements that don't overlap have no more bytes than the buffer in which they lie
no_more_than : (len : ℕ) (fs : List Entry) → are_inside len fs ≡ true → (Overlaps fs → ⊥) → total Native fs ≤ len
no_more_than len fs inside apart =
    elim (cases_lt len (total Native fs)) [
      | inl more ↦ absurd (apart (overlaps_from_size len fs inside more))
      | inr few ↦ few
    ]

-- where no kinds are compared yet, there are few bytes and elements on either side
module _ (c : Copy) (are : AreEnough c) (small : c.target_len ≤ 16777216) where
  few_bytes : total Native c.target ≤ c.target_len
  few_bytes = no_more_than c.target_len c.target are.settable.inside.target are.settable.apart

  pub few_into : total Native c.target ≤ 2 ^ 62
  few_into = omega (arith, few_bytes, small)

  pub few_from : total Native c.source ≤ 2 ^ 62
  few_from = omega (arith, few_bytes, small, are.enough, few_bytes_each c.source, some_bytes_each c.target)

  pub few_copied : length c.source ≤ 16777216
  few_copied = omega (arith, few_bytes, small, are.enough, some_bytes_each c.target)

-- elements that may be compared, wherever numbers put them
module _ (source target : Marked) (source_count target_count source_len target_len : ℕ) (x y : ℤ) where
  abbrev from : List Entry
  from = elements source source_count x

  abbrev into : List Entry
  into = elements target target_count y

  abbrev the_copy : Copy
  the_copy = copy_of source source_count x source_len target target_count y target_len

  pub are_enough : are_inside source_len from ≡ true → are_inside target_len into ≡ true → (Overlaps into → ⊥) → length from ≤ length into → AreEnough the_copy
  are_enough source_inside target_inside apart fewer = record {
    settable = record { inside = record { source = source_inside; target = target_inside }; apart = apart };
    enough = fewer;
  }

  pub differ_first : AreEnough the_copy → (byte at : ℕ) → DifferAt (kinds_of from) (kinds_of into) byte → at ≡ received_elements Native source byte → DifferFirst the_copy at
  differ_first enough byte at differ is =
      let within = differ.within in
      let long = length-kinds_of from in
      let same : at ≡ done Native from byte = is ∙ sym (received_are_done Native source source_count byte x (omega (arith, within, long))) in
      let first = subst (AreFirst from into) (sym same) (first_of_bytes from into byte differ enough.enough) in
      record { enough = enough; within = first.0; before = first.1; here = first.2 }

-- the copy of what one reader reads to what another does
abbrev between : Reader → Reader → Copy
between r s = record { source = r.elements; source_len = r.len; target = s.elements; target_len = s.len }

-- the plan of two sides whose kinds begin alike, wherever they have gone
pub plan_between : (k : Copy) (f g new_f new_g : Reader) (p q n : ℕ) → AreEnough k → n ≡ length k.source
    → f ≡ record { elements = k.source; len = k.source_len; position = 0 } → g ≡ record { elements = k.target; len = k.target_len; position = 0 }
    → Begins (kinds_of f.elements) (kinds_of g.elements) → new_f ≡ at_byte f p → new_g ≡ at_byte g q → IsPlan (between new_f new_g) n
plan_between k f g new_f new_g p q n enough all is_f is_g begins moved_f moved_g =
    let first : Reader = record { elements = k.source; len = k.source_len; position = 0 } in
    let alike = subst (λ (r : Reader). Begins (kinds_of k.source) (kinds_of r.elements)) is_g (subst (λ (r : Reader). Begins (kinds_of r.elements) (kinds_of g.elements)) is_f begins) in
    let whole : IsPlan k n = record { can = record { enough = enough; alike = begins_alike k.source k.target alike enough.enough }; all = all } in
    let seen : between new_f new_g ≡ k =
    ap (λ r. between r new_g) moved_f ∙ ap (between f) moved_g ∙ ap (λ r. between r g) is_f ∙ ap (between first) is_g in
    subst (λ k. IsPlan k n) (sym seen) whole
