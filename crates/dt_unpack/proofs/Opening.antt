-- What holds of a session as it is opened.
use Rattle.std.proofs.Common.{◌≡◌, ℕ, ◌^◌, ◌≤◌, ◌<◌, true, ℤ, pos, List, [], ◌∷◌, inl, inr, refl, sym, ap, ◌∙◌, arith}
use Rattle.std.proofs.lemmas.Bool.{cases_lt}
use Rattle.dt_cursor.specs.Search.{AreHeld}
use Rattle.dt_elems.proofs.Clashes.{overlaps_from_size}
use Rattle.dt_kinds.specs.declared.kind.Rep.{Rep}
use Rattle.dt_kinds.specs.declared.kind.Rep.TheVariants.{Native, External32}
use Rattle.dt_kinds.specs.Kind.{packed_size}
use Rattle.dt_kinds.proofs.Table.{native_size-pos, external_size-pos}
use Rattle.dt_map.specs.declared.entry.Entry.{Entry}
use Rattle.dt_map.specs.Elements.{elements, are_inside, Overlaps}
use Rattle.dt_map.specs.Packed.{total}
use Rattle.dt_map.specs.Typemap.{Marked}
use Rattle.dt_map.proofs.Copies.{total-shift}
use Rattle.dt_rows.proofs.Operation.{placed_elements}

-- elements that don't overlap have no more bytes than the buffer in which they lie
pub small_in_memory : (m : Marked) (count len : ℕ) (origin : ℤ) → len ≤ 16777216 → are_inside len (elements m count origin) ≡ true → (Overlaps (elements m count origin) → ⊥)
    → total Native (elements m count (pos 0)) ≤ 2 ^ 62
small_in_memory m count len origin small inside apart =
    let moved = ap (total Native) (sym (placed_elements m count origin)) ∙ total-shift Native origin (elements m count (pos 0)) in
    elim (cases_lt len (total Native (elements m count origin))) [
      | inl more ↦ absurd (apart (overlaps_from_size len (elements m count origin) inside more))
      | inr few ↦ omega (arith, few, small, moved)
    ]

pub packed_size-pos : (rep : Rep) (e : Entry) → 0 < packed_size rep e.kind
packed_size-pos Native e = native_size-pos e.kind
packed_size-pos External32 e = external_size-pos e.kind

-- no bytes are held before any elements
pub none_held : (rep : Rep) (es : List Entry) → AreHeld rep 0 es
none_held rep [] = refl
none_held rep (e ∷ es) = packed_size-pos rep e
