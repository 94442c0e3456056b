-- The instructions of count copies of a datatype are a program.
use Rattle.std.specs.Prelude.{◌≡◌, ℕ, zero, suc, ◌+◌, ◌*◌, ◌^◌, ◌<◌, ◌≤◌, ℤ, pos, ◌+ℤ◌, ◌*ℤ◌, nat_abs, List, [], ◌∷◌, ◌++◌, length}
use Rattle.std.specs.List.{All}
use Rattle.std.proofs.Common.{sym, ap, subst, ◌∙◌, arith}
use Rattle.std.proofs.lemmas.List.{nil_from_length}
use Rattle.std.proofs.lemmas.List.Elements.{All-head, All-tail}
use Rattle.std.proofs.lemmas.List.Folds.{flat_map-map}
use Rattle.std.proofs.Math.Nat.{mul-pos}
use Rattle.dt_kinds.specs.declared.kind.Rep.TheVariants.{Native}
use Rattle.dt_map.specs.declared.entry.Entry.{Entry}
use Rattle.dt_map.specs.Bounds.{extent_of, size_of}
use Rattle.dt_map.specs.Elements.{elements}
use Rattle.dt_map.specs.Packed.{total}
use Rattle.dt_map.specs.Typemap.{Marked, shift}
use Rattle.dt_offsets.specs.declared.turns.Turns.{Turns}
use Rattle.dt_offsets.specs.Near.{AreTurns}
use Rattle.dt_offsets.specs.Offsets.{below, turn_offsets, row_offsets}
use Rattle.dt_offsets.proofs.Reaches.{count-row}
use Rattle.dt_type.specs.declared.datatype.Seen.{Seen}
use Rattle.dt_type.specs.Datatype.{entries_of, typemap_of, weight_of}
use Rattle.dt_type.specs.Listing.{entries_at}
use Rattle.dt_type.specs.Whole.{IsWhole}
use Rattle.dt_layout.specs.declared.instr.Instr.{Instr}
use Rattle.dt_layout.specs.Body.{Body, meaning}
use Rattle.dt_layout.specs.Program.{spelling, IsProgram, StandsFor}
use Rattle.dt_layout.specs.Written.{AreClose, copies_under, AreLevels, IsWritten}
use Rattle.dt_layout.proofs.Bodies.{size_is_total, length-spelling}
use Rattle.dt_layout.proofs.Copies.{shift_none}
use Rattle.dt_layout.proofs.Under.{length-copies, copies_of_row, row_level}
use Rattle.dt_layout.proofs.Weights.{whole_handy}

-- the elements of an operation from 0 on are copies in a row
pub copies_in_row : (m : Marked) (count : ℕ) → elements m count (pos 0) ≡ entries_at (row_offsets (pos 0) count (extent_of m)) m.entries
copies_in_row m count = sym (flat_map-map (λ x. shift x m.entries) (λ i. pos 0 +ℤ (pos i *ℤ extent_of m)) (below count))

pub length-elements : (m : Marked) (count : ℕ) → length (elements m count (pos 0)) ≡ count * length m.entries
length-elements m count =
    ap length (copies_in_row m count) ∙ length-copies (row_offsets (pos 0) count (extent_of m)) m.entries
    ∙ ap (λ n. n * length m.entries) (count-row (pos 0) (extent_of m) count)

pub no_elements : (m : Marked) (count : ℕ) → ((0 < count) × (0 < length m.entries) → ⊥) → elements m count (pos 0) ≡ []
no_elements m count missing = nil_from_length (elements m count (pos 0)) (length-elements m count ∙ zero_times count (length m.entries) missing)
  where
    zero_times : (n k : ℕ) → ((0 < n) × (0 < k) → ⊥) → n * k ≡ 0
    zero_times zero k missing = omega arith
    zero_times (suc n) zero missing = omega arith
    zero_times (suc n) (suc k) missing = absurd (missing (omega arith, omega arith))

all_close : (es : List Entry) → All (λ e. nat_abs e.disp ≤ 2 ^ 61) es → AreClose es
all_close [] all = tt
all_close (e ∷ es) all =
    let P : Entry → Type 0 = λ e. nat_abs e.disp ≤ 2 ^ 61 in
    (All-head P e es all, all_close es (All-tail P e es all))

module _ (t : Seen) (count : ℕ) (extent : ℤ) (row : Turns) (same : extent ≡ extent_of (typemap_of t)) (is_row : turn_offsets row ≡ row_offsets (pos 0) count extent) where
  abbrev es : List Entry
  es = elements (typemap_of t) count (pos 0)

  placed : entries_at (row_offsets (pos 0) count extent) (entries_of t) ≡ es
  placed = ap (λ x. entries_at (row_offsets (pos 0) count x) (entries_of t)) same ∙ sym (copies_in_row (typemap_of t) count)

  pub whole_level : AreTurns row → IsWhole t → 0 < count → 0 < length (entries_of t) → total Native es ≤ 2 ^ 62 → AreLevels (row ∷ []) t
  whole_level are whole copies some small =
      let long = length-elements (typemap_of t) count in
      let product : 0 < count * length (entries_of t) = mul-pos copies some in
      row_level row t (row_offsets (pos 0) count extent) is_row are (whole_handy t whole).fits
      (subst (λ s. 0 < length s) (sym placed) (omega (arith, long, product)))
      (subst (λ s. size_of s ≤ 2 ^ 62) (sym placed) small)

  module _ (old code : List Instr) (body : Body) (empty : old ≡ []) (written : IsWritten (row ∷ []) t old code body) where
    stands : meaning body (pos 0) ≡ es
    stands = written.means (pos 0) ∙ shift_none (copies_under (row ∷ []) t) ∙ copies_of_row row t (row_offsets (pos 0) count extent) is_row ∙ placed

    spelled : code ≡ spelling 0 body
    spelled = written.spelled ∙ ap (λ s. s ++ spelling (length s) body) empty

    pub is_program : IsWhole t → All (λ e. nat_abs e.disp ≤ 2 ^ 61) es → total Native es ≤ 2 ^ 62 → IsProgram code body
    is_program whole close small = record {
      spelled = spelled;
      shallow = let deep = (whole 1).0.shallow in let shallow = written.shallow in omega (arith, deep, shallow);
      lawful = written.lawful (pos 0) (subst AreClose (sym stands) (all_close es close));
      small = let sizes = sym (size_is_total Native body (pos 0)) ∙ ap (total Native) stands in omega (arith, sizes, small);
    }

    pub stands_for : IsWhole t → All (λ e. nat_abs e.disp ≤ 2 ^ 61) es → total Native es ≤ 2 ^ 62 → (program : List Instr) → program ≡ code → StandsFor program es
    stands_for whole close small program same = (body, subst (λ c. IsProgram c body) (sym same) (is_program whole close small), stands)

    pub is_short : (program : List Instr) → program ≡ code → length program ≤ 3 * weight_of t + 3
    is_short program same =
        let long = ap length (same ∙ spelled) ∙ length-spelling 0 body in
        let short = written.short in
        omega (arith, long, short)
