-- Rows that are taken of what is left of a level.
use Rattle.std.specs.Prelude.{◌≡◌, Some, ℕ, zero, suc, ◌-◌, ◌*◌, ◌/◌, ◌<◌, ◌≤◌, ℤ, pos, List, [], ◌∷◌, ◌++◌, map, length, slice_get}
use Rattle.std.specs.List.{flat_map}
use Rattle.std.proofs.Common.{refl, sym, ap, ◌∙◌, arith}
use Rattle.std.proofs.Math.Nat.{div-mul-le_self, mul-le-mul_right, mul-pos}
use Rattle.dt_cursor.specs.declared.frames.Frame.{Frame}
use Rattle.dt_cursor.specs.declared.level.Cut.{Cut}
use Rattle.dt_cursor.specs.declared.level.Rest.{Rest}
use Rattle.dt_cursor.specs.declared.taking.Left.{Left}
use Rattle.dt_cursor.specs.Ahead.{AreTaken}
use Rattle.dt_cursor.specs.Frames.{StandAt}
use Rattle.dt_cursor.specs.Spread.{IsCut, IsLeft, IsRest, further_on, spread}
use Rattle.dt_cursor.proofs.Climbing.{packed_size-pos, total-cons}
use Rattle.dt_cursor.proofs.NextRounds.{frame_near}
use Rattle.dt_kinds.specs.declared.kind.Kind.{Kind}
use Rattle.dt_kinds.specs.declared.kind.Rep.{Rep}
use Rattle.dt_kinds.specs.Kind.{native_size, packed_size}
use Rattle.dt_kinds.proofs.Table.{native_size-pos}
use Rattle.dt_layout.specs.declared.instr.Instr.{Instr}
use Rattle.dt_map.specs.declared.entry.Entry.{Entry}
use Rattle.dt_map.specs.Packed.{total}
use Rattle.dt_map.proofs.Copies.{total-append}
use Rattle.dt_offsets.specs.Offsets.{row_offsets}
use Rattle.dt_offsets.proofs.Reaches.{count-row}
use Rattle.dt_rows.specs.declared.rows.Rows.{Rows}
use Rattle.dt_rows.specs.Rows.{AreRows, element_at}

-- how many packed bytes rows have
module _ (rep : Rep) (kind : Kind) where
  total_row : (ys : List ℤ) → total rep (map (element_at kind) ys) ≡ length ys * packed_size rep kind
  total_row [] = omega arith
  total_row (y ∷ ys) = omega (arith, total-cons rep (element_at kind y) (map (element_at kind) ys), total_row ys)

  total_rows : (n : ℕ) (step : ℤ) (ys : List ℤ) → total rep (flat_map (λ y. map (element_at kind) (row_offsets y n step)) ys) ≡ length ys * (n * packed_size rep kind)
  total_rows n step [] = omega arith
  total_rows n step (y ∷ ys) =
      let first = total_row (row_offsets y n step) ∙ ap (λ k. k * packed_size rep kind) (count-row y step n) in
      let both = total-append rep (map (element_at kind) (row_offsets y n step)) (flat_map (λ z. map (element_at kind) (row_offsets z n step)) ys) in
      omega (arith, first, both, total_rows n step ys)

  pub total_spread : (x : ℤ) (m : ℕ) (jump : ℤ) (n : ℕ) (step : ℤ) → total rep (spread kind x m jump n step) ≡ m * (n * packed_size rep kind)
  total_spread x m jump n step = total_rows n step (row_offsets x m jump) ∙ ap (λ k. k * (n * packed_size rep kind)) (count-row x jump m)

-- the numbers of a cut
module _ (kind : Kind) (r : Rest) (c : Cut) (is : IsCut kind r c) where
  pub some_cut : 0 < c.rows * c.elements
  some_cut = let count = is.count in let some : 0 < is.rows * is.elements = mul-pos is.left.some_rows is.left.some in omega (arith, count, some)

  pub some_rows : 0 < c.rows
  some_rows = left_pos c.rows c.elements some_cut
    where
      left_pos : (a b : ℕ) → 0 < a * b → 0 < a
      left_pos zero b some = let none : 0 * b ≡ 0 = omega arith in absurd (omega (arith, some, none))
      left_pos (suc a) b some = omega arith

  pub some_elements : 0 < c.elements
  some_elements = right_pos c.rows c.elements some_cut
    where
      right_pos : (a b : ℕ) → 0 < a * b → 0 < b
      right_pos a zero some = let none : a * 0 ≡ 0 = omega arith in absurd (omega (arith, some, none))
      right_pos a (suc b) some = omega arith

  pub more_cut : suc (c.rows * c.elements - 1) ≡ is.rows * is.elements
  more_cut = let count = is.count in let some = some_cut in omega (arith, count, some)

-- rows of whole elements
abbrev pub whole_rows : Kind → ℤ → Cut → ℕ → Rows
whole_rows kind x c size = record { run = record { kind = kind; disp = x; elements = c.elements; skip = 0; bytes = c.elements * size }; rows = c.rows; step = c.step }

pub rows_fit : (most size rows elements : ℕ) → rows * elements ≤ most / size → rows * (elements * size) ≤ most
rows_fit most size rows elements few =
    let all : (rows * elements) * size ≤ most / size * size = mul-le-mul_right size few in
    let same : (rows * elements) * size ≡ rows * (elements * size) = omega arith in
    omega (arith, all, same, div-mul-le_self most size)

pub row_fits : (most size rows elements : ℕ) → 0 < rows → rows * elements ≤ most / size → elements * size ≤ most
row_fits most size rows elements some few =
    let single : 1 * (elements * size) ≤ rows * (elements * size) = mul-le-mul_right (elements * size) some in
    omega (arith, single, rows_fit most size rows elements few)

module _ (code : List Instr) (rep : Rep) (kind : Kind) (x : ℤ) (es : List Entry) (outer : Frame) (others : List Frame) (r : Rest) (is : IsRest code kind x outer others es r) (c : Cut) (cut : IsCut kind r c) where
  rows_shape : AreRows rep (whole_rows kind x c (packed_size rep kind))
  rows_shape =
      let some = mul-pos (some_elements kind r c cut) (packed_size-pos rep kind) in
      let size = packed_size-pos rep kind in
      record {
        some = some_rows kind r c cut;
        run = record { some = some; skip = size; within = omega arith; each = omega (arith, size) };
        whole = λ more. (refl, refl);
      }

  pub rest_taken : AreTaken code rep es 0 (further_on r.of_spot outer (c.rows * c.elements - 1) ∷ others) (whole_rows kind x c (packed_size rep kind))
  rest_taken =
      let ahead = is.ahead cut.rows cut.elements (c.rows * c.elements - 1) cut.left (more_cut kind r c cut) in
      record {
        ahead = record { shape = rows_shape; skip = refl; after = ahead.0; all = ahead.1 ∙ ap (λ s. s ++ ahead.0) (sym (cut.same x)) };
        whole = omega (arith, total_spread rep kind x c.rows c.step c.elements (pos (native_size kind)));
        come = ahead.2;
      }

-- the frames under the innermost
pub under : (outer : Frame) (frames : List Frame) → slice_get frames 0 ≡ Some outer → (others : List Frame) × (frames ≡ outer ∷ others)
under outer [] top = cc
under outer (f ∷ frames) top = let same : f ≡ outer = cc in (frames, ap (λ g. g ∷ frames) same)

pub is_left : (code : List Instr) (kind : Kind) (frame : Frame) (frames : List Frame) (es : List Entry) (l : Left) (others : List Frame) → frames ≡ l.outer ∷ others → StandAt code (frame ∷ l.outer ∷ others) es
    → IsRest code kind frame.base l.outer others es l.rest → IsLeft code kind frame.base frames es l
is_left code kind frame frames es l others same stand rest =
    let come = stand.4 in
    record {
      others = others;
      frames_are = same;
      rest = rest;
      near = stand.2.offset (native_size-pos stand.0);
      outer_near = frame_near code (length others) l.outer come.0 come.1 come.3;
    }
