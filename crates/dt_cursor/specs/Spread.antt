-- What is left of the level at which a run stands.
use Rattle.std.specs.Prelude.{◌≡◌, ℕ, suc, ◌+◌, ◌*◌, ◌^◌, ◌<◌, ◌≤◌, ◌+ℤ◌, ◌*ℤ◌, ℤ, pos, nat_abs, Bool, true, false, List, ◌∷◌, ◌++◌, map}
use Rattle.std.specs.List.{flat_map}
use Rattle.dt_cursor.specs.declared.frames.Frame.{Frame}
use Rattle.dt_cursor.specs.declared.level.Cut.{Cut}
use Rattle.dt_cursor.specs.declared.level.Rest.{Rest}
use Rattle.dt_cursor.specs.declared.taking.Left.{Left}
use Rattle.dt_cursor.specs.Frames.{ToCome}
use Rattle.dt_kinds.specs.declared.kind.Kind.{Kind}
use Rattle.dt_kinds.specs.Kind.{native_size}
use Rattle.dt_layout.specs.declared.instr.Instr.{Instr}
use Rattle.dt_map.specs.declared.entry.Entry.{Entry}
use Rattle.dt_offsets.specs.Offsets.{row_offsets}
use Rattle.dt_rows.specs.Rows.{element_at}

-- rows of elements: so many rows, some bytes apart, of so many elements, some bytes apart
abbrev pub spread : Kind → ℤ → ℕ → ℤ → ℕ → ℤ → List Entry
spread kind x rows jump elements step = flat_map (λ y. map (element_at kind) (row_offsets y elements step)) (row_offsets x rows jump)

-- offsets by number: from one on, so many rows of so many lie evenly
abbrev pub LieEvenly : (ℕ → ℤ) → ℕ → ℕ → ℤ → ℕ → ℤ → Type 0
LieEvenly offset from rows jump elements step =
    (i k : ℕ) → i < rows → k < elements → offset (from + (i * elements + k)) ≡ (offset from +ℤ (pos i *ℤ jump)) +ℤ (pos k *ℤ step)

-- so many rows of so many elements are left: some of the first row, or whole rows
pub record AreLeft (r : Rest) (rows elements : ℕ) : Type 0 where
  pub some_rows : 0 < rows
  pub some : 0 < elements
  pub most_rows : rows ≤ r.rows
  pub most : elements ≤ r.row
  pub whole : 1 < rows → elements ≡ r.row

-- of a level's elements, the first of which has a number, so many are left, which lie evenly
pub record IsRestOf (offset : ℕ → ℤ) (from count : ℕ) (r : Rest) : Type 0 where
  pub some_rows : 0 < r.rows
  pub some : 0 < r.row
  pub within : (rows elements : ℕ) → AreLeft r rows elements → from + rows * elements ≤ count
  pub even : (rows elements : ℕ) → AreLeft r rows elements → LieEvenly offset from rows r.jump elements r.step

-- a frame so many turns, or copies of its spot, further on
abbrev pub further_on : Bool → Frame → ℕ → Frame
further_on false f by = record f { turn = f.turn + by }
further_on true f by = record f { copy = f.copy + by }

-- the frame has room to go on so far
abbrev pub HasRoom : Bool → Frame → ℕ → Type 0
HasRoom false f by = f.turn + by < 2 ^ 64
HasRoom true f by = f.copy + by < 2 ^ 32

-- what is left from the element at a frame on, which is run in another frame's round
pub record IsRest (code : List Instr) (kind : Kind) (x : ℤ) (outer : Frame) (frames : List Frame) (es : List Entry) (r : Rest) : Type 0 where
  pub some_rows : 0 < r.rows
  pub some : 0 < r.row
  pub room : (rows elements more : ℕ) → AreLeft r rows elements → suc more ≡ rows * elements → HasRoom r.of_spot outer more
  pub ahead : (rows elements more : ℕ) → AreLeft r rows elements → suc more ≡ rows * elements
      → (after : List Entry) × (es ≡ spread kind x rows r.jump elements r.step ++ after) × ToCome code (further_on r.of_spot outer more ∷ frames) after

-- rows of adjacent elements are so many rows of so many that are left
pub record IsCut (kind : Kind) (r : Rest) (c : Cut) : Type 0 where
  pub rows : ℕ
  pub elements : ℕ
  pub left : AreLeft r rows elements
  pub count : c.rows * c.elements ≡ rows * elements
  pub same : (x : ℤ) → spread kind x c.rows c.step c.elements (pos (native_size kind)) ≡ spread kind x rows r.jump elements r.step

-- what is left under frames, the innermost of which is that of the level
pub record IsLeft (code : List Instr) (kind : Kind) (x : ℤ) (frames : List Frame) (es : List Entry) (l : Left) : Type 0 where
  pub others : List Frame
  pub frames_are : frames ≡ l.outer ∷ others
  pub rest : IsRest code kind x l.outer others es l.rest
  pub near : nat_abs x < 2 ^ 63
  pub outer_near : nat_abs l.outer.base < 2 ^ 63
