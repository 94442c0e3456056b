-- What the writer of a program keeps to, level by level.
use Rattle.std.specs.Prelude.{◌≡◌, ℕ, ◌+◌, ◌*◌, ◌^◌, ◌<◌, ◌≤◌, ◌+ℤ◌, ℤ, nat_abs, List, [], ◌∷◌, ◌++◌, length}
use Rattle.std.specs.List.{AllByRecursion, sum_by}
use Rattle.dt_layout.specs.Body.{Body, loop, Parts, meaning, meanings, width, widths, opened, most_opened}
use Rattle.dt_layout.specs.declared.instr.Instr.{Instr}
use Rattle.dt_layout.specs.Program.{spelling, spellings, IsLawful, AreLawful}
use Rattle.dt_map.specs.declared.entry.Entry.{Entry}
use Rattle.dt_map.specs.Bounds.{size_of}
use Rattle.dt_map.specs.Typemap.{shift}
use Rattle.dt_offsets.specs.declared.turns.Turns.{Turns}
use Rattle.dt_offsets.specs.Near.{AreTurns}
use Rattle.dt_offsets.specs.Offsets.{turn_offsets, grid_offsets}
use Rattle.dt_type.specs.declared.datatype.Seen.{Seen}
use Rattle.dt_type.specs.declared.shape.ShapePartOf.{ShapePartOf}
use Rattle.dt_type.specs.Datatype.{entries_of, weight_of, depth_of}
use Rattle.dt_type.specs.Listing.{entries_at}
use Rattle.dt_type.specs.Shape.{placed_parts}

-- a body at nested turns, the first ones outermost
abbrev pub nest : List Turns → Body → Body
nest [] body = body
nest (t ∷ turns) body = loop t (nest turns body)

abbrev pub is_loop : Body → Type 0
is_loop (loop turns body) = Unit {0}
is_loop body = ⊥

-- an element at most 2^61 away from the origin
abbrev pub AreClose : List Entry → Type 0
AreClose es = AllByRecursion (λ e. nat_abs e.disp ≤ 2 ^ 61) es

-- nested turns with offset x give offsets in range, each to the turns inside
abbrev pub GiveOffsets : List Turns → ℤ → Type 0
GiveOffsets [] x = Unit {0}
GiveOffsets (t ∷ turns) x = AllByRecursion (λ y. nat_abs (x +ℤ y) < 2 ^ 63 × GiveOffsets turns (x +ℤ y)) (turn_offsets t)

-- copies of a datatype's entries, one at each sum of nested turns
abbrev pub copies_under : List Turns → Seen → List Entry
copies_under levels t = entries_at (grid_offsets levels) (entries_of t)

-- nested turns under which a datatype with entries may be written
pub record AreLevels (levels : List Turns) (t : Seen) : Type 0 where
  pub turns : AllByRecursion AreTurns levels
  pub some : 0 < length (copies_under levels t)
  pub small : size_of (copies_under levels t) ≤ 2 ^ 62
  pub offsets : (x : ℤ) → AreClose (shift x (copies_under levels t)) → GiveOffsets levels x

-- the body of a datatype under nested turns is appended
pub record IsWritten (levels : List Turns) (t : Seen) (old new : List Instr) (body : Body) : Type 0 where
  pub spelled : new ≡ old ++ spelling (length old) body
  pub means : (x : ℤ) → meaning body x ≡ shift x (copies_under levels t)
  pub lawful : (x : ℤ) → AreClose (meaning body x) → IsLawful body x
  pub short : width body ≤ 2 * length levels + 3 * weight_of t
  pub shallow : opened body + 1 ≤ length levels + 2 * depth_of t

-- the bodies of parts are appended, each with its turns
pub record AreWritten (shapes : List (ShapePartOf Seen)) (old new : List Instr) (parts : Parts) : Type 0 where
  pub spelled : new ≡ old ++ spellings (length old) parts
  pub means : (x : ℤ) → meanings parts x ≡ shift x (placed_parts shapes).entries
  pub lawful : (x : ℤ) → AreClose (meanings parts x) → AreLawful parts x
  pub short : widths parts ≤ 2 * length shapes + 3 * sum_by (λ p. weight_of p.old) shapes
  pub shallow : (limit : ℕ) → 1 ≤ limit → AllByRecursion (λ p. depth_of p.old < limit) shapes → most_opened parts + 2 ≤ 2 * limit
