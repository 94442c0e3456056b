-- How a packed byte is found.
use Rattle.std.specs.Prelude.{◌≡◌, Some, ℕ, ◌+◌, ◌*◌, ◌^◌, ◌<◌, ◌≤◌, ℤ, nat_abs, List, [], ◌∷◌, ◌++◌, length, take, slice_get}
use Rattle.dt_cursor.specs.declared.frames.Frame.{Frame}
use Rattle.dt_cursor.specs.declared.parts.PartTurn.{PartTurn}
use Rattle.dt_cursor.specs.declared.spots.SpotCopy.{SpotCopy}
use Rattle.dt_cursor.specs.declared.step.Copied.{Copied}
use Rattle.dt_cursor.specs.declared.step.Step.{Step}
use Rattle.dt_cursor.specs.declared.step.Step.TheVariants.{At, In}
use Rattle.dt_cursor.specs.Frames.{StandAt, IsToRun}
use Rattle.dt_cursor.specs.Rounds.{Round, part_round, part_rounds, elements_of}
use Rattle.dt_kinds.specs.declared.kind.Rep.{Rep}
use Rattle.dt_kinds.specs.declared.kind.Rep.TheVariants.{Native, External32}
use Rattle.dt_kinds.specs.Kind.{packed_size}
use Rattle.dt_layout.specs.Body.{Body, loop, Parts, no_parts, part, size, sizes_of, width}
use Rattle.dt_layout.specs.declared.instr.Instr.{Instr}
use Rattle.dt_layout.specs.declared.instr.Instr.TheVariants as instrs
use Rattle.dt_layout.specs.declared.instr.Sizes.{Sizes}
use Rattle.dt_map.specs.declared.entry.Entry.{Entry}
use Rattle.dt_map.specs.Packed.{total}
use Rattle.dt_offsets.specs.declared.turns.Spot.{Spot}
use Rattle.dt_offsets.specs.declared.turns.Turns.{Turns}
use Rattle.dt_offsets.specs.Offsets.{spot_offsets}

-- held bytes lie within the first of elements; at the end there are none
abbrev pub AreHeld : Rep → ℕ → List Entry → Type 0
AreHeld rep held [] = held ≡ 0
AreHeld rep held (e ∷ es) = held < packed_size rep e.kind

-- frames stand at the one of elements that holds a packed byte, or at the end; so many bytes of the element lie before that byte
pub record IsFound (code : List Instr) (rep : Rep) (es : List Entry) (byte : ℕ) (frames : List Frame) (held : ℕ) : Type 0 where
  pub before : List Entry
  pub rest : List Entry
  pub all : es ≡ before ++ rest
  pub place : byte ≡ total rep before + held
  pub stand : StandAt code frames rest
  pub within : AreHeld rep held rest

-- a packed byte is sought in a body that is to be run under frames; under no frames it may be the end
pub record IsSought (code : List Instr) (rep : Rep) (frames : List Frame) (at : ℕ) (x : ℤ) (left : ℕ) (body : Body) (es : List Entry) : Type 0 where
  pub run : IsToRun code frames at body x es
  pub most : left ≤ size rep body
  pub inner : 0 < length frames → left < size rep body

-- a packed byte of elements is sought further on in them, in a body further in, whose offset is in range
pub record IsNarrowed (code : List Instr) (rep : Rep) (es : List Entry) (left : ℕ) (frames : List Frame) (at : ℕ) (x : ℤ) (less : ℕ) : Type 0 where
  pub body : Body
  pub inside : List Entry
  pub sought : IsSought code rep frames at x less body inside
  pub near : nat_abs x < 2 ^ 63
  pub gone : List Entry
  pub all : es ≡ gone ++ inside
  pub place : left ≡ total rep gone + less

-- a step of the search from a place answers that the byte was found, or where it is sought
abbrev pub IsStep : List Instr → Rep → List Frame → ℕ → ℤ → ℕ → List Frame → Step → Type 0
IsStep code rep old at x left new (At held) =
    (body : Body) (es : List Entry) → IsSought code rep old at x left body es → IsFound code rep es left new held
IsStep code rep old at x left new (In inner) =
    (body : Body) (es : List Entry) → IsSought code rep old at x left body es → IsNarrowed code rep es left new inner.at inner.base inner.left

-- each read was at a place of its own, from one on, before the end, or before the place at which the search goes on
abbrev pub AreReads : ℕ → ℕ → ℕ → ℕ → Step → Type 0
AreReads len from before after (At held) = after + from ≤ before + len
AreReads len from before after (In inner) = (from ≤ inner.at) × (after + from ≤ before + inner.at)

-- the search goes on behind a place
abbrev pub GoesOn : ℕ → Step → Type 0
GoesOn at (At held) = Unit {0}
GoesOn at (In inner) = at < inner.at

-- the search goes on at the next place
abbrev pub EntersNext : ℕ → Step → Type 0
EntersNext at (At held) = Unit {0}
EntersNext at (In inner) = inner.at ≡ at + 1

abbrev pub size_in : Rep → Sizes → ℕ
size_in Native sizes = sizes.native
size_in External32 sizes = sizes.ext

-- spots stand at places from one on
abbrev pub AreSpots : List Instr → ℕ → List Spot → Type 0
AreSpots code first spots = (i : ℕ) (spot : Spot) → slice_get spots i ≡ Some spot → slice_get code (first + i) ≡ Some (instrs.Spot spot)

-- a copy of one of spots, which has a number among all of them
pub record IsCopyAt (spots : List Spot) (number : ℕ) (s : SpotCopy) : Type 0 where
  pub spot : slice_get spots s.number ≡ Some s.spot
  pub copy : s.copy < s.spot.copies
  pub place : number ≡ length (spot_offsets (take s.number spots)) + s.copy

-- a packed byte is sought in a loop's turns, and one of them holds it
pub record IsTurnSought (code : List Instr) (rep : Rep) (frames : List Frame) (at : ℕ) (x : ℤ) (turns : Turns) (turn : Copied) (left : ℕ) (body : Body) (es : List Entry) : Type 0 where
  pub sought : IsSought code rep frames at x left (loop turns body) es
  pub number : turn.number < turns.count
  pub place : left ≡ turn.number * size rep body + turn.left
  pub within : turn.left < size rep body

-- parts stand at places, the first of them at a place
abbrev pub PartsStand : List Instr → ℕ → Parts → Type 0
PartsStand code place no_parts = Unit {0}
PartsStand code place (part turns body parts) =
    (slice_get code place ≡ Some (instrs.Loop turns (sizes_of body) (place + (width body + 2)))) × PartsStand code (place + (width body + 2)) parts

-- the rounds of parts are split at one part, and a byte of them is that byte of the part
pub record IsByteOfPart (rep : Rep) (at first : ℕ) (x : ℤ) (all : Parts) (byte place : ℕ) (turns : Turns) (body : Body) (less : ℕ) : Type 0 where
  pub gone : List Round
  pub later : List Round
  pub split : part_rounds at first all x ≡ gone ++ part_round at place turns body x ∷ later
  pub number : byte ≡ total rep (elements_of gone) + less

-- a turn of one of parts, the first of which stands at a place, holds a byte of them all
pub record IsTurnOfPart (rep : Rep) (first : ℕ) (all : Parts) (byte : ℕ) (p : PartTurn) : Type 0 where
  pub body : Body
  pub number : p.turn.number < p.turns.count
  pub within : p.turn.left < size rep body
  pub holds : (at : ℕ) (x : ℤ) → IsByteOfPart rep at first x all byte p.place p.turns body (p.turn.number * size rep body + p.turn.left)
