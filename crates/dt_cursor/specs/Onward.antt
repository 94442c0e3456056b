-- How a run goes on from one round of a body to the next.
use Rattle.std.specs.Prelude.{◌≡◌, Some, ℕ, ◌<◌, ℤ, List, [], ◌∷◌, ◌++◌, length, drop, slice_get}
use Rattle.dt_cursor.specs.declared.frames.Frame.{Frame}
use Rattle.dt_cursor.specs.declared.onward.Next.{Next}
use Rattle.dt_cursor.specs.declared.spots.SpotCopy.{SpotCopy}
use Rattle.dt_cursor.specs.Frames.{IsHalfRun}
use Rattle.dt_cursor.specs.Rounds.{Round, copy_rounds, part_rounds, elements_of}
use Rattle.dt_kinds.specs.declared.kind.Rep.TheVariants.{Native}
use Rattle.dt_layout.specs.Body.{Body, loop, Parts, part, size}
use Rattle.dt_layout.specs.declared.instr.Instr.{Instr}
use Rattle.dt_layout.specs.declared.instr.Instr.TheVariants.{End}
use Rattle.dt_layout.specs.Program.{spellings}
use Rattle.dt_offsets.specs.declared.turns.Spot.{Spot}
use Rattle.dt_offsets.specs.declared.turns.Turns.{Turns}

-- the next one of rounds that has elements
pub record IsNextOf (later : List Round) (n : Next) : Type 0 where
  pub skipped : List Round
  pub round : Round
  pub after : List Round
  pub split : later ≡ skipped ++ round ∷ after
  pub nothing : elements_of skipped ≡ []
  pub some : 0 < size Native round.body
  pub frame : n.frame ≡ round.frame
  pub at : n.at ≡ round.at
  pub base : n.base ≡ round.offset

-- the next round of a half-run body; and that there is none
abbrev pub IsOnward : List Instr → Frame → Body → Next → Type 0
IsOnward code frame body n = (levels : ℕ) (later : List Round) → IsHalfRun code levels frame body later → IsNextOf later n

abbrev pub IsLast : List Instr → Frame → Body → Type 0
IsLast code frame body = (levels : ℕ) (later : List Round) → IsHalfRun code levels frame body later → elements_of later ≡ []

-- spots from a number on up to another have no copies
abbrev pub HaveNoCopies : List Spot → ℕ → ℕ → Type 0
HaveNoCopies spots from to =
    (at inside : ℕ) (body : Body) (x : ℤ) → copy_rounds at inside body x from (drop from spots) ≡ copy_rounds at inside body x to (drop to spots)

-- the first spot from a number on that has copies
pub record IsSpotFrom (spots : List Spot) (from : ℕ) (s : SpotCopy) : Type 0 where
  pub spot : slice_get spots s.number ≡ Some s.spot
  pub some : 0 < s.spot.copies
  pub first : s.copy ≡ 0
  pub skipped : HaveNoCopies spots from s.number

-- parts stand at a place, before the end of their sequence
pub record AreParts (code : List Instr) (place : ℕ) (parts : Parts) : Type 0 where
  pub before : List Instr
  pub after : List Instr
  pub spelled : code ≡ before ++ (spellings place parts ++ End ∷ after)
  pub there : length before ≡ place

-- the parts at a place, up to others at a place further on, have no elements
abbrev pub HaveNoElements : ℕ → Parts → ℕ → Parts → Type 0
HaveNoElements from parts to rest =
    (at : ℕ) (x : ℤ) → (skipped : List Round) × (part_rounds at from parts x ≡ skipped ++ part_rounds at to rest x) × (elements_of skipped ≡ [])

-- the first part from a place on that has elements
pub record IsPartFrom (from : ℕ) (parts : Parts) (place : ℕ) : Type 0 where
  pub turns : Turns
  pub body : Body
  pub rest : Parts
  pub skipped : HaveNoElements from parts place (part turns body rest)
  pub some : 0 < size Native (loop turns body)
