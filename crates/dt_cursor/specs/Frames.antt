-- What is still to come of a run.
use Rattle.std.specs.Prelude.{◌≡◌, ℕ, ◌+◌, ◌<◌, ◌≤◌, ℤ, List, [], ◌∷◌, ◌++◌, length}
use Rattle.dt_cursor.specs.declared.frames.Frame.{Frame}
use Rattle.dt_cursor.specs.Rounds.{Round, rounds, elements_of}
use Rattle.dt_kinds.specs.declared.kind.Kind.{Kind}
use Rattle.dt_kinds.specs.declared.kind.Rep.TheVariants.{Native}
use Rattle.dt_layout.specs.Body.{Body, one, meaning, size, opened}
use Rattle.dt_layout.specs.declared.instr.Instr.{Instr}
use Rattle.dt_layout.specs.Program.{spelling, IsOffset, IsLawful}
use Rattle.dt_map.specs.declared.entry.Entry.{Entry}

-- a body is spelled in instructions from a place on, and may be run there with an offset
pub record IsPlaced (code : List Instr) (at : ℕ) (body : Body) (x : ℤ) : Type 0 where
  pub before : List Instr
  pub after : List Instr
  pub spelled : code ≡ before ++ (spelling at body ++ after)
  pub place : length before ≡ at
  pub lawful : IsLawful body x
  pub offset : IsOffset body x

-- a body is half run: at a frame that is so many levels further in, it is in a round that has elements, and these rounds are to come
pub record IsHalfRun (code : List Instr) (levels : ℕ) (frame : Frame) (body : Body) (later : List Round) : Type 0 where
  pub placed : IsPlaced code frame.instr body frame.base
  pub room : levels + opened body ≤ 128
  pub gone : List Round
  pub round : Round
  pub split : rounds frame.instr body frame.base ≡ gone ++ round ∷ later
  pub here : round.frame ≡ frame
  pub some : 0 < size Native round.body

-- the elements that are to come once the rounds in which frames are, innermost first, have been run to their ends
abbrev pub ToCome : List Instr → List Frame → List Entry → Type 0
ToCome code [] es = es ≡ []
ToCome code (frame ∷ frames) es =
    (body : Body) × (later : List Round) × (rest : List Entry) × IsHalfRun code (length frames) frame body later × ToCome code frames rest
    × (es ≡ elements_of later ++ rest)

-- the frame of an element at a place and a position
abbrev pub at_element : ℕ → ℤ → Frame
at_element at x = record { instr = at; turn = 0; base = x; copy = 0 }

-- frames stand at the first of the elements that are to come, or at the end
abbrev pub StandAt : List Instr → List Frame → List Entry → Type 0
StandAt code [] es = es ≡ []
StandAt code (frame ∷ frames) es =
    (kind : Kind) × (rest : List Entry) × IsPlaced code frame.instr (one kind) frame.base × (frame ≡ at_element frame.instr frame.base)
    × ToCome code frames rest × (es ≡ (record { kind = kind; disp = frame.base }) ∷ rest)

-- a body is to be run under frames: with its elements these are to come
pub record IsToRun (code : List Instr) (frames : List Frame) (at : ℕ) (body : Body) (x : ℤ) (es : List Entry) : Type 0 where
  pub placed : IsPlaced code at body x
  pub room : length frames + opened body ≤ 128
  pub rest : List Entry
  pub outside : ToCome code frames rest
  pub all : es ≡ meaning body x ++ rest
