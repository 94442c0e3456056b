use Rattle.std.specs.Prelude.{◌≡◌, ℕ, ◌<◌, ◌≤◌, ℤ, pos, List, [], ◌∷◌, ◌++◌, length}
use Rattle.dt_cursor.specs.declared.frames.Frame.{Frame}
use Rattle.dt_cursor.specs.Frames.{IsHalfRun, ToCome, at_element, StandAt, IsToRun}
use Rattle.dt_cursor.specs.Rounds.{Round, rounds, elements_of}
use Rattle.dt_kinds.specs.declared.kind.Kind.{Kind}
use Rattle.dt_kinds.specs.declared.kind.Rep.TheVariants.{Native}
use Rattle.dt_layout.specs.Body.{Body, one, meaning, size, opened}
use Rattle.dt_layout.specs.declared.instr.Instr.{Instr}
use Rattle.dt_layout.specs.Program.{IsProgram}
use Rattle.dt_map.specs.declared.entry.Entry.{Entry}

-- a body that isn't one element means the elements of its rounds, in their order
abbrev pub RoundsAreMeaning : Type 0
RoundsAreMeaning = (at : ℕ) (body : Body) (x : ℤ) → 0 < opened body → meaning body x ≡ elements_of (rounds at body x)

-- a half-run body stands for a suffix of its meaning: first the round that it is in, and then the rounds to come
abbrev pub HalfRunIsSuffix : Type 0
HalfRunIsSuffix =
    (code : List Instr) (levels : ℕ) (frame : Frame) (body : Body) (later : List Round) → (half : IsHalfRun code levels frame body later)
    → meaning body frame.base ≡ elements_of half.gone ++ (meaning half.round.body half.round.offset ++ elements_of later)

-- a program is to be run from its beginning, under no frames
abbrev pub ProgramIsToRun : Type 0
ProgramIsToRun = (code : List Instr) (body : Body) → IsProgram code body → IsToRun code [] 0 body (pos 0) (meaning body (pos 0))

-- a frame is pushed for a round of a body that is to be run: the elements of the rounds before it are left out
abbrev pub RoundIsPushed : Type 0
RoundIsPushed =
    (code : List Instr) (frames : List Frame) (at : ℕ) (body : Body) (x : ℤ) (es : List Entry) (gone later : List Round) (round : Round)
    → IsToRun code frames at body x es → rounds at body x ≡ gone ++ round ∷ later → 0 < size Native round.body
    → (rest : List Entry) × IsToRun code (round.frame ∷ frames) round.at round.body round.offset rest × (es ≡ elements_of gone ++ rest)

-- a frame is pushed for a kind that is to be run: the frames stand at its element
abbrev pub ElementIsPushed : Type 0
ElementIsPushed =
    (code : List Instr) (frames : List Frame) (at : ℕ) (kind : Kind) (x : ℤ) (es : List Entry)
    → IsToRun code frames at (one kind) x es → StandAt code (at_element at x ∷ frames) es

-- the frame of an element is taken away: what comes after the element is to come
abbrev pub ElementIsLeft : Type 0
ElementIsLeft =
    (code : List Instr) (frame : Frame) (frames : List Frame) (es : List Entry) → StandAt code (frame ∷ frames) es
    → (e : Entry) × (rest : List Entry) × (es ≡ e ∷ rest) × ToCome code frames rest

-- a frame goes on to the next round that has elements: the next turn, copy of a spot, or part
abbrev pub NextRound : Type 0
NextRound =
    (code : List Instr) (frame : Frame) (frames : List Frame) (body : Body) (later skipped after : List Round) (next : Round) (rest : List Entry)
    → IsHalfRun code (length frames) frame body later → ToCome code frames rest
    → later ≡ skipped ++ next ∷ after → elements_of skipped ≡ [] → 0 < size Native next.body
    → IsToRun code (next.frame ∷ frames) next.at next.body next.offset (elements_of later ++ rest)

-- a frame whose body has no more elements to come is taken away
abbrev pub RoundsAreLeft : Type 0
RoundsAreLeft =
    (code : List Instr) (frame : Frame) (frames : List Frame) (body : Body) (later : List Round) (rest : List Entry)
    → IsHalfRun code (length frames) frame body later → ToCome code frames rest → elements_of later ≡ []
    → ToCome code frames (elements_of later ++ rest)

-- there are at most 129 frames
abbrev pub FramesAreFew : Type 0
FramesAreFew = (code : List Instr) (frames : List Frame) (es : List Entry) → StandAt code frames es → length frames ≤ 129
