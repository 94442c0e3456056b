-- A body that isn't one element is run in rounds: one for each turn, copy of a spot, or part.
use Rattle.std.specs.Prelude.{ℕ, ◌+◌, ◌+ℤ◌, ◌*ℤ◌, ℤ, pos, List, [], ◌∷◌, ◌++◌, map, length}
use Rattle.std.specs.List.{flat_map}
use Rattle.dt_cursor.specs.declared.frames.Frame.{Frame}
use Rattle.dt_layout.specs.Body.{Body, one, loop, each, seq, Parts, no_parts, part, meaning, width}
use Rattle.dt_map.specs.declared.entry.Entry.{Entry}
use Rattle.dt_offsets.specs.declared.turns.Spot.{Spot}
use Rattle.dt_offsets.specs.declared.turns.Turns.{Turns}
use Rattle.dt_offsets.specs.Offsets.{below, turn_offset}

-- a round: a frame that tells it from the others of its body, and the body that is run in it, at a place, with an offset
pub record Round : Type 0 where
  pub frame : Frame
  pub at : ℕ
  pub body : Body
  pub offset : ℤ

-- a turn of a loop at a place, with an offset
abbrev pub turn_round : ℕ → Turns → Body → ℤ → ℕ → Round
turn_round at turns body x q = record {
  frame = record { instr = at; turn = q; base = x; copy = 0 };
  at = at + 1;
  body = body;
  offset = x +ℤ turn_offset turns q;
}

-- a copy of a spot with its number, where the body inside stands at a place
abbrev pub copy_round : ℕ → ℕ → Body → ℤ → ℕ → Spot → ℕ → Round
copy_round at inside body x number spot j = record {
  frame = record { instr = at; turn = number; base = x; copy = j };
  at = inside;
  body = body;
  offset = x +ℤ (spot.first +ℤ (pos j *ℤ spot.step));
}

-- the copies of spots, the first of which has a number
abbrev pub copy_rounds : ℕ → ℕ → Body → ℤ → ℕ → List Spot → List Round
copy_rounds at inside body x number [] = []
copy_rounds at inside body x number (spot ∷ spots) =
    map (copy_round at inside body x number spot) (below spot.copies) ++ copy_rounds at inside body x (number + 1) spots

-- a part, whose loop stands at a place
abbrev pub part_round : ℕ → ℕ → Turns → Body → ℤ → Round
part_round at place turns body x = record {
  frame = record { instr = at; turn = place; base = x; copy = 0 };
  at = place;
  body = loop turns body;
  offset = x;
}

-- parts, the first of which stands at a place
abbrev pub part_rounds : ℕ → ℕ → Parts → ℤ → List Round
part_rounds at place no_parts x = []
part_rounds at place (part turns body parts) x = part_round at place turns body x ∷ part_rounds at (place + (width body + 2)) parts x

-- the rounds of a body at a place, with an offset
abbrev pub rounds : ℕ → Body → ℤ → List Round
rounds at (one kind) x = []
rounds at (loop turns body) x = map (turn_round at turns body x) (below turns.count)
rounds at (each spots body) x = copy_rounds at (at + 1 + length spots) body x 0 spots
rounds at (seq parts) x = part_rounds at (at + 1) parts x

-- the elements of rounds
abbrev pub elements_of : List Round → List Entry
elements_of all = flat_map (λ r. meaning r.body r.offset) all
