use Rattle.std.proofs.Common.{List, length}
use Rattle.dt_cursor.specs.Frames.{ToCome}
use Rattle.dt_map.specs.declared.entry.Entry.{Entry}
use Rattle.dt_cursor.proofs.climb.climb.Given as goal

-- the same elements are to come of the levels that are left
abbrev pub invariant-levels : goal.invariant-levels
invariant-levels l = (es : List Entry) → ToCome l.program l.fn.frames es → ToCome l.program l.frames es

abbrev pub decreases-levels : goal.decreases-levels
decreases-levels l = length l.frames
