use Rattle.std.specs.Prelude.{ℕ, ◌+◌, ◌*◌, ◌-◌, ◌^◌, min, ℤ, List, length}
use Rattle.dt_offsets.specs.declared.reach.Reach.{Reach}
use Rattle.dt_offsets.specs.Span.{joined_marks, reach_of, stretched}

-- a count that stands still at the greatest number of 64 bits
abbrev pub capped : ℕ → ℕ
capped n = min n (2 ^ 64 - 1)

-- how many offsets a list has, and their span
abbrev pub reach : List ℤ → Reach
reach offsets = record { copies = capped (length offsets); span = reach_of offsets }

-- of two lists, one after the other
abbrev pub beside : Reach → Reach → Reach
beside a b = record { copies = capped (a.copies + b.copies); span = joined_marks a.span b.span }

-- of all sums of an offset of each
abbrev pub summed : Reach → Reach → Reach
summed outer inner = record { copies = capped (outer.copies * inner.copies); span = stretched outer.span inner.span }
