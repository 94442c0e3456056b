use Rattle.std.specs.Prelude.{Option, Some, List}
use Rattle.dt_map.specs.declared.entry.Entry.{Entry}
use Rattle.dt_map.specs.Bounds.{end_of}
use Rattle.dt_offsets.specs.declared.marks.Marks.{Marks}
use Rattle.dt_offsets.specs.Span.{spans}

-- of an entry from its displacement to its end
abbrev pub entry_span : Entry → Option Marks
entry_span e = Some (record { lb = e.disp; ub = end_of e })

-- the span of entries
abbrev pub span_of : List Entry → Option Marks
span_of entries = spans entry_span entries
