use Rattle.std.specs.Prelude.{Option, Some}
use Rattle.dt_map.specs.Typemap.{Marked}
use Rattle.dt_offsets.specs.declared.marks.Marks.{Marks}
use Rattle.dt_type.specs.declared.shape.Cover.{Cover}
use Rattle.dt_type.specs.declared.shape.Cover.TheVariants.{Keep, Erase}

-- what a cover makes of the marks
abbrev pub covered_marks : Cover → Option Marks → Option Marks
covered_marks Keep marks = marks
covered_marks (Erase marks) _ = Some marks

abbrev pub covered : Cover → Marked → Marked
covered cover m = record { entries = m.entries; marks = covered_marks cover m.marks }
