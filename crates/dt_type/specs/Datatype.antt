use Rattle.std.specs.Prelude.{Option, ℕ, List}
use Rattle.dt_map.specs.declared.entry.Entry.{Entry}
use Rattle.dt_offsets.specs.declared.marks.Marks.{Marks}
use Rattle.dt_map.specs.Typemap.{Marked}
use Rattle.dt_type.specs.declared.datatype.Seen.{Seen, out-Seen}
use Rattle.dt_type.specs.declared.datatype.Seen.TheOpen.{Seen-F}
use Rattle.dt_form.specs.declared.form.FormOf.{FormOf}

-- a datatype with its old types left closed
abbrev pub Layer : Type 0
Layer = Seen-F Seen

-- a datatype is a marked typemap with its form, its weight and its depth
abbrev pub entries_of : Seen → List Entry
entries_of t = (out-Seen t).entries

abbrev pub marks_of : Seen → Option Marks
marks_of t = (out-Seen t).marks

abbrev pub typemap_of : Seen → Marked
typemap_of t = record { entries = entries_of t; marks = marks_of t }

abbrev pub form_of : Seen → FormOf Seen
form_of t = (out-Seen t).form

abbrev pub weight_of : Seen → ℕ
weight_of t = (out-Seen t).weight

abbrev pub depth_of : Seen → ℕ
depth_of t = (out-Seen t).depth
