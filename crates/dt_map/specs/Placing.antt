use Rattle.std.specs.Prelude.{Option, None, ℤ, List, [], ◌∷◌}
use Rattle.std.specs.List.{flat_map}
use Rattle.dt_offsets.specs.declared.marks.Marks.{Marks}
use Rattle.dt_map.specs.Typemap.{Marked, shift}
use Rattle.dt_offsets.specs.Span.{shift_marks, joined_marks}

-- the least shifted lower mark and the greatest shifted upper mark of the members that have marks
abbrev pub placed_marks : List (ℤ × Marked) → Option Marks
placed_marks [] = None
placed_marks (member ∷ members) = joined_marks (shift_marks member.0 member.1.marks) (placed_marks members)

-- typemaps placed at offsets, one after another (MPI 4.1, section 5.1.2)
abbrev pub place : List (ℤ × Marked) → Marked
place members = record { entries = flat_map (λ member. shift member.0 member.1.entries) members; marks = placed_marks members }
