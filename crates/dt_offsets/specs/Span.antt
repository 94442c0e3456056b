use Rattle.std.specs.Prelude.{Option, Some, None, ◌+ℤ◌, ℤ, List, [], ◌∷◌}
use Rattle.std.specs.Int.{int_min, int_max}
use Rattle.dt_offsets.specs.declared.marks.Marks.{Marks}

-- A span is a least and a greatest number, written as marks; there is none of nothing.

-- marks, or a span, x bytes further on
abbrev pub shift_marks : ℤ → Option Marks → Option Marks
shift_marks x None = None
shift_marks x (Some m) = Some (record { lb = m.lb +ℤ x; ub = m.ub +ℤ x })

-- the marks around two pairs of marks, where either may be missing (MPI 4.1, section 5.1.6)
abbrev pub joined_marks : Option Marks → Option Marks → Option Marks
joined_marks None b = b
joined_marks (Some a) None = Some a
joined_marks (Some a) (Some b) = Some (record { lb = int_min a.lb b.lb; ub = int_max a.ub b.ub })

-- the span of all that a list has
abbrev pub spans : {X : Type 0} → (X → Option Marks) → List X → Option Marks
spans f [] = None
spans f (x ∷ xs) = joined_marks (f x) (spans f xs)

-- of one offset, and of several
abbrev pub point : ℤ → Option Marks
point x = Some (record { lb = x; ub = x })

abbrev pub reach_of : List ℤ → Option Marks
reach_of offsets = spans point offsets

-- of all sums of a number within one span and one within another
abbrev pub stretched : Option Marks → Option Marks → Option Marks
stretched None span = None
stretched (Some reach) None = None
stretched (Some reach) (Some span) = Some (record { lb = span.lb +ℤ reach.lb; ub = span.ub +ℤ reach.ub })
