use Rattle.std.specs.Prelude.{Option, Some, None, ℕ, zero, suc, ◌+◌, ◌*◌, ◌==◌, cond, max, ℤ, pos, length}
use Rattle.dt_offsets.specs.declared.marks.Marks.{Marks}
use Rattle.dt_map.specs.declared.bounds.Bounds.{Bounds}
use Rattle.dt_map.specs.Typemap.{Marked}
use Rattle.dt_offsets.specs.Span.{shift_marks, joined_marks, stretched}
use Rattle.dt_map.specs.Bounds.{size_of, external_size_of, alignment, natural_end}
use Rattle.dt_map.specs.Span.{span_of}

-- all that the bounds of a marked typemap are made from, in a form that copies and joins by arithmetic
pub record Summary : Type 0 where
  pub size : ℕ
  pub ext_size : ℕ
  pub elements : ℕ
  pub align : ℕ
  pub span : Option Marks
  pub marks : Option Marks

abbrev pub summary_of : Marked → Summary
summary_of m = record {
  size = size_of m.entries;
  ext_size = external_size_of m.entries;
  elements = length m.entries;
  align = alignment m.entries;
  span = span_of m.entries;
  marks = m.marks;
}

-- the summary of no entries and no marks
abbrev pub no_summary : Summary
no_summary = record { size = 0; ext_size = 0; elements = 0; align = 1; span = None; marks = None }

-- x bytes further on
abbrev pub shifted : ℤ → Summary → Summary
shifted x s = record {
  size = s.size;
  ext_size = s.ext_size;
  elements = s.elements;
  align = s.align;
  span = shift_marks x s.span;
  marks = shift_marks x s.marks;
}

-- two typemaps, one after the other
abbrev pub joined : Summary → Summary → Summary
joined a b = record {
  size = a.size + b.size;
  ext_size = a.ext_size + b.ext_size;
  elements = a.elements + b.elements;
  align = max a.align b.align;
  span = joined_marks a.span b.span;
  marks = joined_marks a.marks b.marks;
}

-- no copy has no alignment of its own
abbrev pub copied_align : ℕ → ℕ → ℕ
copied_align zero align = 1
copied_align (suc n) align = align

-- n copies at offsets of this reach
abbrev pub copied : Option Marks → ℕ → Summary → Summary
copied reach n s = record {
  size = n * s.size;
  ext_size = n * s.ext_size;
  elements = n * s.elements;
  align = copied_align n s.align;
  span = stretched reach s.span;
  marks = stretched reach s.marks;
}

-- the true bounds that a span tells, 0 where there is none
abbrev pub ends_or_zero : Option Marks → Marks
ends_or_zero None = record { lb = pos 0; ub = pos 0 }
ends_or_zero (Some span) = span

-- the bounds: the marks, or the true bounds with the upper one rounded
abbrev pub outer_ends : Marks → ℕ → Option Marks → Marks
outer_ends ends align None = record { lb = ends.lb; ub = natural_end ends.lb ends.ub align }
outer_ends ends align (Some marks) = marks

-- the bounds that a summary gives
abbrev pub bounds_from : Summary → Bounds
bounds_from s =
    let ends = ends_or_zero s.span in
    let outer = outer_ends ends s.align s.marks in
    record {
      size = s.size;
      ext_size = s.ext_size;
      elements = s.elements;
      align = s.align;
      true_lb = ends.lb;
      true_ub = ends.ub;
      lb = outer.lb;
      ub = outer.ub;
    }

-- the span that true bounds tell, where there is an entry
abbrev pub true_span : Bounds → Option Marks
true_span b = cond (b.elements == 0) None (Some (record { lb = b.true_lb; ub = b.true_ub }))
