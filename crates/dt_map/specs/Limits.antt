use Rattle.std.specs.Prelude.{Option, Some, None, ◌≤◌}
use Rattle.std.specs.List.{All}
use Rattle.dt_kinds.specs.Displacement.{FitsDisp}
use Rattle.dt_map.specs.declared.bounds.Bounds.{Bounds}
use Rattle.dt_map.specs.declared.bounds.TheConstants.{SIZE_MAX}
use Rattle.dt_map.specs.declared.entry.Entry.{Entry}
use Rattle.dt_map.specs.Bounds.{end_of, bounds_of}
use Rattle.dt_map.specs.Typemap.{Marked}
use Rattle.dt_offsets.specs.declared.marks.Marks.{Marks}

-- an entry in range: where it begins and where it ends fit (this project's profile)
abbrev pub EntryFits : Entry → Type 0
EntryFits e = FitsDisp e.disp × FitsDisp (end_of e)

-- marks in range, where there are any
abbrev pub MarksFit : Option Marks → Type 0
MarksFit None = Unit {0}
MarksFit (Some marks) = FitsDisp marks.lb × FitsDisp marks.ub

-- a marked typemap in range: its marks and each entry
abbrev pub Fits : Marked → Type 0
Fits m = All EntryFits m.entries × MarksFit m.marks

-- whether bounds and the size are in range
pub record AreInRange (b : Bounds) : Type 0 where
  pub lb : FitsDisp b.lb
  pub ub : FitsDisp b.ub
  pub true_lb : FitsDisp b.true_lb
  pub true_ub : FitsDisp b.true_ub
  pub size : b.size ≤ SIZE_MAX

-- whether those of a typemap are
abbrev pub IsInRange : Marked → Type 0
IsInRange m = AreInRange (bounds_of m)
