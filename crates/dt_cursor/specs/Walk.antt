-- A walk through the packed bytes of elements.
use Rattle.std.specs.Prelude.{◌≡◌, ℕ, ◌+◌, pos, List, ◌++◌}
use Rattle.dt_kinds.specs.declared.kind.Rep.{Rep}
use Rattle.dt_map.specs.declared.entry.Entry.{Entry}
use Rattle.dt_map.specs.Packed.{total}
use Rattle.dt_rows.specs.declared.rows.Rows.{Rows}
use Rattle.dt_rows.specs.declared.rows.Run.{Run}
use Rattle.dt_rows.specs.Rows.{elements_of_rows, AreRows}

-- elements, the representation in which they are packed, and how many of their packed bytes were passed
pub record Walk : Type 0 where
  pub elements : List Entry
  pub rep : Rep
  pub position : ℕ

-- a walk so many packed bytes further on
abbrev pub further : Walk → ℕ → Walk
further w bytes = record { elements = w.elements; rep = w.rep; position = w.position + bytes }

-- rows come next: their elements are in the list one after another, and their bytes begin at the position
pub record AreNext (w : Walk) (r : Rows) : Type 0 where
  pub shape : AreRows w.rep r
  pub before : List Entry
  pub after : List Entry
  pub all : w.elements ≡ before ++ (elements_of_rows r ++ after)
  pub place : w.position ≡ total w.rep before + r.run.skip

-- a run alone
abbrev pub one_row : Run → Rows
one_row run = record { run = run; rows = 1; step = pos 0 }

-- a run comes next
abbrev pub IsNext : Walk → Run → Type 0
IsNext w run = AreNext w (one_row run)
