-- What is named of the elements that are to come, and passed.
use Rattle.std.specs.Prelude.{◌≡◌, ℕ, ◌+◌, List, ◌++◌}
use Rattle.dt_cursor.specs.declared.frames.Frame.{Frame}
use Rattle.dt_cursor.specs.declared.passing.Passed.{Passed}
use Rattle.dt_cursor.specs.Frames.{ToCome}
use Rattle.dt_cursor.specs.Search.{IsFound}
use Rattle.dt_kinds.specs.declared.kind.Rep.{Rep}
use Rattle.dt_layout.specs.declared.instr.Instr.{Instr}
use Rattle.dt_map.specs.declared.entry.Entry.{Entry}
use Rattle.dt_map.specs.Packed.{total}
use Rattle.dt_rows.specs.declared.rows.Rows.{Rows}
use Rattle.dt_rows.specs.Rows.{AreRows, bytes_in, elements_of_rows}

-- rows are the first of elements, and so many packed bytes of the first of them lie before
pub record AreAhead (rep : Rep) (es : List Entry) (held : ℕ) (r : Rows) : Type 0 where
  pub shape : AreRows rep r
  pub skip : r.run.skip ≡ held
  pub after : List Entry
  pub all : es ≡ elements_of_rows r ++ after

-- rows to the end of their last element were taken: under the frames that are left the elements after them are to come
pub record AreTaken (code : List Instr) (rep : Rep) (es : List Entry) (held : ℕ) (frames : List Frame) (r : Rows) : Type 0 where
  pub ahead : AreAhead rep es held r
  pub whole : held + bytes_in r ≡ total rep (elements_of_rows r)
  pub come : ToCome code frames ahead.after

-- rows were passed: frames stand where they end
pub record ArePassed (code : List Instr) (rep : Rep) (es : List Entry) (held : ℕ) (frames : List Frame) (p : Passed) : Type 0 where
  pub ahead : AreAhead rep es held p.rows
  pub found : IsFound code rep es (held + bytes_in p.rows) frames p.held
