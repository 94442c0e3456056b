use Rattle.std.proofs.Common.{◌≡◌}
use Rattle.dt_kinds.specs.declared.kind.Rep.TheVariants.{External32}
use Rattle.dt_offsets.specs.Offsets.{row_offsets}
use Rattle.dt_rows.specs.Storing.{set_rows}
use Rattle.dt_rows.proofs.into_buffer.scatter_element_rows.Given as goal

-- the first rows were set
abbrev pub invariant-rows : goal.invariant-rows
invariant-rows l = l.buffer ≡ set_rows External32 l.kind l.elements (row_offsets l.start l.i l.step) l.fn.buffer l.packed
