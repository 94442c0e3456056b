use Rattle.std.proofs.Common.{◌≡◌, ◌*◌, ◌++◌, drop}
use Rattle.std.specs.List.{flat_map}
use Rattle.dt_kinds.specs.Kind.{external_size}
use Rattle.dt_offsets.specs.Offsets.{row_offsets}
use Rattle.dt_rows.specs.Pieces.{turned_row}
use Rattle.dt_rows.proofs.external.gather_turned_rows.Given as goal

-- the first rows were put
abbrev pub invariant-rows : goal.invariant-rows
invariant-rows l =
    l.out ≡ flat_map (turned_row l.kind l.elements l.buffer) (row_offsets l.start l.i l.step) ++ drop (l.i * (l.elements * external_size l.kind)) l.fn.out
