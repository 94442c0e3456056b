use Rattle.std.proofs.Common.{◌≡◌}
use Rattle.dt_offsets.specs.Offsets.{row_offsets}
use Rattle.dt_rows.specs.Storing.{stored}
use Rattle.dt_rows.proofs.stores.scatter_stores.Given as goal

-- what the first images stand for was stored
abbrev pub invariant-places : goal.invariant-places
invariant-places g l =
    let s = g.S.Store in
    l.buffer ≡ stored (s.restored l.store) (s.packed l.store) (row_offsets l.start l.i l.step) l.fn.buffer l.packed
