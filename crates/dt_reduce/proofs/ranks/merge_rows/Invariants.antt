use Rattle.std.proofs.Common.{◌≡◌, ◌+◌, take, length}
use Rattle.dt_reduce.specs.Folded.{kinds_of, joined_row}
use Rattle.dt_reduce.specs.Kept.{rows_of, ArePackedRows}
use Rattle.dt_reduce.specs.Merges.{merged}
use Rattle.dt_reduce.proofs.ranks.merge_rows.Given as goal

-- the merges up to here were done
abbrev pub invariant-merges : goal.invariant-merges
invariant-merges g l = record {
  rows : rows_of (kinds_of l.fn.pairs.elements) l.rows.items ≡ merged (joined_row g.L.Law.join (kinds_of l.fn.pairs.elements)) (take l.merge-index l.merges) (rows_of (kinds_of l.fn.pairs.elements) l.fn.rows.items);
  packed : ArePackedRows l.fn.pairs.elements l.rows.items;
  count : length l.rows.items + l.merge-index ≡ length l.fn.rows.items;
  elements : l.pairs.elements ≡ l.fn.pairs.elements;
}
