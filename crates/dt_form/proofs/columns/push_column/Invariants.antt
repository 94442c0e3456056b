use Rattle.std.proofs.Common.{◌≡◌, ◌++◌, take, map}
use Rattle.dt_form.proofs.columns.push_column.Given as goal

-- the numbers up to here are appended
abbrev pub invariant-items : goal.invariant-items
invariant-items g l = l.list.items ≡ l.fn.list.items ++ map g.C.Column.value (take l.item-index l.items)
