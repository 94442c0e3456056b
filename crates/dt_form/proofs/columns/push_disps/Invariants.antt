use Rattle.std.proofs.Common.{◌≡◌, ◌++◌, take}
use Rattle.dt_form.proofs.columns.push_disps.Given as goal

-- the numbers up to here are appended
abbrev pub invariant-loop-disp : goal.invariant-loop-disp
invariant-loop-disp l = l.list.items ≡ l.fn.list.items ++ take l.disp-index l.disps
