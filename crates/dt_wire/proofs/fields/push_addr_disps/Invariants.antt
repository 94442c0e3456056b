use Rattle.std.proofs.Common.{◌≡◌, ◌++◌, flat_map, drop}
use Rattle.dt_wire.specs.Spelling.{address}
use Rattle.dt_wire.proofs.fields.push_addr_disps.Given as goal

abbrev pub invariant-disps : goal.invariant-disps
invariant-disps l = l.out.items ++ flat_map address (drop l.disp-index l.disps) ≡ l.fn.out.items ++ flat_map address l.disps
