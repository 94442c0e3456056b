use Rattle.std.proofs.Common.{◌≡◌, ◌++◌, flat_map, drop}
use Rattle.dt_wire.specs.Spelling.{int}
use Rattle.dt_wire.proofs.fields.push_int_disps.Given as goal

abbrev pub invariant-disps : goal.invariant-disps
invariant-disps l = l.out.items ++ flat_map int (drop l.disp-index l.disps) ≡ l.fn.out.items ++ flat_map int l.disps
