use Rattle.dt_normal.specs.Known.{AreKnown, AreGroups}
use Rattle.dt_normal.proofs.row.row_of.Given as goal

abbrev pub invariant-lengths : goal.invariant-lengths
invariant-lengths l = record {
  known : AreKnown l.w l.classes l.start l.k l.row;
  groups : AreGroups l.w l.classes l.start l.k l.groups.items;
}
