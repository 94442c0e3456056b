use Rattle.std.specs.List.{All}
use Rattle.dt_check.specs.Members.{IsMember}
use Rattle.dt_tests_trees.proofs.tables.table.Given as goal

abbrev pub invariant-members : goal.invariant-members
invariant-members l = All (IsMember l.classes) l.lows.items
