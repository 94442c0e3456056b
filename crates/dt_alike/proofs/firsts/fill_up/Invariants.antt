use Rattle.std.proofs.Common.{◌≡◌, ◌++◌, replicate}
use Rattle.dt_alike.proofs.firsts.fill_up.Given as goal

abbrev pub invariant-more : goal.invariant-more
invariant-more l = l.list.items ≡ l.initial.list.items ++ replicate l.counter l.number
