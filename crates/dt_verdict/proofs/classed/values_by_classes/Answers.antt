use Rattle.std.proofs.Common.{◌∙◌}
use Rattle.dt_verdict.proofs.Classing.{listed_classes}
use Rattle.dt_verdict.proofs.classed.values_by_classes.Goals as goal

pub returns : goal.returns
returns c = listed_classes c.args.classes.now c.args.values.now c.in_ok-numbers.numbers.items c.list.result c.requires.members c.requires.rising c.in_ok-numbers.ensures.greatest (rw c.deref.ensures.value at c.list.ensures)
