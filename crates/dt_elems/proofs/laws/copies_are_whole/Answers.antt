use Rattle.dt_elems.proofs.Receiving.{copies_are_whole}
use Rattle.dt_elems.proofs.laws.copies_are_whole.Goals as goal

pub returns : goal.returns
returns c = copies_are_whole
