use Rattle.dt_elems.proofs.Receiving.{whole_copies_have_all}
use Rattle.dt_elems.proofs.laws.whole_copies_have_all.Goals as goal

pub returns : goal.returns
returns c = whole_copies_have_all
