use Rattle.dt_layout.proofs.OneBody.{stands_for_one}
use Rattle.dt_layout.proofs.laws.stands_for_one.Goals as goal

pub returns : goal.returns
returns c = stands_for_one
