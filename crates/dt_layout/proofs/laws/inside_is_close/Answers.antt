use Rattle.dt_layout.proofs.Inside.{inside_is_close}
use Rattle.dt_layout.proofs.laws.inside_is_close.Goals as goal

pub returns : goal.returns
returns c = inside_is_close
