use Rattle.dt_cert.proofs.Showing.{shown_is_least}
use Rattle.dt_cert.proofs.laws.shown_is_least.Goals as goal

pub returns : goal.returns
returns c = shown_is_least
