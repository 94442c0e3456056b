use Rattle.dt_cert.proofs.Showing.{holds_is_least}
use Rattle.dt_cert.proofs.laws.holds_is_least.Goals as goal

pub returns : goal.returns
returns c = holds_is_least
