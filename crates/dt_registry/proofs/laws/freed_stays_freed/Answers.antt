use Rattle.dt_registry.proofs.Steps.{freed_stays_freed}
use Rattle.dt_registry.proofs.laws.freed_stays_freed.Goals as goal

pub returns : goal.returns
returns c = freed_stays_freed
