use Rattle.dt_registry.proofs.Steps.{no_handle_twice}
use Rattle.dt_registry.proofs.laws.no_handle_twice.Goals as goal

pub returns : goal.returns
returns c = no_handle_twice
