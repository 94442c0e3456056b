use Rattle.dt_cursor.proofs.Running.{program_is_to_run}
use Rattle.dt_cursor.proofs.laws.program_is_to_run.Goals as goal

pub returns : goal.returns
returns c = program_is_to_run
