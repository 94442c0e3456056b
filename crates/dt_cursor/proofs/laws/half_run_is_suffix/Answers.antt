use Rattle.dt_cursor.proofs.Running.{half_run_is_suffix}
use Rattle.dt_cursor.proofs.laws.half_run_is_suffix.Goals as goal

pub returns : goal.returns
returns c = half_run_is_suffix
