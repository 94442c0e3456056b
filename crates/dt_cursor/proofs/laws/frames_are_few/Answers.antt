use Rattle.dt_cursor.proofs.Running.{frames_are_few}
use Rattle.dt_cursor.proofs.laws.frames_are_few.Goals as goal

pub returns : goal.returns
returns c = frames_are_few
