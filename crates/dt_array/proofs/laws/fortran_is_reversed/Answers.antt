use Rattle.dt_array.proofs.Places.{mirrored}
use Rattle.dt_array.proofs.laws.fortran_is_reversed.Goals as goal

pub returns : goal.returns
returns c = mirrored
