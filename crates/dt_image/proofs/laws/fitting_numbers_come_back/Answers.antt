use Rattle.dt_image.proofs.Fitting.{fitting_numbers_come_back}
use Rattle.dt_image.proofs.laws.fitting_numbers_come_back.Goals as goal

pub returns : goal.returns
returns c = fitting_numbers_come_back
