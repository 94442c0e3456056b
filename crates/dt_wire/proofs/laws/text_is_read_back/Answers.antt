use Rattle.dt_wire.proofs.OneAnswer.{text_is_read_back}
use Rattle.dt_wire.proofs.laws.text_is_read_back.Goals as goal

pub returns : goal.returns
returns c = text_is_read_back
