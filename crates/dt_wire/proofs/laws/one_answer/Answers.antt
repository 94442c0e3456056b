use Rattle.dt_wire.proofs.OneAnswer.{one_answer}
use Rattle.dt_wire.proofs.laws.one_answer.Goals as goal

pub returns : goal.returns
returns c = one_answer
