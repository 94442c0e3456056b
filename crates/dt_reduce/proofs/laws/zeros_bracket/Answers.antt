use Rattle.dt_reduce.proofs.Halving.{zeros_bracket}
use Rattle.dt_reduce.proofs.laws.zeros_bracket.Goals as goal

pub returns : goal.returns
returns c = zeros_bracket
