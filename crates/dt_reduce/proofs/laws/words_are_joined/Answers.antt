use Rattle.dt_reduce.proofs.WordLaw.{words_are_joined}
use Rattle.dt_reduce.proofs.laws.words_are_joined.Goals as goal

pub returns : goal.returns
returns c = words_are_joined
