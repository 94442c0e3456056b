use Rattle.dt_reduce.proofs.Column.{words_are_folded}
use Rattle.dt_reduce.proofs.laws.words_are_folded.Goals as goal

pub returns : goal.returns
returns c = words_are_folded
