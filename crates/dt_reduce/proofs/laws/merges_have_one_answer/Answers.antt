use Rattle.dt_reduce.proofs.Answering.{merges_have_one_answer}
use Rattle.dt_reduce.proofs.laws.merges_have_one_answer.Goals as goal

pub returns : goal.returns
returns c = merges_have_one_answer
