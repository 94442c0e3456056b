use Rattle.std.proofs.Common.{arith}
use Rattle.std.proofs.lemmas.Grind.{common_steps}
use Rattle.dt_reply.specs.Reply.{true_bounds_words}
use Rattle.dt_reply.proofs.text.push_true_bounds.Goals as goal

pub returns : goal.returns
unfolding true_bounds_words
returns c = grind (arith, common_steps)
