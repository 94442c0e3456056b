use Rattle.std.proofs.Common.{arith}
use Rattle.std.proofs.lemmas.Grind.{common_steps}
use Rattle.dt_reply.specs.Reply.{line_of, info_words}
use Rattle.dt_reply.proofs.reply.info_line.Goals as goal

pub returns : goal.returns
unfolding line_of info_words
returns c = grind (arith, common_steps)
