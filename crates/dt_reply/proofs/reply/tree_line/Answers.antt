use Rattle.std.proofs.Common.{arith}
use Rattle.std.proofs.lemmas.Grind.{common_steps}
use Rattle.std.proofs.lemmas.Int.{to_z-of_z}
use Rattle.std.specs.Int.{w64}
use Rattle.dt_reply.specs.Reply.{line_of, tree_words}
use Rattle.dt_reply.proofs.reply.tree_line.Goals as goal

pub returns : goal.returns
unfolding line_of tree_words
returns c =
    let same = to_z-of_z w64 c.args.base c.ranges.base in
    grind (arith, common_steps, same)
