use Rattle.std.proofs.Common.{arith}
use Rattle.std.proofs.lemmas.Grind.{common_steps}
use Rattle.std.proofs.lemmas.Int.{to_z-of_z}
use Rattle.std.specs.Int.{w128}
use Rattle.dt_reply.specs.Reply.{extent_words}
use Rattle.dt_reply.proofs.text.push_extent.Goals as goal

pub returns : goal.returns
unfolding extent_words
returns c =
    let same = to_z-of_z w128 c.extent.result (record { sfits = c.extent.type_inv }) in
    grind (arith, common_steps, same)
