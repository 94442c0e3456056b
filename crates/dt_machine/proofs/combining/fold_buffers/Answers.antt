use Rattle.std.proofs.Common.{length}
use Rattle.std.proofs.lemmas.Int.{to_z-of_z}
use Rattle.std.specs.Int.{w64}
use Rattle.dt_reduce.specs.Folded.{folded}
use Rattle.dt_reduce.specs.Ranks.{elements_at, CanReduceAll}
use Rattle.dt_machine.specs.Joins.{join_of}
use Rattle.dt_machine.proofs.Buffers.{set_ok}
use Rattle.dt_machine.proofs.combining.fold_buffers.Goals as goal

pub returns-clause-ok : goal.returns-clause-ok
returns-clause-ok c =
    set_ok c.fold_in.result c.args.transfers.now c.fold_in.new.transfers c.args.target.now
    (folded (join_of c.args.op) (elements_at c.args.ranks.now c.args.origin) c.args.ranks.now.rows)
    (λ held. CanReduceAll c.args.ranks.now c.args.merges.now c.args.origin (length held)) c.requires
    (λ held is. simp (to_z-of_z w64 c.args.origin c.ranges.origin) at (c.fold_in.ensures.ok held is))
