use Rattle.std.proofs.Common.{◌≡◌, length}
use Rattle.dt_reduce.specs.Reduced.{reduced}
use Rattle.dt_machine.specs.Joins.{join_of}
use Rattle.dt_machine.proofs.Buffers.{made_of}
use Rattle.dt_machine.proofs.combining.reduce_buffers.Goals as goal

pub returns : goal.returns
returns c =
    made_of c.args.transfers.now c.reduce_in.new.transfers c.args.source.now c.args.target.now (reduced (join_of c.args.op) c.args.plan.now.source c.args.plan.now.target)
    (λ bytes. length bytes ≡ c.args.plan.now.source_len) (λ bytes. length bytes ≡ c.args.plan.now.target_len) c.requires.source c.requires.target c.reduce_in.ensures
