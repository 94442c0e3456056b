use Rattle.std.proofs.Common.{◌≡◌, length}
use Rattle.dt_copy.specs.Copied.{copied}
use Rattle.dt_machine.proofs.Buffers.{made_of}
use Rattle.dt_machine.proofs.combining.copy_buffers.Goals as goal

pub returns : goal.returns
returns c =
    made_of c.args.transfers.now c.copy.new.self c.args.source.now c.args.target.now (copied c.args.plan.now.source c.args.plan.now.target)
    (λ bytes. length bytes ≡ c.args.plan.now.source_len) (λ bytes. length bytes ≡ c.args.plan.now.target_len) c.requires.source c.requires.target c.copy.ensures.bytes
