use Rattle.dt_names.proofs.WordLemmas.{only_memory}
use Rattle.dt_machine.proofs.machine.Machine.old.Goals as goal

pub unreachable-requires : goal.unreachable-requires
unreachable-requires c =
    only_memory c.args.self.now.types c.args.word.now c.requires c.in-Err-Refused.field-0-0 (rw c.in-Err-Refused.field-0-is at c.in-Err-Refused.ensures)
