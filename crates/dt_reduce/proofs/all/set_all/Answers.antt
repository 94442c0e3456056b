use Rattle.std.proofs.Common.{length, ap, ◌∙◌}
use Rattle.dt_reduce.proofs.Setting.{all_set, all_completed}
use Rattle.dt_reduce.proofs.all.set_all.Goals as goal

pub returns-clause-bytes : goal.returns-clause-bytes
returns-clause-bytes c =
    c.in-Ok.ensures.buffer ∙ all_set c.args.session.now c.args.packed.now c.requires.native c.requires.start.0 c.requires.all c.args.into.now c.requires.start.1

pub returns-clause-number : goal.returns-clause-number
returns-clause-number c =
    c.in-Ok.ensures.given.0 ∙ ap length (all_completed c.args.session.now c.args.packed.now c.requires.native c.requires.start.0 c.requires.all)
