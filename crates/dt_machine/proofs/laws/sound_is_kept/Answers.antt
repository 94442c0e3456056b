use Rattle.dt_machine.proofs.Sound.{sound_is_kept}
use Rattle.dt_machine.proofs.laws.sound_is_kept.Goals as goal

pub returns : goal.returns
returns c = sound_is_kept
