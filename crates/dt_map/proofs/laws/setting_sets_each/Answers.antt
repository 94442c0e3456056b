use Rattle.dt_map.proofs.Writing.{setting_sets_each}
use Rattle.dt_map.proofs.laws.setting_sets_each.Goals as goal

pub returns : goal.returns
returns c = setting_sets_each
