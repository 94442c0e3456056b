use Rattle.dt_map.proofs.Writing.{setting_keeps_the_rest}
use Rattle.dt_map.proofs.laws.setting_keeps_the_rest.Goals as goal

pub returns : goal.returns
returns c = setting_keeps_the_rest
