use Rattle.dt_wire.proofs.Refused.{each_text_is_read_or_bad}
use Rattle.dt_wire.proofs.laws.each_text_is_read_or_bad.Goals as goal

pub returns : goal.returns
returns c = each_text_is_read_or_bad
