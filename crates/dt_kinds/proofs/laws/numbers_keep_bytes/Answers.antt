use Rattle.dt_kinds.proofs.Bytes.{numbers_keep_bytes}
use Rattle.dt_kinds.proofs.laws.numbers_keep_bytes.Goals as goal

pub returns : goal.returns
returns c = numbers_keep_bytes
