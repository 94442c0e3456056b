use Rattle.std.proofs.Common.{length, rules}
use Rattle.dt_image.proofs.Turned.{little_fits}
use Rattle.dt_image.proofs.image.highest_first.Goals as goal

pub write_uint-requires-clause-fits : goal.write_uint-requires-clause-fits
write_uint-requires-clause-fits c =
    rw c.read_uint-number.ensures (little_fits (length c.args.bytes.now) c.args.bytes.now (λ _. search rules))
