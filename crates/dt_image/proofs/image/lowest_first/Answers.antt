use Rattle.std.proofs.Common.{arith, length, rules}
use Rattle.std.proofs.lemmas.List.{take_at}
use Rattle.byteorder.specs.Numbers.{length-bytes_low_first}
use Rattle.dt_image.proofs.Turned.{big_fits, low_from_high}
use Rattle.dt_image.proofs.image.lowest_first.Goals as goal

pub write_uint-requires-clause-fits : goal.write_uint-requires-clause-fits
write_uint-requires-clause-fits c =
    rw c.read_uint-number.ensures (big_fits (length c.args.bytes.now) c.args.bytes.now (λ _. search rules))

pub returns : goal.returns
returns c =
    let bytes = low_from_high (length c.args.bytes.now) c.args.bytes.now (omega arith) (λ _. search rules) in
    let written = length-bytes_low_first 0 (length c.args.bytes.now) c.read_uint-number.result in
    rw (c.of.ensures, c.write_uint.ensures, take_at _ _ _ written, c.read_uint-number.ensures) bytes
