use Rattle.std.proofs.Common.{rules, ◌≡◌, Ok, Err, ap, ◌∙◌, to_z, of_z}
use Rattle.std.specs.Int.{cast_signed}
use mir.Syntax.{w64}
use Rattle.byteorder.specs.Endian.{big_number}
use Rattle.dt_wire.specs.Skipping.{skip}
use Rattle.dt_wire.proofs.Lefts.{address_read, address_missing}
use Rattle.dt_wire.proofs.values.I64Field.read.Goals as goal

pub returns-in_err-rest : goal.returns-in_err-rest
returns-in_err-rest c =
    let stop : skip 8 c.args.bytes.now ≡ Err c.in_err-rest.field-0.0.now = search rules in
    let all = address_missing c.args.bytes.now c.in_err-rest.field-0.0.now stop in
    search (rules, all)

pub read_i64-requires : goal.read_i64-requires
read_i64-requires c =
    let read : skip 8 c.args.bytes.now ≡ Ok c.in_ok-rest.rest.now = search rules in
    (address_read c.args.bytes.now c.in_ok-rest.rest.now read).long

pub returns : goal.returns
returns c =
    let read : skip 8 c.args.bytes.now ≡ Ok c.in_ok-rest.rest.now = search rules in
    let all = (address_read c.args.bytes.now c.in_ok-rest.rest.now read).number in
    let same : cast_signed w64 (big_number 8 c.args.bytes.now) ≡ to_z w64 (of_z w64 c.read_i64.result) = search rules in
    all ∙ ap (λ n. Ok (n, c.in_ok-rest.rest.now)) same
