use Rattle.std.proofs.Common.{rules, ◌≡◌, Ok, Err, ap, ◌∙◌, to_z, of_z}
use Rattle.std.specs.Int.{cast_signed}
use mir.Syntax.{w32}
use Rattle.byteorder.specs.Endian.{big_number}
use Rattle.dt_wire.specs.Skipping.{skip}
use Rattle.dt_wire.proofs.Lefts.{int_read, int_missing}
use Rattle.dt_wire.proofs.values.I32Field.read.Goals as goal

pub returns-in_err-rest : goal.returns-in_err-rest
returns-in_err-rest c =
    let stop : skip 4 c.args.bytes.now ≡ Err c.in_err-rest.field-0.0.now = search rules in
    let all = int_missing c.args.bytes.now c.in_err-rest.field-0.0.now stop in
    search (rules, all)

pub read_i32-requires : goal.read_i32-requires
read_i32-requires c =
    let read : skip 4 c.args.bytes.now ≡ Ok c.in_ok-rest.rest.now = search rules in
    (int_read c.args.bytes.now c.in_ok-rest.rest.now read).long

pub returns : goal.returns
returns c =
    let read : skip 4 c.args.bytes.now ≡ Ok c.in_ok-rest.rest.now = search rules in
    let all = (int_read c.args.bytes.now c.in_ok-rest.rest.now read).number in
    let same : cast_signed w32 (big_number 4 c.args.bytes.now) ≡ to_z w32 (of_z w32 c.read_i32.result) = search rules in
    all ∙ ap (λ n. Ok (n, c.in_ok-rest.rest.now)) same
