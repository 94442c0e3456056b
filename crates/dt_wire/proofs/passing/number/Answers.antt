use Rattle.std.proofs.Common.{rules, ◌≡◌, Ok, Err, ap, ◌∙◌}
use Rattle.byteorder.specs.Endian.{big_number}
use Rattle.dt_wire.specs.Skipping.{skip}
use Rattle.dt_wire.proofs.Lefts.{number_read, number_missing}
use Rattle.dt_wire.proofs.passing.number.Goals as goal

pub returns-in_err-rest : goal.returns-in_err-rest
returns-in_err-rest c =
    let stop : skip 4 c.args.bytes.now ≡ Err c.in_err-rest.field-0.0.now = search rules in
    let all = number_missing c.args.bytes.now c.in_err-rest.field-0.0.now stop in
    search (rules, all)

pub read_u32-requires : goal.read_u32-requires
read_u32-requires c =
    let read : skip 4 c.args.bytes.now ≡ Ok c.in_ok-rest.rest.now = search rules in
    (number_read c.args.bytes.now c.in_ok-rest.rest.now read).long

pub returns : goal.returns
returns c =
    let read : skip 4 c.args.bytes.now ≡ Ok c.in_ok-rest.rest.now = search rules in
    let all = (number_read c.args.bytes.now c.in_ok-rest.rest.now read).number in
    let same : big_number 4 c.args.bytes.now ≡ c.read_u32.result = search rules in
    all ∙ ap (λ n. Ok (n, c.in_ok-rest.rest.now)) same
