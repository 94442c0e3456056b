use Rattle.std.proofs.Common.{rules, ◌≡◌, Ok, Err, slice_get}
use Rattle.dt_form.specs.declared.form.FormOf.TheVariants as form
use Rattle.dt_type.specs.Form.{result_of}
use Rattle.dt_wire.specs.Reading.{item_at, kinds, map_at}
use Rattle.dt_wire.proofs.Made.{is_error, map_wrong, named_read}
use Rattle.dt_wire.proofs.building.named.Goals as goal

pub returns-in_err-kind : goal.returns-in_err-kind
returns-in_err-kind c =
    let stop : item_at (slice_get kinds) c.args.bytes.now ≡ Err c.in_err-kind.field-0.0.now = search rules in
    let all =
    map_wrong result_of (map_at (λ k. form.Named k) (item_at (slice_get kinds))) c.args.bytes.now
    (map_wrong (λ k. form.Named k) (item_at (slice_get kinds)) c.args.bytes.now (is_error _ c.in_err-kind.field-0.0.now stop)) in
    search (rules, all)

pub returns : goal.returns
returns c =
    let read : item_at (slice_get kinds) c.args.bytes.now ≡ Ok (c.in_ok-kind.kind, c.in_ok-kind.rest.now) = search rules in
    let made : c.in_ok-named.field-0 ≡ result_of (form.Named c.in_ok-kind.kind) = search rules in
    named_read c.args.levels c.args.bytes.now c.in_ok-kind.rest.now c.in_ok-kind.kind c.in_ok-named.field-0 read made
