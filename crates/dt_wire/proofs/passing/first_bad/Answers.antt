use Rattle.std.proofs.Common.{rules, ◌≡◌, ◌<◌, length, Ok, Err}
use Rattle.dt_wire.specs.Reading.{text_at}
use Rattle.dt_wire.specs.Skipping.{erased}
use Rattle.dt_wire.proofs.Lefts.{text_stuck, text_read, text_goes_on}
use Rattle.dt_wire.proofs.passing.first_bad.Goals as goal

pub overflow_sub-result : goal.overflow_sub-result
overflow_sub-result c =
    let read : erased (text_at c.args.bytes.now) ≡ Ok c.in-Ok.rest.now = search rules in
    let some : 0 < length c.in-Ok.rest.now = search rules in
    (text_goes_on c.args.bytes.now c.in-Ok.rest.now read some).within

pub overflow_sub-result-in-Err : goal.overflow_sub-result-in-Err
overflow_sub-result-in-Err c =
    let stop : erased (text_at c.args.bytes.now) ≡ Err c.in-Err.left.now = search rules in
    (text_stuck c.args.bytes.now c.in-Err.left.now stop).within

pub returns-then-is_empty : goal.returns-then-is_empty
returns-then-is_empty c =
    let read : erased (text_at c.args.bytes.now) ≡ Ok c.in-Ok.rest.now = search rules in
    let none : length c.in-Ok.rest.now ≡ 0 = search rules in
    text_read c.args.bytes.now c.in-Ok.rest.now read none

pub returns-else-is_empty : goal.returns-else-is_empty
returns-else-is_empty c =
    let read : erased (text_at c.args.bytes.now) ≡ Ok c.in-Ok.rest.now = search rules in
    let some : 0 < length c.in-Ok.rest.now = search rules in
    (text_goes_on c.args.bytes.now c.in-Ok.rest.now read some).bad

pub returns-in-Err : goal.returns-in-Err
returns-in-Err c =
    let stop : erased (text_at c.args.bytes.now) ≡ Err c.in-Err.left.now = search rules in
    (text_stuck c.args.bytes.now c.in-Err.left.now stop).bad
