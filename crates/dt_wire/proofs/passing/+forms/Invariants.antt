use Rattle.std.proofs.Common.{◌≡◌, ◌+◌, ◌*◌, ◌-◌}
use Rattle.dt_wire.specs.Reading.{form_at}
use Rattle.dt_wire.specs.Skipping.{erased, skip_part, times}
use Rattle.dt_wire.proofs.passing.+forms.Given as goal

abbrev pub decreases-form : goal.decreases-form
decreases-form l = 5 * l.levels

abbrev pub decreases-part : goal.decreases-part
decreases-part l = 5 * l.levels + 1

abbrev pub decreases-each_part : goal.decreases-each_part
decreases-each_part l = 5 * l.levels + 2

abbrev pub decreases-parts : goal.decreases-parts
decreases-parts l = 5 * l.levels + 3

abbrev pub decreases-layer : goal.decreases-layer
decreases-layer l = 5 * l.levels + 4

abbrev pub invariant-each_part-parts : goal.invariant-each_part-parts
invariant-each_part-parts l =
    times (skip_part (λ rest. erased (form_at l.levels rest))) l.n l.bytes ≡ times (skip_part (λ rest. erased (form_at l.levels rest))) (l.n - l.counter) l.rest
