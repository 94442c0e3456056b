use Rattle.std.proofs.Common.{◌≡◌}
use Rattle.dt_layout.specs.Merging.{AreJoined}
use Rattle.dt_offsets.proofs.Products.{factor_back}
use Rattle.dt_layout.proofs.Steps.{joined_two, two_steps, sum_back, if_some}
use Rattle.dt_layout.proofs.merging.paired.Goals as goal

pub returns : goal.returns
returns c =
    let o = c.args.outer.now in
    let u = c.args.inner.now in
    let outer = c.requires.outer in
    let inner = c.requires.inner in
    let outer_first = factor_back o.first outer.first in
    let inner_first = factor_back u.first inner.first in
    let first = sum_back o.first u.first outer.first inner.first in
    let jumps = c.in_ok-jump.ensures in
    let steps = c.in_ok-step.ensures in
    let jump = factor_back c.in_ok-jump.jump jumps.factor in
    let step = factor_back c.in_ok-step.step steps.factor in
    let count = c.in_ok-checked_mul.ensures.1 in
    if_some _ (AreJoined o u) (λ t h. let told = h.0 in let is : t ≡ two_steps o u c.in_ok-jump.jump c.in_ok-step.step = cc in joined_two o u t c.in_ok-jump.jump c.in_ok-step.step jumps steps is h.1) c.in_range.result c.in_range.ensures
