use Rattle.std.proofs.Common.{◌≡◌, ◌+ℤ◌, ◌*ℤ◌, ◌*◌, ◌/◌, pos, rules}
use Rattle.dt_layout.specs.Merging.{AreJoined}
use Rattle.dt_offsets.proofs.Products.{factor_back, same128}
use Rattle.dt_layout.proofs.Steps.{joined_many, many_blocks, sum_back, if_some}
use Rattle.dt_layout.proofs.merging.repeated.Goals as goal

pub returns : goal.returns
returns c =
    let o = c.args.outer.now in
    let u = c.args.inner.now in
    let outer = c.requires.outer in
    let inner = c.requires.inner in
    let outer_first = factor_back o.first outer.first in
    let inner_first = factor_back u.first inner.first in
    let first = sum_back o.first u.first outer.first inner.first in
    let jump = factor_back u.jump inner.jump in
    let inner_step = factor_back u.step inner.step in
    let even = c.in_ok-step.ensures in
    let step = factor_back c.in_ok-step.step even.factor in
    let far = same128 c.along.result c.along.type_inv in
    let along = c.along.ensures in
    let equal = c.are_equal.ensures.0 (search rules) in
    let fills : c.in_ok-step.step ≡ pos 0 +ℤ (pos (u.count / u.block) *ℤ u.jump) = cc in
    let whole : u.count / u.block * u.block ≡ u.count = search rules in
    let count = c.in_ok-checked_mul.ensures.1 in
    if_some _ (AreJoined o u) (λ t h. let told = h.0 in let is : t ≡ many_blocks o u = cc in joined_many o u t c.in_ok-step.step even fills whole inner.least is h.1) c.in_range.result c.in_range.ensures
