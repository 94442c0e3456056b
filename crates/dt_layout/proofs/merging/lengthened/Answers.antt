use Rattle.std.proofs.Common.{◌≡◌, ◌+ℤ◌, ◌*ℤ◌, pos, rules}
use Rattle.dt_layout.specs.Merging.{AreJoined}
use Rattle.dt_offsets.proofs.Products.{factor_back, same128}
use Rattle.dt_layout.proofs.Steps.{joined_long, long_block, sum_back, if_some}
use Rattle.dt_layout.proofs.merging.lengthened.Goals as goal

pub returns : goal.returns
returns c =
    let o = c.args.outer.now in
    let u = c.args.inner.now in
    let outer = c.requires.outer in
    let inner = c.requires.inner in
    let outer_first = factor_back o.first outer.first in
    let inner_first = factor_back u.first inner.first in
    let first = sum_back o.first u.first outer.first inner.first in
    let jump = factor_back o.jump outer.jump in
    let outer_step = factor_back o.step outer.step in
    let step = factor_back c.args.step c.requires.even.factor in
    let far = same128 c.along.result c.along.type_inv in
    let along = c.along.ensures in
    let equal = c.are_equal.ensures.0 (search rules) in
    let fills : o.step ≡ pos 0 +ℤ (pos u.count *ℤ c.args.step) = cc in
    let count = c.in_ok-checked_mul.ensures.1 in
    let block = c.in_ok-checked_mul-2.ensures.1 in
    if_some _ (AreJoined o u) (λ t h. let told = h.0 in let is : t ≡ long_block o u c.args.step = cc in joined_long o u t c.args.step fills c.requires.even outer.least is h.1) c.in_range.result c.in_range.ensures
