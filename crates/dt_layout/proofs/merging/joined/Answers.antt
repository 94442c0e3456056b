use Rattle.std.proofs.Common.{◌≡◌}
use Rattle.dt_layout.specs.Merging.{AreJoined}
use Rattle.dt_offsets.proofs.Products.{factor_back}
use Rattle.dt_layout.proofs.Steps.{joined_inner, joined_outer, moved_by, if_some}
use Rattle.dt_layout.proofs.merging.joined.Goals as goal

pub returns-then-outer-eq1 : goal.returns-then-outer-eq1
returns-then-outer-eq1 c =
    let o = c.args.outer.now in
    let u = c.args.inner.now in
    let first = factor_back o.first c.requires.outer.first in
    if_some _ (AreJoined o u) (λ t h. let told = h.0 in let is : t ≡ moved_by u o.first = cc in joined_inner o u t c.if-outer-eq1.true c.requires.outer.least is h.1) c.moved.result c.moved.ensures

pub returns-then-inner-eq1 : goal.returns-then-inner-eq1
returns-then-inner-eq1 c =
    let o = c.args.outer.now in
    let u = c.args.inner.now in
    let first = factor_back u.first c.requires.inner.first in
    if_some _ (AreJoined o u) (λ t h. let told = h.0 in let is : t ≡ moved_by o u.first = cc in joined_outer o u t c.if-inner-eq1.true c.requires.inner.least is h.1) c.moved-then-inner-eq1.result c.moved-then-inner-eq1.ensures
