use Rattle.std.proofs.Common.{◌≡◌, ◌+ℤ◌, ◌*ℤ◌, pos, sym, subst}
use Rattle.dt_offsets.proofs.Products.{factor_back, same128}
use Rattle.dt_layout.specs.Merging.{AreEven}
use Rattle.dt_layout.proofs.Steps.{even_block, even_blocks, even_ones}
use Rattle.dt_layout.proofs.merging.even_step.Goals as goal

pub returns-then-turns : goal.returns-then-turns
returns-then-turns c =
    let t = c.args.turns.now in
    subst (AreEven t) (sym (factor_back t.step c.requires.step)) (record { factor = c.requires.step; even = even_block t c.if-turns.true })

pub returns-then-turns-eq1 : goal.returns-then-turns-eq1
returns-then-turns-eq1 c =
    let t = c.args.turns.now in
    subst (AreEven t) (sym (factor_back t.jump c.requires.jump)) (record { factor = c.requires.jump; even = even_ones t c.if-turns-eq1.true })

pub returns-then-are_equal : goal.returns-then-are_equal
returns-then-are_equal c =
    let t = c.args.turns.now in
    let jump = factor_back t.jump c.requires.jump in
    let step = factor_back t.step c.requires.step in
    let far = same128 c.along.result c.along.type_inv in
    let told = c.along.ensures in
    let equal = c.are_equal.ensures.0 c.if-are_equal.true in
    let is : t.jump ≡ pos 0 +ℤ (pos t.block *ℤ t.step) = cc in
    subst (AreEven t) (sym step) (record { factor = c.requires.step; even = even_blocks t t.step is (λ i. t.step) c.requires.least })
