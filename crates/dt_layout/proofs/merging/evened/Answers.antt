use mir.Syntax.{w128}
use mir.Val.{to_z, of_z}
use Rattle.std.proofs.Common.{◌≡◌, pos, rules}
use Rattle.dt_offsets.proofs.Products.{factor_back}
use Rattle.dt_layout.proofs.Steps.{as_block, block_of}
use Rattle.dt_layout.proofs.merging.evened.Goals as goal

pub returns-in-Some-in_range : goal.returns-in-Some-in_range
returns-in-Some-in_range c =
    let t = c.args.turns.now in
    let first = factor_back t.first c.requires.first in
    let step = factor_back c.in-Some.step c.in-Some.ensures.factor in
    let none : to_z w128 (of_z w128 (pos 0)) ≡ pos 0 = search rules in
    let told = c.in-Some-in_range.ensures.0 in
    let is : c.in-Some-in_range.block ≡ block_of t c.in-Some.step = cc in
    as_block t c.in-Some-in_range.block c.in-Some.step c.in-Some.ensures is c.in-Some-in_range.ensures.1
