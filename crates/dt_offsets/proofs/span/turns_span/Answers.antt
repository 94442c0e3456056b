use mir.Syntax.{w128}
use mir.Val.{to_z, of_z}
use Rattle.std.proofs.Common.{◌≡◌, subst, ◌+ℤ◌, ◌*ℤ◌, pos, ◌/◌, ◌%◌, ◌+◌, ◌*◌, ◌^◌, ◌<◌, ℤ, nat_abs}
use Rattle.dt_offsets.specs.Span.{reach_of}
use Rattle.dt_offsets.specs.Offsets.{row_offsets}
use Rattle.dt_offsets.specs.Near.{IsNearSpan}
use Rattle.dt_offsets.proofs.NearNumbers.{last_near, outer_near, inner_near}
use Rattle.dt_offsets.proofs.Products.{same128, factor_back}
use Rattle.dt_offsets.proofs.TurnSpans.{turns-reach}
use Rattle.dt_offsets.proofs.span.turns_span.Goals as goal

pub stretched-requires-clause-reach : goal.stretched-requires-clause-reach
stretched-requires-clause-reach c =
    let first = factor_back c.args.turns.now.first c.requires.first in
    let jump = factor_back c.args.turns.now.jump c.requires.jump in
    let outer : reach_of (row_offsets c.args.turns.now.first (c.args.turns.now.count / c.args.turns.now.block) c.args.turns.now.jump) ≡ c.row_span-outer.result = cc in
    subst IsNearSpan outer (outer_near c.args.turns.now c.requires)

pub stretched-requires-clause-span : goal.stretched-requires-clause-span
stretched-requires-clause-span c =
    let step = factor_back c.args.turns.now.step c.requires.step in
    let inner : reach_of (row_offsets (pos 0) c.args.turns.now.block c.args.turns.now.step) ≡ c.row_span-inner.result = cc in
    subst IsNearSpan inner (inner_near c.args.turns.now c.requires)

pub row_span-requires-clause-near : goal.row_span-requires-clause-near
row_span-requires-clause-near c =
    let first = factor_back c.args.turns.now.first c.requires.first in
    let jump = factor_back c.args.turns.now.jump c.requires.jump in
    let back = same128 c.along-last.result c.along-last.type_inv in
    let last : c.args.turns.now.first +ℤ (pos (c.args.turns.now.count / c.args.turns.now.block) *ℤ c.args.turns.now.jump) ≡ to_z w128 (of_z w128 c.along-last.result) = cc in
    let P : ℤ → Type 0 = λ x. nat_abs x + c.args.turns.now.count % c.args.turns.now.block * 2 ^ 93 < 2 ^ 126 in
    subst P last (last_near c.args.turns.now c.requires)

pub returns : goal.returns
returns c =
    let first = factor_back c.args.turns.now.first c.requires.first in
    let jump = factor_back c.args.turns.now.jump c.requires.jump in
    let step = factor_back c.args.turns.now.step c.requires.step in
    let back = same128 c.along-last.result c.along-last.type_inv in
    let joined = turns-reach c.args.turns.now c.requires.least in
    cc
