use mir.Syntax.{w32, w64, w128}
use Rattle.std.proofs.lemmas.Int.{to_z-of_z}
use Rattle.dt_type.proofs.Answers.{again}
use Rattle.dt_ctor.proofs.Places.{placed_again}
use Rattle.dt_ctor.proofs.even.hvector.Goals as goal

pub built-requires-clause-places : goal.built-requires-clause-places
built-requires-clause-places c =
    let old = c.in_ok-share.ensures in
    let stride = to_z-of_z w128 c.from.result (record { sfits = c.from.type_inv }) in
    let wide = c.from.ensures in
    placed_again _ _ _ c.in_ok-shape.ensures (cc)

pub returns : goal.returns
returns c =
    let count = to_z-of_z w32 c.args.count c.ranges.count in
    let block = to_z-of_z w32 c.args.block c.ranges.block in
    let stride = to_z-of_z w64 c.args.stride c.ranges.stride in
    let old = c.in_ok-share.ensures in
    again _ _ _ c.built.ensures (cc)
