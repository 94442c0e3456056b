use mir.Syntax.{w32}
use Rattle.std.proofs.lemmas.Int.{to_z-of_z}
use Rattle.dt_type.proofs.Answers.{again}
use Rattle.dt_ctor.proofs.Places.{placed_again}
use Rattle.dt_ctor.proofs.Blocks.{as_contiguous}
use Rattle.dt_ctor.proofs.even.contiguous.Goals as goal

pub built-requires-clause-places : goal.built-requires-clause-places
built-requires-clause-places c =
    let old = c.in_ok-share.ensures in
    placed_again _ _ _ (as_contiguous _ _ _ c.in_ok-shape.ensures) (cc)

pub returns : goal.returns
returns c =
    let count = to_z-of_z w32 c.args.count c.ranges.count in
    let old = c.in_ok-share.ensures in
    again _ _ _ c.built.ensures (cc)
