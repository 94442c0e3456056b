use Rattle.std.proofs.Common.{◌∙◌}
use Rattle.dt_tree.proofs.Limits.{step_back}
use Rattle.dt_normal.proofs.Building.{places_more}
use Rattle.dt_normal.proofs.nodes.places.Goals as goal

pub blocks-2-preserved : goal.blocks-2-preserved
blocks-2-preserved c =
    let back = step_back c.distance.result c.distance.ensures.near in
    places_more c.args.entries.now c.args.at.start c.args.block c.blocks-2.k _ c.blocks-2.places.items c.push.new.self.items c.blocks-2.invariant (back ∙ c.distance.ensures.value) c.in_ok-push.ensures.items
