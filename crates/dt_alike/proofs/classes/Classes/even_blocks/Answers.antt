use Rattle.dt_alike.proofs.Knowing.{run_decides}
use Rattle.dt_alike.specs.Blocks.{AreEven}
use Rattle.dt_alike.proofs.classes.Classes.even_blocks.Goals as goal

pub returns : goal.returns
returns c =
    run_decides (AreEven c.args.self.now c.args.i c.args.m) c.args.self.now c.args.i c.args.j c.args.m c.at.result.blocks.even c.requires.some c.requires.inside c.requires.block
    c.requires.whole c.at.ensures.blocks.even
