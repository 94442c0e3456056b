use Rattle.dt_space.proofs.Packings.{all_taken}
use Rattle.dt_space.proofs.packing.take_all.Goals as goal

pub returns : goal.returns
returns c =
    all_taken c.args.session.now c.args.buffer.now c.args.out.now c.take.new.out c.take.result c.requires.inside c.requires.start c.requires.room c.take.ensures.count c.take.ensures.bytes c.take.auto.out
