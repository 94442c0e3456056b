use Rattle.std.proofs.Common.{◌∙◌}
use Rattle.dt_pack.proofs.Taking.{whole_taken}
use Rattle.dt_pack.proofs.whole.take_whole.Goals as goal

pub returns : goal.returns
returns c =
    let len = c.in_ok-bytes.ensures.len ∙ c.total.ensures in
    whole_taken c.args.session.now c.args.buffer.now c.deref_mut.result.now c.take.new.out c.in_ok-bytes.bytes.items c.take.result c.in_ok-bytes.bytes.len c.requires.inside c.requires.start
    (c.deref_mut.ensures.len ∙ len) len c.take.ensures.count c.take.ensures.bytes (c.take.auto.out ∙ c.deref_mut.ensures.len)
