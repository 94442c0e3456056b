use Rattle.std.proofs.Common.{◌+◌, true, ap, ◌∙◌, arith}
use Rattle.std.proofs.Math.ListN.{set}
use Rattle.dt_elems.proofs.Taken.{one_mark}
use Rattle.dt_elems.proofs.overlap.mark.Goals as goal

pub bytes-preserved : goal.bytes-preserved
bytes-preserved c =
    let room = c.requires in
    let next = c.bytes-test.true in
    ap (λ bs. set bs (c.args.start + c.bytes.k) true) c.bytes.invariant ∙ one_mark c.args.taken.now c.args.start c.bytes.k (omega arith)
