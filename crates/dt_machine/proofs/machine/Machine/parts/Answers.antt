use Rattle.std.proofs.Common.{Some, ap, sym, ◌∙◌}
use Rattle.dt_machine.proofs.Definitions.{none_at, parts_more}
use Rattle.dt_machine.proofs.machine.Machine.parts.Goals as goal

pub part-requires : goal.part-requires
part-requires c = none_at _ c.args.named.now c.loop-part.part-index c.part-item.result c.loop-part-test.true c.part-item.is c.requires

pub loop-part-preserved : goal.loop-part-preserved
loop-part-preserved c =
    parts_more c.args.self.now c.args.named.now c.loop-part.part-index c.part-item.result c.loop-part.parts.items c.in_ok-part.field-0
    c.loop-part-test.true c.part-item.is c.loop-part.invariant c.in_ok-part.ensures ∙ ap Some (sym c.in-Ok.ensures.items)
