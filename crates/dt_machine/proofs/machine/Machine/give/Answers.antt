use Rattle.dt_machine.proofs.Pieces.{give_obeyed}
use Rattle.dt_machine.proofs.machine.Machine.give.Goals as goal

pub returns-clause-ok : goal.returns-clause-ok
returns-clause-ok c =
    give_obeyed c.args.self.now c.receive-receipt.new.self c.args.session.now c.args.piece.now c.receive-receipt.result c.args.out.now.items
    c.reserve.new.self.items c.write_receipt.new.out.items c.in_default.ensures c.receive-receipt.ensures c.reserve.ensures.items c.write_receipt.ensures
