use Rattle.std.proofs.Common.{subst}
use Rattle.dt_names.specs.Found.{IsFoundType}
use Rattle.dt_machine.specs.State.{State}
use Rattle.dt_machine.proofs.machine.Machine.find_type.Goals as goal

pub returns : goal.returns
returns c =
    let P : State → Type 0 = λ s. IsFoundType s.types c.args.word.now c.find.result in
    subst P c.self.view_is c.find.ensures
