use Rattle.std.proofs.Common.{refl, ap}
use Rattle.std.proofs.lemmas.Int.{to_z-of_z}
use Rattle.std.specs.Int.{w32}
use Rattle.dt_script.specs.declared.command.Command.TheVariants.{Weights}
use Rattle.dt_machine.specs.declared.outcome.Change.TheVariants.{SetWeights}
use Rattle.dt_machine.specs.State.{with_weights, with_count}
use Rattle.dt_machine.proofs.LeastTrees.{weights_allowed}
use Rattle.dt_machine.proofs.Outcomes.{done_outcome}
use Rattle.dt_machine.proofs.machine.Machine.weigh.Goals as goal

pub returns : goal.returns
returns c =
    let a = c.args in
    let made =
    simp (to_z-of_z w32 a.leaf c.ranges.leaf, to_z-of_z w32 a.vector c.ranges.vector, to_z-of_z w32 a.index c.ranges.index, to_z-of_z w32 a.place c.ranges.place, to_z-of_z w32 a.group c.ranges.group, to_z-of_z w32 a.part c.ranges.part) at c.in-Some.ensures
    in
    done_outcome a.self.now (Weights a.leaf a.vector a.index a.place a.group a.part) (SetWeights c.in-Some.weights) c.done.result
    (weights_allowed a.self.now a.leaf a.vector a.index a.place a.group a.part made.0) tt (refl, ap (λ w. with_count (with_weights a.self.now w)) made.1) c.done.ensures
