use Rattle.std.proofs.Common.{refl}
use Rattle.std.proofs.lemmas.Int.{to_z-of_z}
use Rattle.std.specs.Int.{w32}
use Rattle.dt_tree.specs.Weights.{weights_of}
use Rattle.dt_machine.proofs.LeastTrees.{weighed}
use Rattle.dt_machine.proofs.trees.weights_of.Goals as goal

pub returns-in_err-group : goal.returns-in_err-group
returns-in_err-group c =
    let none = simp (to_z-of_z w32 c.args.group c.ranges.group) at c.in_err-group.ensures in
    rw c.from_residual-in_err-group.ensures (λ are. none are.4)

pub returns-in_err-part : goal.returns-in_err-part
returns-in_err-part c =
    let none = simp (to_z-of_z w32 c.args.part c.ranges.part) at c.in_err-part.ensures in
    rw c.from_residual-in_err-part.ensures (λ are. none are.5)

pub returns : goal.returns
returns c =
    let leaf = simp (to_z-of_z w32 c.args.leaf c.ranges.leaf) at c.in_ok-leaf.ensures in
    let vector = simp (to_z-of_z w32 c.args.vector c.ranges.vector) at c.in_ok-vector.ensures in
    let index = simp (to_z-of_z w32 c.args.index c.ranges.index) at c.in_ok-index.ensures in
    let place = simp (to_z-of_z w32 c.args.place c.ranges.place) at c.in_ok-place.ensures in
    let group = simp (to_z-of_z w32 c.args.group c.ranges.group) at c.in_ok-group.ensures in
    let part = simp (to_z-of_z w32 c.args.part c.ranges.part) at c.in_ok-part.ensures in
    weighed c.args.leaf c.args.vector c.args.index c.args.place c.args.group c.args.part
    (weights_of c.in_ok-leaf.leaf c.in_ok-vector.vector c.in_ok-index.index c.in_ok-place.place c.in_ok-group.group c.in_ok-part.part) c.new.result
    (leaf.0, vector.0, index.0, place.0, group.0, part.0) (rw (leaf.1, vector.1, index.1, place.1, group.1, part.1) refl) c.new.ensures
