use Rattle.std.proofs.Common.{◌≡◌, take}
use Rattle.std.specs.List.{AllByRecursion}
use Rattle.dt_form.specs.Form.{olds_of}
use Rattle.dt_type.specs.Form.{deepest}
use Rattle.dt_type.specs.Whole.{IsWhole}
use Rattle.dt_type.proofs.measures.depth_of_olds.Given as goal

abbrev pub invariant-olds : goal.invariant-olds
invariant-olds l = (l.depth ≡ deepest (take l.k (olds_of l.form))) × AllByRecursion IsWhole (take l.k (olds_of l.form))
