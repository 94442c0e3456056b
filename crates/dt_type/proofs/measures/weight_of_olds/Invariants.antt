use Rattle.std.proofs.Common.{◌≡◌, take}
use Rattle.std.specs.List.{sum_by}
use Rattle.dt_form.specs.Form.{olds_of}
use Rattle.dt_type.specs.Datatype.{weight_of}
use Rattle.dt_offsets.specs.Reach.{capped}
use Rattle.dt_type.proofs.measures.weight_of_olds.Given as goal

abbrev pub invariant-olds : goal.invariant-olds
invariant-olds l = l.weight ≡ capped (sum_by weight_of (take l.k (olds_of l.form)))
