use Rattle.std.proofs.Common.{◌≡◌, take}
use Rattle.dt_form.specs.Form.{olds_of}
use Rattle.dt_type.proofs.contents.types.Given as goal

-- the types up to here are listed
abbrev pub invariant-olds : goal.invariant-olds
invariant-olds l = l.list ≡ take l.k (olds_of l.form)
