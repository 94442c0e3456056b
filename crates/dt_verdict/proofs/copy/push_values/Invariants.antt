use Rattle.std.proofs.Common.{◌≡◌, ◌++◌, take}
use Rattle.std.specs.List.{flat_map}
use Rattle.dt_cert.specs.Certificate.{ByClasses}
use Rattle.dt_cert.specs.Text.{text_of_line, value_line}
use Rattle.dt_verdict.proofs.copy.push_values.Given as goal

abbrev pub invariant-values : goal.invariant-values
invariant-values l = l.out.items ≡ l.initial.out.items ++ flat_map (λ a. text_of_line (value_line ByClasses a)) (take l.a-index l.values)
