use Rattle.std.proofs.Common.{◌≡◌, ◌++◌, [], cond, take}
use Rattle.std.specs.List.{flat_map}
use Rattle.dt_cert.specs.Certificate.{ByClasses}
use Rattle.dt_cert.specs.Classes.{is_first}
use Rattle.dt_cert.specs.Text.{text_of_line, value_line}
use Rattle.dt_cert.proofs.classes.push_classes.Given as goal

abbrev pub invariant-lows : goal.invariant-lows
invariant-lows l = l.out.items ≡ l.initial.out.items ++ flat_map (λ a. cond (is_first l.classes a) (text_of_line (value_line ByClasses a)) []) (take l.low-index l.lows)
