use Rattle.std.proofs.Common.{◌≡◌, ◌++◌, take}
use Rattle.std.specs.List.{flat_map}
use Rattle.dt_cert.specs.Text.{text_of_line, entry_line}
use Rattle.dt_cert.proofs.lines.push_entries.Given as goal

abbrev pub invariant-entries : goal.invariant-entries
invariant-entries l = l.out.items ≡ l.initial.out.items ++ flat_map (λ e. text_of_line (entry_line e)) (take l.entry-index l.entries)
