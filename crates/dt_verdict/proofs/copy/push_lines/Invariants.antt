use Rattle.std.proofs.Common.{◌≡◌, ◌++◌, ◌-◌, take}
use Rattle.std.specs.List.{flat_map}
use Rattle.dt_verdict.specs.Cut.{ended, lines_from}
use Rattle.dt_verdict.proofs.copy.push_lines.Given as goal

-- what is still to be copied, behind what was
abbrev pub invariant-lines : goal.invariant-lines
invariant-lines l =
    l.out.items ++ flat_map ended (take (l.fn.number - l.counter) (lines_from l.text l.next)) ≡ l.initial.out.items ++ flat_map ended (take l.fn.number (lines_from l.text l.fn.at))
