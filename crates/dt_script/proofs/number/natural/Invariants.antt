use Rattle.std.proofs.Common.{◌≡◌, take, min, true}
use Rattle.std.specs.List.{list_all}
use Rattle.dt_script.specs.declared.number.TheConstants.{COUNTED}
use Rattle.dt_script.specs.Name.{is_digit}
use Rattle.dt_script.specs.Number.{number_of}
use Rattle.dt_script.proofs.number.natural.Given as goal

-- all are digits up to here, and this is the number that they spell up to the limit
abbrev pub invariant-loop-b : goal.invariant-loop-b
invariant-loop-b l =
    (list_all is_digit (take l.b-index l.word) ≡ true) × (l.number ≡ min (number_of (take l.b-index l.word)) COUNTED)
