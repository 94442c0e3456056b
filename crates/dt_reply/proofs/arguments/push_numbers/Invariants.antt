use Rattle.std.proofs.Common.{◌≡◌, ◌++◌, map, flat_map, take}
use Rattle.std.specs.Fmt.{signed_decimal}
use Rattle.dt_reply.specs.Reply.{spaced}
use Rattle.dt_reply.proofs.arguments.push_numbers.Given as goal

abbrev pub invariant-numbers : goal.invariant-numbers
invariant-numbers l = l.out.items ≡ l.initial.out.items ++ flat_map spaced (map signed_decimal (take l.number-index l.numbers))
