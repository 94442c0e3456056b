use Rattle.std.proofs.Common.{◌≡◌, ◌++◌, flat_map, map, drop}
use Rattle.std.specs.Fmt.{signed_decimal}
use Rattle.dt_spelling.specs.Spelling.{ended}
use Rattle.dt_spelling.proofs.words.push_places.Given as goal

abbrev pub invariant-places : goal.invariant-places
invariant-places l = l.out.items ++ flat_map ended (map signed_decimal (drop l.place-index l.places)) ≡ l.fn.out.items ++ flat_map ended (map signed_decimal l.places)
