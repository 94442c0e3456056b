use Rattle.std.proofs.Common.{◌≡◌, ◌-◌}
use Rattle.dt_spelling.specs.Reading.{places_at, with_front, words_from}
use Rattle.dt_spelling.proofs.reading.places.Given as goal

abbrev pub invariant-places : goal.invariant-places
invariant-places l = places_at l.fn.number (words_from l.text l.fn.at) ≡ with_front l.places (places_at (l.fn.number - l.counter) (words_from l.text l.next))
