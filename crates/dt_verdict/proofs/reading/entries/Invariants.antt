use Rattle.std.proofs.Common.{◌≡◌, ◌-◌}
use Rattle.dt_spelling.specs.Reading.{with_front}
use Rattle.dt_verdict.specs.Cut.{lines_from}
use Rattle.dt_verdict.specs.Lines.{entries_at}
use Rattle.dt_verdict.proofs.reading.entries.Given as goal

abbrev pub invariant-entries : goal.invariant-entries
invariant-entries l = entries_at l.fn.number (lines_from l.text l.fn.at) ≡ with_front l.entries.items (entries_at (l.fn.number - l.counter) (lines_from l.text l.next))
