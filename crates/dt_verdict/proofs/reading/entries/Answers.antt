use Rattle.std.proofs.Common.{◌+◌, ◌-◌, sym, ap, ◌∙◌, arith}
use Rattle.dt_spelling.specs.Reading.{with_front}
use Rattle.dt_verdict.specs.Cut.{lines_from}
use Rattle.dt_verdict.specs.Lines.{entries_at}
use Rattle.dt_verdict.proofs.Entries.{entries_step, entries_stopped}
use Rattle.dt_verdict.proofs.reading.entries.Goals as goal

pub entries-preserved : goal.entries-preserved
entries-preserved c =
    let step = entries_step c.entries.entries.items (c.args.number - c.entries.counter) (c.args.number - (c.entries.counter + 1)) (lines_from c.args.text.now c.entries.next) (lines_from c.args.text.now c.in-Ok.found.1) c.in-Ok.found.0 (omega arith) c.in-Ok.ensures in
    c.entries.invariant ∙ (step ∙ ap (λ es. with_front es (entries_at (c.args.number - (c.entries.counter + 1)) (lines_from c.args.text.now c.in-Ok.found.1))) (sym c.in_ok-push.ensures.items))

pub returns-in-Err : goal.returns-in-Err
returns-in-Err c =
    rw c.entries.invariant
    (entries_stopped c.args.text.now c.in-Err.stop c.entries.entries.items (c.args.number - c.entries.counter) (c.args.number - (c.entries.counter + 1)) (lines_from c.args.text.now c.entries.next) (omega arith) c.in-Err.ensures)
