use Rattle.dt_verdict.proofs.verdict.shown.Goals as goal

pub returns-in-Ok-judge : goal.returns-in-Ok-judge
returns-in-Ok-judge c =
    let text = c.in-Ok.ensures in
    let judged = c.in-Ok-judge.ensures in
    record { writable = text.0; holds = judged.0; written = text.1 }
