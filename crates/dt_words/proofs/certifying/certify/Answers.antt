use Rattle.std.proofs.Common.{true, false, subst}
use Rattle.dt_words.specs.Script.{HasRun}
use Rattle.dt_words.proofs.Progressing.{certified_by_refusal, certified_behind}
use Rattle.dt_words.proofs.certifying.certify.Goals as goal

pub returns-then-not-ran : goal.returns-then-not-ran
returns-then-not-ran c =
    let ran = c.in_ok-ran.ran in
    certified_by_refusal c.args.input.now c.args.name.now ran.machine ran.refusal.items
    (subst (HasRun c.args.input.now ran.machine ran.refusal.items) c.if-not-ran.true c.in_ok-ran.ensures)

pub returns-in-Ok : goal.returns-in-Ok
returns-in-Ok c =
    let ran = c.in_ok-ran.ran in
    certified_behind c.args.input.now c.args.name.now c.in-Ok.text.items ran.machine ran.refusal.items true
    (subst (HasRun c.args.input.now ran.machine ran.refusal.items) c.if-not-ran.false c.in_ok-ran.ensures) c.in-Ok.ensures

pub returns-in-Err-Refused : goal.returns-in-Err-Refused
returns-in-Err-Refused c =
    let ran = c.in_ok-ran.ran in
    certified_behind c.args.input.now c.args.name.now c.in_ok-text-in-Err-Refused.text.items ran.machine ran.refusal.items false
    (subst (HasRun c.args.input.now ran.machine ran.refusal.items) c.if-not-ran.false c.in_ok-ran.ensures)
    (c.in-Err-Refused.refusal, (rw c.in-Err-Refused.field-0-is at c.in-Err-Refused.ensures), c.in_ok-text-in-Err-Refused.ensures)
