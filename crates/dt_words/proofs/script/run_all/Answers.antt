use Rattle.std.proofs.Common.{◌≡◌, ℕ, List, subst}
use Rattle.dt_machine.specs.Step.{Step}
use Rattle.dt_reply.specs.Reply.{Responds}
use Rattle.dt_words.specs.Script.{first_kept}
use Rattle.dt_words.proofs.Progressing.{begun, gone_on}
use Rattle.dt_words.proofs.script.run_all.Goals as goal

pub lines-init : goal.lines-init
lines-init c = rw (c.new-machine.ensures, c.new-refusal.ensures.items) (begun c.args.input.now)

pub lines-preserved : goal.lines-preserved
lines-preserved c =
    let reply = c.line.new.out.items in
    let Q : List ℕ → Type 0 = λ before. Responds (λ r. Step c.lines.machine c.first_line.result.0.now r c.line.new.self) c.in_ok-said.said before reply in
    let K : List ℕ → Type 0 = λ x. c.keep_first.new.refusal.items ≡ first_kept c.lines.accepted c.in_ok-said.said c.lines.refusal.items x in
    gone_on c.args.input.now c.lines.rest.now c.first_line.result.0.now c.first_line.result.1.now c.lines.machine c.line.new.self c.lines.refusal.items c.keep_first.new.refusal.items
    reply c.lines.accepted c.in_ok-said.said c.lines.invariant c.first_line.ensures.lines (subst Q c.clear.ensures.items c.in_ok-said.ensures.step) (subst K c.deref.ensures.value c.in_ok-keep_first.ensures)
