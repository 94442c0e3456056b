use Rattle.std.proofs.Common.{◌≡◌, true, ◌++◌}
use Rattle.dt_reply.specs.Reply.{Gives, Responds, text_of}
use Rattle.dt_reply.specs.declared.reply.Reply.TheVariants.{Refused}
use Rattle.dt_machine.specs.Outcome.{changed}
use Rattle.dt_machine.specs.State.{with_count}
use Rattle.dt_machine.specs.Step.{Obeys}
use Rattle.dt_machine.proofs.Outcomes.{if_ok, performed, withheld}
use Rattle.dt_machine.proofs.machine.Machine.step.Goals as goal

pub returns-in-Ok-clause-ok : goal.returns-in-Ok-clause-ok
returns-in-Ok-clause-ok c =
    let s = c.args.self.now in
    let old = c.args.out.now.items in
    let new = c.perform.new.out.items in
    let o = c.in-Ok.outcome in
    if_ok c.perform.result (λ accepted. (accepted ≡ true) × (c.perform.new.self ≡ with_count (changed o.change s)) × (new ≡ old ++ text_of o.reply))
    (λ accepted. Responds (λ reply. Obeys c.args.command.now s reply c.perform.new.self) accepted old new) (rw c.outcome.ensures.same at c.perform.ensures.ok)
    (λ accepted h. performed s c.perform.new.self c.args.command.now o accepted old new c.in-Ok.ensures.outcome h)

pub returns-in-Err-Refused-clause-ok : goal.returns-in-Err-Refused-clause-ok
returns-in-Err-Refused-clause-ok c =
    let s = c.args.self.now in
    let old = c.args.out.now.items in
    let new = c.refuse.new.out.items in
    let refusal = c.in-Err-Refused.refusal in
    if_ok c.refuse.result (λ accepted. Gives (Refused refusal) accepted old new)
    (λ accepted. Responds (λ reply. Obeys c.args.command.now s reply c.outcome.new.self) accepted old new) c.refuse.ensures.ok
    (λ accepted h. withheld s c.outcome.new.self c.args.command.now refusal accepted old new
    (rw c.in-Err-Refused.field-0-is at c.in-Err-Refused.ensures.outcome) c.outcome.ensures.same h)
