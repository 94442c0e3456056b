-- The outcome of a command that is allowed.
use Rattle.std.proofs.Common.{◌≡◌, ℕ, Bool, true, List, ◌++◌, Result, Ok, Err, inl, inr, refl, sym, subst, ◌∙◌}
use Rattle.std.specs.Prelude.{IfOk}
use Rattle.dt_reply.specs.declared.refusal.Refusal.{Refusal}
use Rattle.dt_reply.specs.Reply.{Gives, Responds, is_accepted, text_of}
use Rattle.dt_reply.specs.declared.reply.Reply.{Reply}
use Rattle.dt_reply.specs.declared.reply.Reply.TheVariants.{Done, Refused}
use Rattle.dt_script.specs.declared.command.Command.{Command}
use Rattle.dt_machine.specs.declared.outcome.Change.{Change}
use Rattle.dt_machine.specs.declared.outcome.Change.TheVariants.{Nothing}
use Rattle.dt_machine.specs.declared.outcome.Outcome.{Outcome}
use Rattle.dt_machine.specs.Outcome.{IsOutcome, CanChange, changed}
use Rattle.dt_machine.specs.Refusal.{IsAllowed, IsRefusedBy}
use Rattle.dt_machine.specs.State.{State, with_count}
use Rattle.dt_machine.specs.Step.{Obeys, Performs}

-- a reply with a change
pub outcome_of : (s : State) (command : Command) (reply : Reply) (change : Change) (o : Outcome) → IsAllowed s command → CanChange change s
    → Performs command s reply (with_count (changed change s)) → is_accepted reply ≡ true → o ≡ record { reply = reply; change = change } → IsOutcome s command o
outcome_of s command reply change o all can does good is =
    let made : IsOutcome s command (record { reply = reply; change = change }) = record { allowed = all; can_change = can; performs = does; accepted = good } in
    subst (λ o. IsOutcome s command o) (sym is) made

-- the answer to a question
pub told_outcome : (s : State) (command : Command) (reply : Reply) (o : Outcome) → IsAllowed s command → Performs command s reply (with_count s)
    → is_accepted reply ≡ true → o ≡ record { reply = reply; change = Nothing } → IsOutcome s command o
told_outcome s command reply o all does good is = outcome_of s command reply Nothing o all tt does good is

-- the change of a command that replies `ok`
pub done_outcome : (s : State) (command : Command) (change : Change) (o : Outcome) → IsAllowed s command → CanChange change s
    → Performs command s Done (with_count (changed change s)) → o ≡ record { reply = Done; change = change } → IsOutcome s command o
done_outcome s command change o all can does is = outcome_of s command Done change o all can does refl is

-- what holds of an answer
pub if_ok : {A E : Type 0} (r : Result A E) (P Q : A → Type 0) → IfOk r P → ((x : A) → P x → Q x) → IfOk r Q
if_ok (Ok x) P Q holds more = more x holds
if_ok (Err e) P Q holds more = tt

-- a command that is allowed was performed
pub performed : (s t : State) (command : Command) (o : Outcome) (accepted : Bool) (old new : List ℕ) → IsOutcome s command o
    → (accepted ≡ true) × (t ≡ with_count (changed o.change s)) × (new ≡ old ++ text_of o.reply) → Responds (λ reply. Obeys command s reply t) accepted old new
performed s t command o accepted old new is (ok, same, text) = (
  o.reply,
  inr (is.allowed, subst (λ t. Performs command s o.reply t) (sym same) is.performs),
  record { text = text; answer = ok ∙ sym is.accepted },
)

-- a command that is refused changed nothing
pub withheld : (s t : State) (command : Command) (refusal : Refusal) (accepted : Bool) (old new : List ℕ) → IsRefusedBy s command refusal → t ≡ s
    → Gives (Refused refusal) accepted old new → Responds (λ reply. Obeys command s reply t) accepted old new
withheld s t command refusal accepted old new is same gives = (Refused refusal, inl (refusal, is, refl, same), gives)
