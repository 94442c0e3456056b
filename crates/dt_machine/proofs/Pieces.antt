-- A piece that is given.
use Rattle.std.proofs.Common.{◌≡◌, ℕ, true, List, ◌++◌, Option, Some, None, inr, refl, ap, ◌∙◌}
use Rattle.std.specs.Option.{is_none}
use Rattle.dt_reply.specs.declared.receipt.Receipt.{Receipt}
use Rattle.dt_reply.specs.declared.reply.Reply.TheVariants.{Given}
use Rattle.dt_reply.specs.Reply.{Responds, text_of}
use Rattle.dt_script.specs.declared.command.Command.TheVariants.{Give}
use Rattle.dt_sessions.specs.declared.session.Opened.{Opened}
use Rattle.dt_sessions.specs.Open.{receipt_in}
use Rattle.dt_machine.specs.Operation.{giving_row}
use Rattle.dt_machine.specs.Row.{IsClear}
use Rattle.dt_machine.specs.State.{State, session_of, buffer_of, with_count}
use Rattle.dt_machine.specs.Step.{Obeys, with_piece}
use Rattle.dt_machine.proofs.Rows.{allowed}

some_found : (o : Option Opened) → (¬ (is_none o ≡ true)) → (x : Opened) × (o ≡ Some x)
some_found None not = absurd (not refl)
some_found (Some x) not = (x, refl)

-- `give SESSION HEX`, where nothing is said against it
pub give_obeyed : (s t : State) (session piece : List ℕ) (receipt : Receipt) (old mid new : List ℕ) → IsClear (giving_row s session piece)
    → ((o : Opened) → session_of s session ≡ Some o
    → (bytes : List ℕ) × (buffer_of s o.buffer ≡ Some bytes) × (t ≡ with_count (with_piece s session o bytes piece)) × (receipt ≡ receipt_in o.session piece))
    → mid ≡ old → new ≡ mid ++ text_of (Given receipt) → Responds (λ reply. Obeys (Give session piece) s reply t) true old new
give_obeyed s t session piece receipt old mid new clear told same text =
    let (o, at) = some_found (session_of s session) clear.0 in
    let (bytes, held, is, came) = told o at in (
      Given receipt,
      inr (allowed s (Give session piece) clear, (o, bytes, at, held, ap Given came, is)),
      record { text = text ∙ ap (λ l. l ++ text_of (Given receipt)) same; answer = refl },
    )
