-- What is taken from a session, and where it goes.
use Rattle.std.proofs.Common.{◌≡◌, ℕ, ◌+◌, ◌≤◌, ℤ, pos, true, false, List, Some, refl, sym, ap, ◌∙◌}
use Rattle.std.specs.Option.{is_none, IsSomeAnd}
use Rattle.std.specs.Prelude.{int_lt}
use Rattle.dt_reply.specs.declared.reply.Reply.TheVariants.{Packed}
use Rattle.dt_script.specs.declared.command.Command.TheVariants.{Take}
use Rattle.dt_sessions.specs.declared.session.Opened.{Opened}
use Rattle.dt_sessions.specs.declared.session.Session.{Session}
use Rattle.dt_sessions.specs.declared.session.Session.TheVariants.{Pack, Unpack}
use Rattle.dt_sessions.specs.Open.{is_packing, total_in, passed_in, next_in, CanSeek}
use Rattle.dt_machine.specs.declared.outcome.Change.TheVariants.{TakeBytes}
use Rattle.dt_machine.specs.Outcome.{CanChange, changed, with_seek}
use Rattle.dt_machine.specs.Refusal.{IsAllowed, IsReceiving}
use Rattle.dt_machine.specs.State.{State, session_of, buffer_of, with_taken, with_count}
use Rattle.dt_machine.specs.Step.{Performs, taken_by}
use Rattle.dt_machine.proofs.Rows.{allowed, contrary, some_and, and_some}

can_seek : (x : Session) (byte : ℕ) → is_packing x ≡ true → byte ≤ total_in x → CanSeek x byte
can_seek (Pack p) byte packs within = within
can_seek (Unpack u) byte packs within = cc

-- a session from which packed bytes are taken doesn't receive
sends : (o : Opened) → is_packing o.session ≡ true → ¬ IsReceiving o
sends o packs receives = let apart : true ≡ false = sym packs ∙ receives in cc

-- `take SESSION LENGTH`
module _ (s : State) (session : List ℕ) (len : ℤ) (o : Opened) (at : session_of s session ≡ Some o) (packs : is_packing o.session ≡ true) where
  pub take_allowed : int_lt len (pos 0) ≡ false → IsAllowed s (Take session len)
  take_allowed some =
      let gives : ¬ IsSomeAnd (session_of s session) IsReceiving = λ h. sends o packs (and_some (session_of s session) IsReceiving o at h) in
      allowed s (Take session len) (contrary (is_none (session_of s session)) (ap is_none at), (contrary (int_lt len (pos 0)) some, (gives, tt)))

  pub take_can : (byte count : ℕ) → byte ≤ total_in o.session → CanChange (TakeBytes session byte count) s
  take_can byte count within = some_and (session_of s session) (λ (x : Opened). CanSeek x.session byte) o at (can_seek o.session byte packs within)

  pub take_performs : (bytes : List ℕ) → buffer_of s o.buffer ≡ Some bytes
      → Performs (Take session len) s (Packed (next_in o.session bytes (taken_by o len)))
      (with_count (changed (TakeBytes session (passed_in o.session + taken_by o len) (taken_by o len)) s))
  take_performs bytes held =
      (o, bytes, at, held, refl, ap (λ found. with_count (with_taken (with_seek s session (passed_in o.session + taken_by o len) found) (taken_by o len))) at)
