-- A script that was run without its replies being written.
use Rattle.std.specs.Prelude.{◌≡◌, ℕ, Bool, ◌&&◌, not, List, [], ◌∷◌, ◌++◌, Option, Some, None, if◌then◌else◌}
use Rattle.dt_machine.specs.Answers.{Run, are_accepted}
use Rattle.dt_machine.specs.State.{State, first_state}
use Rattle.dt_reply.specs.declared.reply.Reply.{Reply}
use Rattle.dt_reply.specs.Reply.{text_of, is_accepted}
use Rattle.dt_script.specs.Lines.{script_lines}

-- the first refusal among some replies
abbrev pub first_refused : List Reply → Option Reply
first_refused [] = None
first_refused (reply ∷ replies) = if is_accepted reply then first_refused replies else Some reply

-- what it writes, and nothing where there is none
abbrev pub text_if_any : Option Reply → List ℕ
text_if_any None = []
text_if_any (Some reply) = text_of reply

-- what is kept of a text and one more reply: the reply is added where it is a refusal, and there was none before
abbrev pub first_kept : Bool → Bool → List ℕ → List ℕ → List ℕ
first_kept accepted said text reply = if accepted && not said then text ++ reply else text

-- how far a script has been run: the lines before the rest led from the first state to this one, with this first refusal, or with none
pub record Progress (input rest : List ℕ) (last : State) (refusal : List ℕ) (accepted : Bool) : Type 0 where
  pub lines : List (List ℕ)
  pub replies : List Reply
  pub split : script_lines input ≡ lines ++ script_lines rest
  pub run : Run first_state lines replies last
  pub told : accepted ≡ are_accepted replies
  pub refused : refusal ≡ text_if_any (first_refused replies)

-- the lines of a script led from the first state to this one, with this first refusal, or with none
pub record HasRun (input : List ℕ) (last : State) (refusal : List ℕ) (accepted : Bool) : Type 0 where
  pub replies : List Reply
  pub run : Run first_state (script_lines input) replies last
  pub told : accepted ≡ are_accepted replies
  pub refused : refusal ≡ text_if_any (first_refused replies)
