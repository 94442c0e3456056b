-- The answers to a script: the replies to its lines, one after another.
use Rattle.std.specs.Prelude.{◌≡◌, ℕ, Bool, List, [], ◌∷◌}
use Rattle.std.specs.List.{flat_map, list_all}
use Rattle.dt_reply.specs.Reply.{text_of, is_accepted}
use Rattle.dt_reply.specs.declared.reply.Reply.{Reply}
use Rattle.dt_script.specs.Lines.{script_lines}
use Rattle.dt_machine.specs.State.{State, first_state}
use Rattle.dt_machine.specs.Step.{Step}

-- steps one after another, from a state to a state
abbrev pub Run : State → List (List ℕ) → List Reply → State → Type 0
Run s [] [] t = t ≡ s
Run s (line ∷ lines) (reply ∷ replies) t = (mid : State) × Step s line reply mid × Run mid lines replies t
Run s [] (reply ∷ replies) t = ⊥
Run s (line ∷ lines) [] t = ⊥

-- what replies write, joined
abbrev pub text_of_all : List Reply → List ℕ
text_of_all replies = flat_map text_of replies

abbrev pub are_accepted : List Reply → Bool
are_accepted replies = list_all is_accepted replies

-- a text answers an input: it is the replies of a run of its lines from the first state, of which none is a refusal
-- where it is said to be accepted, and else some is
pub record Answers (input text : List ℕ) (accepted : Bool) : Type 0 where
  pub replies : List Reply
  pub last : State
  pub run : Run first_state (script_lines input) replies last
  pub written : text ≡ text_of_all replies
  pub told : accepted ≡ are_accepted replies
