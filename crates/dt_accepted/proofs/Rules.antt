-- A text whose lines are obeyed one after another, none of them refused: rules by which it goes on, a line at a time.
use Rattle.std.proofs.Common.{◌≡◌, ℕ, true, ◌&&◌, List, [], ◌∷◌, ◌++◌, inl, inr, refl, sym, ap, subst, ◌∙◌}
use Rattle.dt_gen.specs.Script.{line}
use Rattle.dt_machine.specs.Answers.{Run, are_accepted}
use Rattle.dt_machine.specs.Pieces.{IsSound}
use Rattle.dt_machine.specs.Refusal.{IsAllowed}
use Rattle.dt_machine.specs.State.{State}
use Rattle.dt_machine.specs.Step.{Performs, Obeys, Meets, Step}
use Rattle.dt_machine.proofs.Sound.{sound_is_kept}
use Rattle.dt_reply.specs.declared.reply.Reply.{Reply}
use Rattle.dt_reply.specs.Reply.{is_accepted}
use Rattle.dt_script.specs.declared.command.Command.{Command}
use Rattle.dt_script.specs.Line.{Does, IsLine}
use Rattle.dt_script.specs.Lines.{script_lines}
use Rattle.dt_script.proofs.LineLemmas.{one_meaning}
use Rattle.dt_accepted.proofs.Commands.{Means}
use Rattle.dt_accepted.proofs.Words.{joined, line_first, line_means}

-- from a state no line of a text is refused, however its lines are obeyed
abbrev AreAccepted : State → List (List ℕ) → Type 0
AreAccepted s lines = (t : State) (replies : List Reply) → Run s lines replies t → are_accepted replies ≡ true

-- and nothing refuses the command of a line, whatever lines before it were obeyed
abbrev AreAllowed : State → List (List ℕ) → Type 0
AreAllowed s lines =
    (front rest : List (List ℕ)) (l : List ℕ) (replies : List Reply) (t : State) → lines ≡ front ++ l ∷ rest → Run s front replies t
    → (command : Command) × IsLine l (Does command) × IsAllowed t command

abbrev pub Good : State → List ℕ → Type 0
Good s text = AreAccepted s (script_lines text) × AreAllowed s (script_lines text)

-- nothing is left
pub good_end : (s : State) → Good s []
good_end s = (accepted, λ front rest l replies t same run. absurd (none front rest l same))
  where
    accepted : AreAccepted s []
    accepted t [] run = refl
    accepted t (reply ∷ replies) run = absurd run

    none : (front rest : List (List ℕ)) (l : List ℕ) → ¬ ([] ≡ front ++ l ∷ rest)
    none [] rest l same = cc
    none (f ∷ front) rest l same = cc

-- a command that is allowed is performed
performed : (s t : State) (l : List ℕ) (command : Command) (reply : Reply) → IsLine l (Does command) → IsAllowed s command → Step s l reply t
    → Performs command s reply t
performed s t l command reply is may (meaning, means, meets) = by (subst (λ m. Meets m s reply t) (one_meaning l meaning (Does command) means is) meets)
  where
    by : Obeys command s reply t → Performs command s reply t
    by (inl refused) = absurd (may refused.0 refused.1.0)
    by (inr does) = does.1

-- a line that means a command that is allowed, and what is left then
module _ (s : State) (first : List ℕ) (words : List (List ℕ)) (command : Command) (rest : List ℕ) (means : Means first words command) (sound : IsSound s)
    (may : IsAllowed s command)
    (next : (t : State) (reply : Reply) → IsSound t → Performs command s reply t → (is_accepted reply ≡ true) × Good t rest) where
  meaning : IsLine (joined first words) (Does command)
  meaning = line_means first words command means.spelled means.plain means.read

  then : (t : State) (reply : Reply) → Step s (joined first words) reply t → (is_accepted reply ≡ true) × Good t rest
  then t reply step =
      next t reply (sound_is_kept.1 s t (joined first words) reply sound step) (performed s t (joined first words) command reply meaning may step)

  accepted_behind : AreAccepted s (joined first words ∷ script_lines rest)
  accepted_behind t [] run = absurd run
  accepted_behind t (reply ∷ replies) (mid, step, run) =
      let behind = then mid reply step in
      ap (λ b. b && are_accepted replies) behind.0 ∙ behind.1.0 t replies run

  allowed_behind : AreAllowed s (joined first words ∷ script_lines rest)
  allowed_behind [] later l (reply ∷ replies) t same run = absurd run
  allowed_behind [] later l [] t same run =
      let here : joined first words ≡ l = cc in
      (command, subst (λ l. IsLine l (Does command)) here meaning, subst (λ t. IsAllowed t command) (sym run) may)
  allowed_behind (f ∷ front) later l [] t same run = absurd run
  allowed_behind (f ∷ front) later l (reply ∷ replies) t same (mid, step, run) =
      let here : f ≡ joined first words = cc in
      let behind : script_lines rest ≡ front ++ l ∷ later = cc in
      (then mid reply (subst (λ f. Step s f reply mid) here step)).1.1 front later l replies t behind run

  pub good_line : Good s (line first words ++ rest)
  good_line =
      let same = sym (line_first first words rest means.spelled) in
      (subst (AreAccepted s) same accepted_behind, subst (AreAllowed s) same allowed_behind)
