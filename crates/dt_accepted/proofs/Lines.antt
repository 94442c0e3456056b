-- Each line of a script means a command.
use Rattle.std.proofs.Common.{ℕ, zero, suc, ◌+◌, ◌-◌, ◌≤◌, ◌<◌, min, List, [], ◌∷◌, ◌++◌, codes, refl, sym, subst, ◌∙◌, append_assoc, append-nil, arith}
use Rattle.std.specs.List.{AllByRecursion}
use Rattle.dt_gen.specs.Draws.{draw}
use Rattle.dt_gen.specs.Script.{line, round_at, rows_len, packed_len, vector_line, rows_line, type_lines, buffer_lines, session_line, session_lines, turn_lines, turns_at, end_lines, round_text_at, rounds_at, big_at, script_at}
use Rattle.dt_script.specs.declared.command.Command.{Command}
use Rattle.dt_script.specs.Lines.{script_lines}
use Rattle.dt_accepted.specs.Accepted.{MeansCommand, EveryLineIsACommand}
use Rattle.dt_accepted.proofs.Commands.{Means, vector_means, rows_means, commit_means, counted_means, zeros_means, pack_means, unpack_means, take_means, give_means, close_means, normalise_means}
use Rattle.dt_accepted.proofs.Drawn.{large_means, large_normalise_means, large_text}
use Rattle.dt_accepted.proofs.Rounds.{Round, IsRound, round_is, rows_small, drawn_below}
use Rattle.dt_accepted.proofs.Words.{line_first, line_means}

-- each line of a text means a command
abbrev AreCommands : List ℕ → Type 0
AreCommands text = AllByRecursion MeansCommand (script_lines text)

one_more : (first : List ℕ) (words : List (List ℕ)) (command : Command) (rest : List ℕ) → Means first words command → AreCommands rest
    → AreCommands (line first words ++ rest)
one_more first words command rest means all =
    subst (AllByRecursion MeansCommand) (sym (line_first first words rest means.spelled))
    ((command, line_means first words command means.spelled means.plain means.read), all)

-- of a turn, and of turns
module _ (r : ℕ) (few : r ≤ 99) where
  turn_commands : (asked at len : ℕ) (rest : List ℕ) → asked ≤ 97 → 0 < len → AreCommands rest → AreCommands (turn_lines r asked at len ++ rest)
  unfolding turn_lines
  turn_commands asked at len rest small some all =
      subst AreCommands (sym (append_assoc (line (codes "take") _) (line (codes "give") _) rest))
      (one_more (codes "take") _ _ (line (codes "give") _ ++ rest) (take_means r few asked (omega arith))
      (one_more (codes "give") _ _ rest (give_means r few at len some) all))

  turns_commands : (turns at left word : ℕ) (rest : List ℕ) → AreCommands rest → AreCommands ((turns_at turns r at left word).0 ++ rest)
  unfolding turns_at
  turns_commands zero at left word rest all = all
  turns_commands (suc turns) at zero word rest all = all
  turns_commands (suc turns) at (suc left) word rest all =
      let asked = 1 + (draw 97 word).0 in
      let low = drawn_below 97 word (omega arith) in
      let len = min asked (suc left) in
      let later = (turns_at turns r (at + len) (suc left - len) (draw 97 word).1).0 in
      subst AreCommands (sym (append_assoc (turn_lines r asked at len) later rest))
      (turn_commands asked at len (later ++ rest) (omega (arith, low)) (omega arith)
      (turns_commands turns (at + len) (suc left - len) (draw 97 word).1 rest all))

  -- of the other lines of a round
  types_commands : (d : Round) (rest : List ℕ) → IsRound d → AreCommands rest → AreCommands (type_lines r d ++ rest)
  unfolding type_lines vector_line rows_line
  types_commands d rest is all =
      let a = vector_line r d in
      let b = rows_line r d in
      let c = line (codes "commit") _ in
      subst AreCommands (sym (append_assoc (a ++ b) c rest ∙ append_assoc a b (c ++ rest)))
      (one_more (codes "type") _ _ (b ++ (c ++ rest)) (vector_means r few d is)
      (one_more (codes "type") _ _ (c ++ rest) (rows_means r few d is)
      (one_more (codes "commit") _ _ rest (commit_means r few) all)))

  buffers_commands : (d : Round) (rest : List ℕ) → IsRound d → AreCommands rest → AreCommands (buffer_lines r d ++ rest)
  unfolding buffer_lines
  buffers_commands d rest is all =
      let small = rows_small d is in
      let b = line (codes "buffer") _ in
      subst AreCommands (sym (append_assoc (line (codes "buffer") _) b rest))
      (one_more (codes "buffer") _ _ (b ++ rest) (counted_means r few (rows_len d) (omega (arith, small)))
      (one_more (codes "buffer") _ _ rest (zeros_means r few (rows_len d) (omega (arith, small))) all))

  sessions_commands : (rest : List ℕ) → AreCommands rest → AreCommands (session_lines r ++ rest)
  unfolding session_lines session_line
  sessions_commands rest all =
      let b = session_line (codes "unpack") (codes "u") (codes "z") r in
      subst AreCommands (sym (append_assoc (session_line (codes "pack") (codes "p") (codes "b") r) b rest))
      (one_more (codes "pack") _ _ (b ++ rest) (pack_means r few) (one_more (codes "unpack") _ _ rest (unpack_means r few) all))

  ends_commands : (rest : List ℕ) → AreCommands rest → AreCommands (end_lines r ++ rest)
  unfolding end_lines
  ends_commands rest all =
      let a = line (codes "close") _ in
      let b = line (codes "close") _ in
      let c = line (codes "normalise") _ in
      subst AreCommands (sym (append_assoc (a ++ b) c rest ∙ append_assoc a b (c ++ rest)))
      (one_more (codes "close") _ _ (b ++ (c ++ rest)) (close_means r few 112 refl)
      (one_more (codes "close") _ _ (c ++ rest) (close_means r few 117 refl)
      (one_more (codes "normalise") _ _ rest (normalise_means r few) all)))

  -- of a round
  round_commands : (word : ℕ) (rest : List ℕ) → AreCommands rest → AreCommands ((round_text_at r word).0 ++ rest)
  unfolding round_text_at
  round_commands word rest all =
      let d = (round_at word).0 in
      let is = round_is word in
      let a = type_lines r d in
      let b = buffer_lines r d in
      let c = session_lines r in
      let e = (turns_at (packed_len d) r 0 (packed_len d) (round_at word).1).0 in
      let f = end_lines r in
      let parts =
      append_assoc (((a ++ b) ++ c) ++ e) f rest
      ∙ (append_assoc ((a ++ b) ++ c) e (f ++ rest) ∙ (append_assoc (a ++ b) c (e ++ (f ++ rest)) ∙ append_assoc a b (c ++ (e ++ (f ++ rest))))) in
      subst AreCommands (sym parts)
      (types_commands d (b ++ (c ++ (e ++ (f ++ rest)))) is
      (buffers_commands d (c ++ (e ++ (f ++ rest))) is
      (sessions_commands (e ++ (f ++ rest))
      (turns_commands (packed_len d) 0 (packed_len d) (round_at word).1 (f ++ rest) (ends_commands rest all)))))

-- of all rounds
rounds_commands : (n r word : ℕ) (rest : List ℕ) → r + n ≤ 100 → AreCommands rest → AreCommands ((rounds_at n r word).0 ++ rest)
unfolding rounds_at
rounds_commands zero r word rest most all = all
rounds_commands (suc n) r word rest most all =
    let text = (round_text_at r word).0 in
    let later = (rounds_at n (suc r) (round_text_at r word).1).0 in
    subst AreCommands (sym (append_assoc text later rest))
    (round_commands r (omega arith) word (later ++ rest) (rounds_commands n (suc r) (round_text_at r word).1 rest (omega arith) all))

-- of the large type
large_commands : (word : ℕ) → AreCommands (big_at word).0
large_commands word =
    let last = line (codes "normalise") (codes "big" ∷ []) in
    subst AreCommands (sym (large_text word))
    (one_more (codes "type") _ _ last (large_means 1024 word (omega arith))
    (subst AreCommands (append-nil last) (one_more (codes "normalise") _ _ [] large_normalise_means tt)))

pub every_line_is_a_command : EveryLineIsACommand
unfolding script_at
every_line_is_a_command n = rounds_commands 100 0 n (big_at (rounds_at 100 0 n).1).0 (omega arith) (large_commands (rounds_at 100 0 n).1)
