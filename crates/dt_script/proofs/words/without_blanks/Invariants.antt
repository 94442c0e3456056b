use Rattle.std.proofs.Common.{◌≡◌, length}
use Rattle.dt_script.specs.Words.{words_of}
use Rattle.dt_script.proofs.words.without_blanks.Given as goal

-- no word is passed over
abbrev pub invariant-blanks : goal.invariant-blanks
invariant-blanks l = words_of l.rest ≡ words_of l.line

abbrev pub decreases-blanks : goal.decreases-blanks
decreases-blanks l = length l.rest
