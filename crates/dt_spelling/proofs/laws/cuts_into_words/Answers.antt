use Rattle.dt_spelling.proofs.Cuts.{cuts_into_words}
use Rattle.dt_spelling.proofs.laws.cuts_into_words.Goals as goal

pub returns : goal.returns
returns c = cuts_into_words
