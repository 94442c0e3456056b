use Rattle.dt_ops.proofs.Lawful.{max_gives_words, max_associates}
use Rattle.dt_ops.proofs.law.MaxLawLaw.holds.Goals as goal

pub returns-clause-words : goal.returns-clause-words
returns-clause-words c = max_gives_words

pub returns-clause-associative : goal.returns-clause-associative
returns-clause-associative c = max_associates
