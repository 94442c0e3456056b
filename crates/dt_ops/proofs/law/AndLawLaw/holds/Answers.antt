use Rattle.dt_ops.proofs.Lawful.{and_gives_words, and_associates}
use Rattle.dt_ops.proofs.law.AndLawLaw.holds.Goals as goal

pub returns-clause-words : goal.returns-clause-words
returns-clause-words c = and_gives_words

pub returns-clause-associative : goal.returns-clause-associative
returns-clause-associative c = and_associates
