use Rattle.dt_ops.proofs.Lawful.{min_gives_words, min_associates}
use Rattle.dt_ops.proofs.law.MinLawLaw.holds.Goals as goal

pub returns-clause-words : goal.returns-clause-words
returns-clause-words c = min_gives_words

pub returns-clause-associative : goal.returns-clause-associative
returns-clause-associative c = min_associates
