use Rattle.dt_ops.proofs.Lawful.{or_gives_words, or_associates}
use Rattle.dt_ops.proofs.law.OrLawLaw.holds.Goals as goal

pub returns-clause-words : goal.returns-clause-words
returns-clause-words c = or_gives_words

pub returns-clause-associative : goal.returns-clause-associative
returns-clause-associative c = or_associates
