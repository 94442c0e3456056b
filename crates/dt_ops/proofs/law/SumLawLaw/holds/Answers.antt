use Rattle.dt_ops.proofs.Lawful.{sum_gives_words, sum_associates}
use Rattle.dt_ops.proofs.law.SumLawLaw.holds.Goals as goal

pub returns-clause-words : goal.returns-clause-words
returns-clause-words c = sum_gives_words

pub returns-clause-associative : goal.returns-clause-associative
returns-clause-associative c = sum_associates
