use Rattle.dt_ops.proofs.Lawful.{xor_gives_words, xor_associates}
use Rattle.dt_ops.proofs.law.XorLawLaw.holds.Goals as goal

pub returns-clause-words : goal.returns-clause-words
returns-clause-words c = xor_gives_words

pub returns-clause-associative : goal.returns-clause-associative
returns-clause-associative c = xor_associates
