use Rattle.dt_ops.proofs.Lawful.{prod_gives_words, prod_associates}
use Rattle.dt_ops.proofs.law.ProdLawLaw.holds.Goals as goal

pub returns-clause-words : goal.returns-clause-words
returns-clause-words c = prod_gives_words

pub returns-clause-associative : goal.returns-clause-associative
returns-clause-associative c = prod_associates
