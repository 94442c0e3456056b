use Rattle.std.proofs.Common.{◌∙◌, ap, ◌*◌, min}
use Rattle.dt_tree.proofs.Amounts.{times_capped}
use Rattle.dt_tree.proofs.count.times.Goals as goal

pub returns : goal.returns
returns c = λ whole is. c.min.ensures ∙ (ap (λ k. min (k * c.args.one) 18446744073709551616) c.from.ensures ∙ times_capped c.args.n whole c.args.one is)
