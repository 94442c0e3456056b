use Rattle.std.proofs.Common.{rules, refl, subst}
use Rattle.std.specs.Prelude.{MatchResult}
use Rattle.dt_numbered.specs.Counts.{AreElements, IsUncounted}
use Rattle.dt_c.proofs.Calling.{calls_some}
use Rattle.dt_c.proofs.counts.dt_c_get_elements.Goals as goal

pub returns : goal.returns
returns c =
    let s = c.deref.result.now in
    let v = c.received_elements-answer in
    calls_some _ _ _ _ _ s s v.result (search rules) (search rules) (search rules)
    (refl, subst (λ rep. MatchResult v.result (AreElements s c.args.datatype rep c.args.bytes) (IsUncounted s c.args.datatype c.args.bytes)) c.rep_of.ensures v.ensures, c.put.ensures.value)
