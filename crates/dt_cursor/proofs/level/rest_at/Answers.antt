use Rattle.std.proofs.Common.{Some, ap, ◌∙◌}
use Rattle.dt_cursor.proofs.Options.{if_some}
use Rattle.dt_cursor.proofs.level.rest_at.Goals as goal

pub returns-in-Loop-clause-rest : goal.returns-in-Loop-clause-rest
returns-in-Loop-clause-rest c =
    if_some c.turns_rest.result _ _ (λ r is kind frames es read stand.
    is c.args.program.now c.in-Loop.sizes c.in-Loop.next kind frames es (c.at.ensures ∙ ap Some c.in-Loop.is) read stand) c.turns_rest.ensures.rest

pub returns-in-Each-clause-rest : goal.returns-in-Each-clause-rest
returns-in-Each-clause-rest c =
    if_some c.copies_rest.result _ _ (λ r is kind frames es read stand.
    is c.in-Each.sizes c.in-Each.next kind frames es (c.at.ensures ∙ ap Some c.in-Each.is) read stand) c.copies_rest.ensures.rest
