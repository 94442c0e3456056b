use Rattle.std.proofs.Common.{Some, ap, subst, ◌∙◌}
use Rattle.dt_cursor.specs.Frames.{IsHalfRun}
use Rattle.dt_cursor.proofs.NextRounds.{half_each, half_loop, half_read, half_seq}
use Rattle.dt_cursor.proofs.Options.{if_none, if_some}
use Rattle.dt_cursor.proofs.onward.next_round.Goals as goal

pub unreachable-requires : goal.unreachable-requires
unreachable-requires c =
    let r = c.requires in
    half_read c.args.program.now r.0 c.args.frame r.1 r.2 r.3 c.at.result c.at.ensures c.in_default.not-Loop c.in_default.not-Each c.in_default.not-Seq

pub returns-in-Loop-clause-some : goal.returns-in-Loop-clause-some
returns-in-Loop-clause-some c =
    if_some c.next_turn.result _ _ (λ n is body levels later half.
    let there = half_loop c.args.program.now levels c.args.frame body later half c.in-Loop.turns c.in-Loop.sizes c.in-Loop.next (c.at.ensures ∙ ap Some c.in-Loop.is) in
    is c.args.program.now there.0 levels later (subst (λ b. IsHalfRun c.args.program.now levels c.args.frame b later) there.1 half)) c.next_turn.ensures.some

pub returns-in-Loop-clause-none : goal.returns-in-Loop-clause-none
returns-in-Loop-clause-none c =
    if_none c.next_turn.result _ _ (λ is body levels later half.
    let there = half_loop c.args.program.now levels c.args.frame body later half c.in-Loop.turns c.in-Loop.sizes c.in-Loop.next (c.at.ensures ∙ ap Some c.in-Loop.is) in
    is c.args.program.now there.0 levels later (subst (λ b. IsHalfRun c.args.program.now levels c.args.frame b later) there.1 half)) c.next_turn.ensures.none

pub returns-in-Each-clause-some : goal.returns-in-Each-clause-some
returns-in-Each-clause-some c =
    if_some c.next_copy.result _ _ (λ n is body levels later half.
    let there = half_each c.args.program.now levels c.args.frame body later half c.in-Each.spots c.in-Each.sizes c.in-Each.next (c.at.ensures ∙ ap Some c.in-Each.is) in
    is there.0 there.1 there.3 levels later (subst (λ b. IsHalfRun c.args.program.now levels c.args.frame b later) there.2 half)) c.next_copy.ensures.some

pub returns-in-Each-clause-none : goal.returns-in-Each-clause-none
returns-in-Each-clause-none c =
    if_none c.next_copy.result _ _ (λ is body levels later half.
    let there = half_each c.args.program.now levels c.args.frame body later half c.in-Each.spots c.in-Each.sizes c.in-Each.next (c.at.ensures ∙ ap Some c.in-Each.is) in
    is there.0 there.1 there.3 levels later (subst (λ b. IsHalfRun c.args.program.now levels c.args.frame b later) there.2 half)) c.next_copy.ensures.none

pub returns-in-Seq-clause-some : goal.returns-in-Seq-clause-some
returns-in-Seq-clause-some c =
    if_some c.next_part.result _ _ (λ n is body levels later half.
    let there = half_seq c.args.program.now levels c.args.frame body later half c.in-Seq.parts c.in-Seq.next (c.at.ensures ∙ ap Some c.in-Seq.is) in
    is there.0 levels later (subst (λ b. IsHalfRun c.args.program.now levels c.args.frame b later) there.1 half)) c.next_part.ensures.some

pub returns-in-Seq-clause-none : goal.returns-in-Seq-clause-none
returns-in-Seq-clause-none c =
    if_none c.next_part.result _ _ (λ is body levels later half.
    let there = half_seq c.args.program.now levels c.args.frame body later half c.in-Seq.parts c.in-Seq.next (c.at.ensures ∙ ap Some c.in-Seq.is) in
    is there.0 levels later (subst (λ b. IsHalfRun c.args.program.now levels c.args.frame b later) there.1 half)) c.next_part.ensures.none
