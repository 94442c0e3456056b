use Rattle.std.proofs.Common.{ap, subst, ◌∙◌, arith}
use Rattle.dt_map.specs.Elements.{are_inside}
use Rattle.std.specs.Prelude.{IsTrue}
use Rattle.dt_copy.specs.Side.{Reader, rest_of}
use Rattle.dt_copy.proofs.Given.{whole_bytes}
use Rattle.dt_copy.proofs.side.Side.left.Goals as goal

pub returns-clause-left : goal.returns-clause-left
returns-clause-left c =
    let i = c.self.inside in
    let all = c.total.ensures ∙ whole_bytes i.cursor i.origin c.self.invariant.native in
    let here = c.position.ensures.value in
    let seen = ap rest_of c.self.view_is in
    omega (arith, all, here, seen)

pub returns-clause-inside : goal.returns-clause-inside
returns-clause-inside c = subst (λ (r : Reader). IsTrue (are_inside r.len r.elements)) c.self.view_is c.self.invariant.inside
