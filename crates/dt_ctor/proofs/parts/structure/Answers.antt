use Rattle.dt_type.proofs.Answers.{again}
use Rattle.dt_ctor.proofs.Places.{placed_again}
use Rattle.dt_ctor.proofs.parts.structure.Goals as goal

pub built-requires-clause-places : goal.built-requires-clause-places
built-requires-clause-places c = placed_again _ _ _ c.in_ok-shape.ensures c.in_ok-form.ensures

pub returns : goal.returns
returns c = again _ _ _ c.built.ensures c.in_ok-form.ensures
