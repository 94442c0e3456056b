use Rattle.std.proofs.Common.{length, refl, inr}
use Rattle.dt_numbered.proofs.Between.{copy_done, copy_refused}
use Rattle.dt_numbered.proofs.copying.copy.Goals as goal

pub returns-in-Ok-planned_of : goal.returns-in-Ok-planned_of
returns-in-Ok-planned_of c =
    let a = c.args in
    copy_done a.space.now a.from a.onto c.in-Ok.both.0 c.in-Ok.both.1 (length a.source.now) (length a.target.now) c.in-Ok-planned_of.plan a.source.now a.target.now c.run.new.target c.run.result
    c.in-Ok.ensures c.in-Ok-planned_of.ensures.0 c.in-Ok-planned_of.ensures.1 c.in-Ok-planned_of.ensures.2 c.run.ensures.bytes c.run.ensures.elements

pub returns : goal.returns
returns c =
    let a = c.args in (
      refl,
      inr (copy_refused a.space.now a.from a.onto c.in-Ok.both.0 c.in-Ok.both.1 (length a.source.now) (length a.target.now) c.in-Err-planned_of.fault c.in-Ok.ensures c.in-Err-planned_of.ensures),
    )
