use mir.Syntax.{w64}
use mir.Val.{to_z, of_z}
use Rattle.std.proofs.Common.{Some, arith, ap, subst, sym, ◌∙◌, slice_get, length}
use Rattle.dt_cursor.specs.Search.{IsSought}
use Rattle.dt_cursor.proofs.ByLevels.{one_read, begins_neither}
use Rattle.dt_cursor.proofs.Narrowing.{back64, sought_again}
use Rattle.dt_cursor.proofs.Reading.{at_within, head_is}
use Rattle.dt_cursor.proofs.finding.step.Goals as goal

pub at-requires : goal.at-requires
at-requires g c = let r = c.requires in at_within (g.C.Code.program c.args.code.now) c.args.at r.0 c.args.base r.2.run.placed

pub at_each-requires : goal.at_each-requires
at_each-requires g c =
    let r = c.requires in (
      r.0,
      r.1,
      ap (λ code. slice_get code c.args.at) c.at.ensures.same ∙ c.at.ensures.value ∙ ap Some c.in-Each.is,
      subst (λ code. IsSought code c.args.rep c.args.frames.now c.args.at (to_z w64 (of_z w64 c.args.base)) c.args.left r.0 r.1) (sym c.at.ensures.same)
          (sought_again (g.C.Code.program c.args.code.now) c.args.rep c.args.frames.now c.args.at c.args.base c.args.left r.0 r.1 (back64 c.args.base c.ranges.base.sfits) r.2),
    )

pub unreachable-requires : goal.unreachable-requires
unreachable-requires g c =
    let r = c.requires in
    let is = head_is (g.C.Code.program c.args.code.now) c.args.at r.0 c.args.base r.2.run.placed c.at.result c.at.ensures.value in
    begins_neither c.args.at r.0 c.at.result is c.in-Spot.is

pub returns-in-One-clause-step : goal.returns-in-One-clause-step
returns-in-One-clause-step g c body es sought =
    c.at_one.ensures (g.C.Code.program c.args.code.now) body es (c.at.ensures.value ∙ ap Some c.in-One.is)
    (sought_again (g.C.Code.program c.args.code.now) c.args.rep c.args.frames.now c.args.at c.args.base c.args.left body es (back64 c.args.base c.ranges.base.sfits) sought)

pub returns-in-One-clause-reads : goal.returns-in-One-clause-reads
returns-in-One-clause-reads g c =
    let r = c.requires in
    let within = at_within (g.C.Code.program c.args.code.now) c.args.at r.0 c.args.base r.2.run.placed in
    let one = c.at.ensures.reads in
    omega (arith, within, one)

pub returns-in-Loop-clause-reads : goal.returns-in-Loop-clause-reads
returns-in-Loop-clause-reads g c =
    let r = c.requires in
    let within = at_within (g.C.Code.program c.args.code.now) c.args.at r.0 c.args.base r.2.run.placed in
    let one = c.at.ensures.reads in
    one_read (length (g.C.Code.program c.args.code.now)) c.args.at (g.C.Code.reads c.args.code.now) (g.C.Code.reads c.at.new.self) c.at_loop.result within (omega (arith, one)) c.at_loop.ensures.enters
