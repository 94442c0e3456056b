use mir.Syntax.{w64}
use mir.Val.{to_z, of_z}
use Rattle.std.proofs.Common.{arith, ap, subst, sym, length}
use Rattle.dt_cursor.specs.Search.{IsFound, IsSought}
use Rattle.dt_cursor.proofs.ByLevels.{found_inside}
use Rattle.dt_cursor.proofs.Narrowing.{back64, again, sought_again}
use Rattle.dt_cursor.proofs.Reading.{at_within}
use Rattle.dt_cursor.proofs.finding.+descend.Goals as goal

pub descend-requires : goal.descend-requires
descend-requires g t c =
    let r = c.requires in
    let sought = sought_again (g.C.Code.program c.args.code.now) c.args.rep c.args.frames.now c.args.at c.args.base c.args.left r.0 r.1 (back64 c.args.base c.ranges.base.sfits) r.2 in
    let n = c.in-In.ensures.step r.0 r.1 sought in
    let on = c.in-In.ensures.on in
    let within = at_within (g.C.Code.program c.args.code.now) c.args.at r.0 _ sought.run.placed in
    let same = ap length c.in-In.ensures.same in
    let inner = subst (λ code. IsSought code c.args.rep c.step.new.frames c.in-In.inner.at (to_z w64 (of_z w64 c.in-In.inner.base)) c.in-In.inner.left n.body n.inside) (sym c.in-In.ensures.same)
    (sought_again (g.C.Code.program c.args.code.now) c.args.rep c.step.new.frames c.in-In.inner.at c.in-In.inner.base c.in-In.inner.left n.body n.inside (again c.in-In.inner.base n.near) n.sought) in
    λ κs lives. (omega (arith, on, within, same, c.decreases), (lives, (n.body, n.inside, inner)))

pub returns-in-At-clause-found : goal.returns-in-At-clause-found
returns-in-At-clause-found g t c body es sought =
    c.in-At.ensures.step body es (sought_again (g.C.Code.program c.args.code.now) c.args.rep c.args.frames.now c.args.at c.args.base c.args.left body es (back64 c.args.base c.ranges.base.sfits) sought)

pub returns-in-In-clause-found : goal.returns-in-In-clause-found
returns-in-In-clause-found g t c body es sought =
    let n = c.in-In.ensures.step body es (sought_again (g.C.Code.program c.args.code.now) c.args.rep c.args.frames.now c.args.at c.args.base c.args.left body es (back64 c.args.base c.ranges.base.sfits) sought) in
    let inner = subst (λ code. IsSought code c.args.rep c.step.new.frames c.in-In.inner.at (to_z w64 (of_z w64 c.in-In.inner.base)) c.in-In.inner.left n.body n.inside) (sym c.in-In.ensures.same)
    (sought_again (g.C.Code.program c.args.code.now) c.args.rep c.step.new.frames c.in-In.inner.at c.in-In.inner.base c.in-In.inner.left n.body n.inside (again c.in-In.inner.base n.near) n.sought) in
    found_inside (g.C.Code.program c.args.code.now) c.args.rep es c.args.left c.step.new.frames c.in-In.inner.at c.in-In.inner.base c.in-In.inner.left n c.descend.new.frames c.descend.result
    (subst (λ code. IsFound code c.args.rep n.inside c.in-In.inner.left c.descend.new.frames c.descend.result) c.in-In.ensures.same
    (c.descend.ensures.found n.body n.inside inner))
