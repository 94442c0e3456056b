use Rattle.std.proofs.Common.{arith, subst, refl, sym}
use Rattle.dt_cursor.specs.Search.{IsFound}
use Rattle.dt_layout.specs.Body.{one}
use Rattle.dt_cursor.proofs.Narrowing.{ended, at_kind, sought_one, back64, framed}
use Rattle.dt_cursor.proofs.step.at_one.Goals as goal

pub returns-then-left-bytes_of : goal.returns-then-left-bytes_of
returns-then-left-bytes_of c code body es got sought =
    let s = sought_one code c.args.rep c.args.frames.now c.args.at c.args.base c.args.left body es sought c.args.kind got in
    let all = c.if-left-bytes_of.true in
    let size = c.bytes_of.ensures in
    ended code c.args.rep c.args.frames.now c.args.at c.args.base c.args.left es (one c.args.kind) s (omega (arith, all, size)) c.args.frames.now refl

pub returns : goal.returns
returns c code body es got sought =
    let s = sought_one code c.args.rep c.args.frames.now c.args.at c.args.base c.args.left body es sought c.args.kind got in
    let within = c.if-left-bytes_of.false in
    let size = c.bytes_of.ensures in
    let base = back64 c.args.base c.ranges.base.sfits in
    subst (λ fs. IsFound code c.args.rep es c.args.left fs c.args.left) (sym (framed c.push.new.self c.args.frames.now c.args.at 0 0 _ c.args.base c.push.ensures base))
    (at_kind code c.args.rep c.args.frames.now c.args.at c.args.base c.args.left es c.args.kind s (omega (arith, within, size)))
