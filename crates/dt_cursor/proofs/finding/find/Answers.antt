use Rattle.std.proofs.Common.{◌≤◌, subst}
use Rattle.dt_layout.proofs.OneBody.{stands_for_one}
use Rattle.dt_map.specs.Packed.{total}
use Rattle.dt_cursor.proofs.ByLevels.{program_is_sought}
use Rattle.dt_cursor.proofs.finding.find.Goals as goal

pub descend-requires : goal.descend-requires
descend-requires g c =
    let r = c.requires in
    (r.1.0, r.0, program_is_sought (g.C.Code.program c.args.code.now) c.args.rep r.0 c.args.byte c.clear.new.self c.clear.ensures r.1 r.2)

pub returns-clause-found : goal.returns-clause-found
returns-clause-found g c es stands =
    let r = c.requires in
    let most = subst (λ fs. c.args.byte ≤ total c.args.rep fs) (stands_for_one (g.C.Code.program c.args.code.now) r.0 es r.1 stands) r.2 in
    c.descend.ensures.found stands.0 es (program_is_sought (g.C.Code.program c.args.code.now) c.args.rep es c.args.byte c.clear.new.self c.clear.ensures stands most)
