use Rattle.std.proofs.Common.{◌+ℤ◌, SFits, rules}
use Rattle.std.proofs.lemmas.Int.{to_z-of_z}
use Rattle.std.specs.Int.{w64}
use Rattle.dt_copy.proofs.Given.{start_fits}
use Rattle.dt_copy.proofs.naming.start_of.Goals as goal

pub overflow_add-result : goal.overflow_add-result
overflow_add-result c =
    let r = c.args.rows.now in
    let disp : SFits w64 r.run.disp = search rules in
    simp (to_z-of_z w64 r.run.disp disp, to_z-of_z w64 c.args.origin c.ranges.origin) (start_fits c.args.len r.run.skip r.run.bytes (r.run.disp +ℤ c.args.origin) c.requires.first c.requires.small)

pub returns : goal.returns
returns c =
    let r = c.args.rows.now in
    let disp : SFits w64 r.run.disp = search rules in
    let fits = start_fits c.args.len r.run.skip r.run.bytes (r.run.disp +ℤ c.args.origin) c.requires.first c.requires.small in
    simp (to_z-of_z w64 r.run.disp disp, to_z-of_z w64 c.args.origin c.ranges.origin) (to_z-of_z w64 (r.run.disp +ℤ c.args.origin) fits)
