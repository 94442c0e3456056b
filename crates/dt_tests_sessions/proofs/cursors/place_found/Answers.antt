use Rattle.std.proofs.Common.{pos, subst, sym}
use Rattle.dt_cursor.specs.Search.{IsFound}
use Rattle.dt_layout.specs.Code.{Counted}
use Rattle.dt_layout.specs.Program.{StandsFor}
use Rattle.dt_map.specs.Elements.{elements}
use Rattle.dt_type.specs.Datatype.{typemap_of}
use Rattle.dt_tests_sessions.proofs.cursors.place_found.Goals as goal

pub here-requires : goal.here-requires
here-requires c =
    let es = elements (typemap_of c.args.ty.now) c.args.count (pos 0) in
    let found = c.find-held.ensures.found es (subst (λ (k : Counted). StandsFor k.code es) (sym c.new-code.ensures) c.requires) in
    let there = subst (λ (k : Counted). IsFound k.code c.args.rep es c.args.byte c.find-held.new.frames c.find-held.result) c.new-code.ensures found in
    (there.rest, there.stand)
