use Rattle.std.proofs.Common.{◌≡◌, sym, ◌∙◌, arith}
use Rattle.dt_gen.specs.Script.{places_at}
use Rattle.dt_gen.proofs.Loops.{after, places_more, places_end}
use Rattle.dt_gen.proofs.generating.push_places.Goals as goal

pub places-preserved : goal.places-preserved
places-preserved c =
    rw (c.in_ok-push_number.ensures, c.below.ensures.drawn, c.below.ensures.moved)
    (sym (places_more 1024 c.places.i c.places.out.items c.places.draws (omega arith)) ∙ c.places.invariant)

pub returns-clause-text : goal.returns-clause-text
returns-clause-text c =
    let last : c.places.i ≡ 1024 = omega arith in
    (places_end 1024 c.places.i c.places.out.items c.places.draws (after c.args.out.now.items c.args.draws.now (places_at 1024 0)) last c.places.invariant).0

pub returns-clause-moved : goal.returns-clause-moved
returns-clause-moved c =
    let last : c.places.i ≡ 1024 = omega arith in
    (places_end 1024 c.places.i c.places.out.items c.places.draws (after c.args.out.now.items c.args.draws.now (places_at 1024 0)) last c.places.invariant).1
