use Rattle.std.proofs.Common.{◌≡◌, ◌-◌, refl, arith, ap, subst, ◌∙◌, sym}
use Rattle.dt_cursor.specs.Ahead.{AreTaken}
use Rattle.dt_cursor.specs.Frames.{ToCome}
use Rattle.dt_cursor.proofs.Climbing.{packed_size-pos}
use Rattle.dt_cursor.proofs.Named.{back_here, elements_here, is_here, part_rows, part_taken, popped, stood, taken_at}
use Rattle.dt_cursor.proofs.passing.take.Goals as goal

pub returns-then-held-gt0-clause-taken : goal.returns-then-held-gt0-clause-taken
returns-then-held-gt0-clause-taken c es stand are =
    let here = is_here c.args.program.now c.args.frame c.args.frames.now es c.requires.top stand in
    let all = elements_here c.args.program.now c.args.rep c.args.frame c.args.frames.now es here c.args.kind c.requires.kind in
    let come = subst (λ fs. ToCome c.args.program.now fs here.rest) (popped c.pop.result c.args.frames.now c.pop.new.self c.pop.ensures.some c.pop.ensures.none) here.come in
    let left = c.bytes_of.result - c.from.result in
    let size = c.bytes_of.ensures in
    let from = c.from.ensures in
    let less = c.requires.held in
    taken_at c.args.program.now c.args.rep es c.args.held c.pop.new.self c.pop.new.self (part_rows c.args.kind c.args.frame.base c.args.held left) c.part_of.result refl
    (ap (λ x. part_rows c.args.kind x c.args.held left) (sym (back_here c.args.frame.base here.near)) ∙ sym c.part_of.ensures)
    (part_taken c.args.rep c.args.kind c.args.frame.base c.args.held left (omega (arith, size, from, less)) (omega (arith, size, from, less)) c.args.program.now c.pop.new.self es here.rest all come (omega (arith, size, from, less)))

pub returns-in_default-clause-taken : goal.returns-in_default-clause-taken
returns-in_default-clause-taken c es stand are =
    let here = is_here c.args.program.now c.args.frame c.args.frames.now es c.requires.top stand in
    let all = elements_here c.args.program.now c.args.rep c.args.frame c.args.frames.now es here c.args.kind c.requires.kind in
    let come = subst (λ fs. ToCome c.args.program.now fs here.rest) (popped c.pop.result c.args.frames.now c.pop.new.self c.pop.ensures.some c.pop.ensures.none) here.come in
    let size = c.bytes_of-in_default.ensures in
    let none = c.if-held-gt0.false in
    let zero : 0 ≡ c.args.held = omega (arith, none) in
    subst (λ h. AreTaken c.args.program.now c.args.rep es h c.pop.new.self c.part_of-in_default.result) zero
    (taken_at c.args.program.now c.args.rep es 0 c.pop.new.self c.pop.new.self (part_rows c.args.kind c.args.frame.base 0 c.bytes_of-in_default.result) c.part_of-in_default.result refl
    (ap (λ x. part_rows c.args.kind x 0 c.bytes_of-in_default.result) (sym (back_here c.args.frame.base here.near)) ∙ sym c.part_of-in_default.ensures)
    (part_taken c.args.rep c.args.kind c.args.frame.base 0 c.bytes_of-in_default.result (omega (arith, size, packed_size-pos c.args.rep c.args.kind)) (omega (arith, size)) c.args.program.now c.pop.new.self es here.rest all come (omega (arith, size))))

pub left_at-requires : goal.left_at-requires
left_at-requires c =
    let r = c.requires.run in
    (r.0, stood c.args.program.now c.args.frame c.args.frames.now c.pop.new.self r.0 c.requires.top (popped c.pop.result c.args.frames.now c.pop.new.self c.pop.ensures.some c.pop.ensures.none) r.1)

pub take_left-requires-clause-run : goal.take_left-requires-clause-run
take_left-requires-clause-run c =
    let r = c.requires.run in
    let stand = stood c.args.program.now c.args.frame c.args.frames.now c.pop.new.self r.0 c.requires.top (popped c.pop.result c.args.frames.now c.pop.new.self c.pop.ensures.some c.pop.ensures.none) r.1 in
    (c.args.program.now, r.0, c.in-Some.ensures.left c.args.kind r.0 c.requires.kind stand)

pub returns-clause-taken : goal.returns-clause-taken
returns-clause-taken c es stand are =
    let there = stood c.args.program.now c.args.frame c.args.frames.now c.pop.new.self es c.requires.top (popped c.pop.result c.args.frames.now c.pop.new.self c.pop.ensures.some c.pop.ensures.none) stand in
    let none = c.if-held-gt0.false in
    let zero : 0 ≡ c.args.held = omega (arith, none) in
    subst (λ h. AreTaken c.args.program.now c.args.rep es h c.take_left.new.frames c.take_left.result) zero
    (c.take_left.ensures.taken c.args.program.now es (c.in-Some.ensures.left c.args.kind es c.requires.kind there))
