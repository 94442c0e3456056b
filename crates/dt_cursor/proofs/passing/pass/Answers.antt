use Rattle.std.proofs.Common.{◌+◌, arith, ap, subst, ◌∙◌, sym}
use Rattle.dt_cursor.specs.Ahead.{ArePassed}
use Rattle.dt_cursor.proofs.Named.{back_here, elements_here, held_here, is_here, part_passed, part_rows, taken_passed}
use Rattle.dt_cursor.proofs.passing.pass.Goals as goal

pub kind_at-kind-requires : goal.kind_at-kind-requires
kind_at-kind-requires c =
    let r = c.requires.run in
    let here = is_here c.args.program.now c.in-Some.frame c.args.frames.now r.0 (sym c.innermost.ensures ∙ c.in-Some.is) r.1 in
    (here.kind, here.read)

pub overflow_sub-left : goal.overflow_sub-left
overflow_sub-left c =
    let r = c.requires.run in
    let here = is_here c.args.program.now c.in-Some.frame c.args.frames.now r.0 (sym c.innermost.ensures ∙ c.in-Some.is) r.1 in
    let less = held_here c.args.program.now c.args.rep c.in-Some.frame c.args.frames.now r.0 here c.kind_at-kind.result c.kind_at-kind.ensures c.args.held r.2 in
    let from = c.from.ensures in
    let size = c.bytes_of.ensures in
    omega (arith, less, from, size)

pub returns-then-most-left-clause-some : goal.returns-then-most-left-clause-some
returns-then-most-left-clause-some c es stand are =
    let here = is_here c.args.program.now c.in-Some.frame c.args.frames.now es (sym c.innermost.ensures ∙ c.in-Some.is) stand in
    let all = elements_here c.args.program.now c.args.rep c.in-Some.frame c.args.frames.now es here c.kind_at-kind.result c.kind_at-kind.ensures in
    let less = c.if-most-left.true in
    let size = c.bytes_of.ensures in
    let from = c.from.ensures in
    subst (λ r. ArePassed c.args.program.now c.args.rep es c.args.held c.args.frames.now (record { rows = r; held = c.args.held + c.args.most }))
    (ap (λ x. part_rows c.kind_at-kind.result x c.args.held c.args.most) (sym (back_here c.in-Some.frame.base here.near)) ∙ sym c.part_of.ensures)
    (part_passed c.args.rep c.kind_at-kind.result c.in-Some.frame.base c.args.held c.args.most c.requires.most (omega (arith, less, size, from)) c.args.program.now c.args.frames.now es here.rest all stand (omega (arith, less, size, from)))

pub take-rows-requires-clause-held : goal.take-rows-requires-clause-held
take-rows-requires-clause-held c =
    let r = c.requires.run in
    let here = is_here c.args.program.now c.in-Some.frame c.args.frames.now r.0 (sym c.innermost.ensures ∙ c.in-Some.is) r.1 in
    held_here c.args.program.now c.args.rep c.in-Some.frame c.args.frames.now r.0 here c.kind_at-kind.result c.kind_at-kind.ensures c.args.held r.2

pub returns-clause-some : goal.returns-clause-some
returns-clause-some c es stand are =
    taken_passed c.args.program.now c.args.rep es c.args.held c.take-rows.new.frames c.climb.new.frames c.take-rows.result
    (c.take-rows.ensures.taken es stand are) c.climb.ensures
