use Rattle.std.proofs.Common.{◌+◌, ◌*◌, arith, refl}
use Rattle.dt_layout.specs.Body.{seq, size}
use Rattle.dt_cursor.proofs.IntoParts.{parts_here, parts_are_wide, into_part, turn_of_part}
use Rattle.dt_cursor.proofs.Narrowing.{ended, sought_seq, back64, framed, narrowed_twice}
use Rattle.dt_cursor.proofs.Reading.{ends_within}
use Rattle.dt_cursor.proofs.parts.at_seq.Goals as goal

pub overflow_add-at : goal.overflow_add-at
overflow_add-at g c =
    let r = c.requires in
    let s = sought_seq (g.C.Code.program c.args.code.now) c.args.rep c.args.frames.now c.args.at c.args.base c.args.left r.0 r.1 r.3 c.args.count c.args.next r.2 in
    let far = s.3 in
    let fits = c.ranges.next.fits in
    omega (arith, far, fits)

pub part_at-requires : goal.part_at-requires
part_at-requires g c =
    let r = c.requires in
    let s = sought_seq (g.C.Code.program c.args.code.now) c.args.rep c.args.frames.now c.args.at c.args.base c.args.left r.0 r.1 r.3 c.args.count c.args.next r.2 in
    (s.0, parts_here (g.C.Code.program c.args.code.now) c.args.at s.0 c.args.base s.1.run.placed, s.2, (let far = s.3 in let fits = c.ranges.next.fits in omega (arith, far, fits)))

pub returns-in_default-clause-step : goal.returns-in_default-clause-step
returns-in_default-clause-step g c body es sought =
    let s = sought_seq (g.C.Code.program c.args.code.now) c.args.rep c.args.frames.now c.args.at c.args.base c.args.left body es sought c.args.count c.args.next c.requires.2 in
    let stand = parts_here (g.C.Code.program c.args.code.now) c.args.at s.0 c.args.base s.1.run.placed in
    ended (g.C.Code.program c.args.code.now) c.args.rep c.args.frames.now c.args.at c.args.base c.args.left es (seq s.0) s.1 (c.in_default.ensures.none s.0 stand s.2) c.args.frames.now refl

pub returns-in_default-clause-reads : goal.returns-in_default-clause-reads
returns-in_default-clause-reads g c =
    let r = c.requires in
    let s = sought_seq (g.C.Code.program c.args.code.now) c.args.rep c.args.frames.now c.args.at c.args.base c.args.left r.0 r.1 r.3 c.args.count c.args.next r.2 in
    let ends = ends_within (g.C.Code.program c.args.code.now) c.args.at (seq s.0) c.args.base s.1.run.placed in
    let reads = c.part_at.ensures.reads in
    let wide = parts_are_wide s.0 in
    let many = s.2 in
    omega (arith, ends, reads, wide, many)

pub into_turn-requires-clause-sought : goal.into_turn-requires-clause-sought
into_turn-requires-clause-sought g c =
    let r = c.requires in
    let s = sought_seq (g.C.Code.program c.args.code.now) c.args.rep c.args.frames.now c.args.at c.args.base c.args.left r.0 r.1 r.3 c.args.count c.args.next r.2 in
    let stand = parts_here (g.C.Code.program c.args.code.now) c.args.at s.0 c.args.base s.1.run.placed in
    let t = c.in-Some.ensures.some s.0 stand s.2 in
    let n = into_part (g.C.Code.program c.args.code.now) c.args.rep c.args.frames.now c.args.at c.args.base c.args.left r.1 s.0 s.1 c.in-Some.part t in
    let base = back64 c.args.base c.ranges.base.sfits in
    let pushed = framed c.push.new.self c.args.frames.now c.args.at c.in-Some.part.place 0 _ c.args.base c.push.ensures base in (
      g.C.Code.program c.args.code.now,
      c.args.rep,
      c.in-Some.part.turn.number * size c.args.rep t.body + c.in-Some.part.turn.left,
      t.body,
      n.inside,
      turn_of_part (g.C.Code.program c.args.code.now) c.args.rep c.args.frames.now c.args.at c.args.base c.args.left r.1 s.0 s.1 c.in-Some.part t c.push.new.self pushed _ base,
    )

pub returns-clause-step : goal.returns-clause-step
returns-clause-step g c body es sought =
    let s = sought_seq (g.C.Code.program c.args.code.now) c.args.rep c.args.frames.now c.args.at c.args.base c.args.left body es sought c.args.count c.args.next c.requires.2 in
    let stand = parts_here (g.C.Code.program c.args.code.now) c.args.at s.0 c.args.base s.1.run.placed in
    let t = c.in-Some.ensures.some s.0 stand s.2 in
    let n = into_part (g.C.Code.program c.args.code.now) c.args.rep c.args.frames.now c.args.at c.args.base c.args.left es s.0 s.1 c.in-Some.part t in
    let base = back64 c.args.base c.ranges.base.sfits in
    let pushed = framed c.push.new.self c.args.frames.now c.args.at c.in-Some.part.place 0 _ c.args.base c.push.ensures base in
    narrowed_twice (g.C.Code.program c.args.code.now) c.args.rep c.args.frames.now c.args.left es _ _ n c.into_turn.new.frames c.into_turn.result.at c.into_turn.result.base c.into_turn.result.left
    (c.into_turn.ensures.narrowed (g.C.Code.program c.args.code.now) c.args.rep (c.in-Some.part.turn.number * size c.args.rep t.body + c.in-Some.part.turn.left) t.body n.inside
    (turn_of_part (g.C.Code.program c.args.code.now) c.args.rep c.args.frames.now c.args.at c.args.base c.args.left es s.0 s.1 c.in-Some.part t c.push.new.self pushed _ base))

pub returns-clause-reads : goal.returns-clause-reads
returns-clause-reads g c = let before = c.in-Some.ensures.before in let inside = c.into_turn.ensures.inside in (omega (arith, before, inside), omega (arith, before, inside))
