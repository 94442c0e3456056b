use Rattle.std.proofs.Common.{◌*◌, arith, ap, ◌∙◌, refl}
use Rattle.dt_layout.specs.Body.{loop}
use Rattle.dt_cursor.proofs.Narrowing.{ended, sought_loop, back64}
use Rattle.dt_cursor.proofs.IntoParts.{turn_sought}
use Rattle.dt_cursor.proofs.step.at_loop.Goals as goal

pub returns-in_default-clause-step : goal.returns-in_default-clause-step
returns-in_default-clause-step c code got body es sought =
    let s = sought_loop code c.args.rep c.args.frames.now c.args.at c.args.base c.args.left body es sought c.args.turns.now c.args.sizes c.args.next got in
    ended code c.args.rep c.args.frames.now c.args.at c.args.base c.args.left es (loop c.args.turns.now s.0) s.1
    (let all = c.in_default.ensures.none in let size = ap (λ n. c.args.turns.now.count * n) (c.size_by.ensures ∙ s.2) in omega (arith, all, size)) c.args.frames.now refl

pub into_turn-requires-clause-fits : goal.into_turn-requires-clause-fits
into_turn-requires-clause-fits c =
    let r = c.requires in
    let s = sought_loop r.0 c.args.rep c.args.frames.now c.args.at c.args.base c.args.left r.1 r.2 r.4 c.args.turns.now c.args.sizes c.args.next r.3 in
    let far = s.3 in
    let fits = c.ranges.next.fits in
    omega (arith, far, fits)

pub into_turn-requires-clause-sought : goal.into_turn-requires-clause-sought
into_turn-requires-clause-sought c =
    let r = c.requires in
    let s = sought_loop r.0 c.args.rep c.args.frames.now c.args.at c.args.base c.args.left r.1 r.2 r.4 c.args.turns.now c.args.sizes c.args.next r.3 in
    (r.0, c.args.rep, c.args.left, s.0, r.2, turn_sought r.0 c.args.rep c.args.frames.now c.args.at c.args.base _ c.args.turns.now c.in-Some.turn c.args.left c.size_by.result s.0 r.2 s.1 (back64 c.args.base c.ranges.base.sfits) (c.size_by.ensures ∙ s.2) c.in-Some.ensures.some)

pub returns-clause-step : goal.returns-clause-step
returns-clause-step c code got body es sought =
    let s = sought_loop code c.args.rep c.args.frames.now c.args.at c.args.base c.args.left body es sought c.args.turns.now c.args.sizes c.args.next got in
    c.into_turn.ensures.narrowed code c.args.rep c.args.left s.0 es
    (turn_sought code c.args.rep c.args.frames.now c.args.at c.args.base _ c.args.turns.now c.in-Some.turn c.args.left c.size_by.result s.0 es s.1 (back64 c.args.base c.ranges.base.sfits) (c.size_by.ensures ∙ s.2) c.in-Some.ensures.some)
