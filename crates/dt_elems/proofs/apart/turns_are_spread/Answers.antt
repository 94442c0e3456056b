use mir.Syntax.{w128}
use mir.Val.{to_z, of_z}
use Rattle.std.proofs.Common.{◌≡◌, ◌⊎◌, ◌≤◌, refl, rules}
use Rattle.std.proofs.lemmas.Int.{to_z-of_z}
use Rattle.dt_offsets.proofs.Products.{factor_back}
use Rattle.dt_elems.proofs.Spreading.{IsLong, spread_one_block, spread_blocks}
use Rattle.dt_elems.proofs.apart.turns_are_spread.Goals as goal

pub returns-then-turns : goal.returns-then-turns
returns-then-turns c =
    let t = c.args.turns.now in
    let room = to_z-of_z w128 c.args.room c.ranges.room in
    let step = factor_back t.step c.requires.turns.step in
    let rows : (c.min-row.result ≤ 1) ⊎ IsLong c.args.room t.step = simp (room, step) at (c.if-not-steps_apart.ensures refl) in
    λ ok. spread_one_block t c.args.room c.requires.some c.requires.turns.least c.min-row.result c.min-row.ensures rows c.if-turns.true

pub returns-in-Some : goal.returns-in-Some
returns-in-Some c =
    let t = c.args.turns.now in
    let room = to_z-of_z w128 c.args.room c.ranges.room in
    let step = factor_back t.step c.requires.turns.step in
    let jump = factor_back t.jump c.requires.turns.jump in
    let whole : to_z w128 (of_z w128 c.in-Some.whole) ≡ c.in-Some.whole = search rules in
    let rows : (c.min-row.result ≤ 1) ⊎ IsLong c.args.room t.step = simp (room, step) at (c.if-not-steps_apart.ensures refl) in
    λ ok.
    spread_blocks t c.args.room c.requires.some c.requires.turns.least c.min-row.result c.min-row.ensures rows c.if-turns.false c.in-Some.whole
    (simp (room, step) at c.in-Some.ensures.up) (simp (room, step) at c.in-Some.ensures.down) (simp (whole, jump) at (c.is_long.ensures ok))
