use mir.Syntax.{w128}
use mir.Val.{to_z, of_z}
use Rattle.std.proofs.Common.{◌≡◌, ◌∷◌, refl, sym, subst, rules}
use Rattle.std.proofs.lemmas.Int.{to_z-of_z}
use Rattle.dt_offsets.specs.Offsets.{turn_offsets, grid_offsets}
use Rattle.dt_elems.specs.Apart.{AreSpread, AreWithin}
use Rattle.dt_elems.proofs.Rising.{if_always, if_more}
use Rattle.dt_elems.proofs.Spreading.{spread_sums, within_sums}
use Rattle.dt_elems.proofs.apart.+grid_room.Goals as goal

pub returns-clause-spread : goal.returns-clause-spread
returns-clause-spread t c =
    let room = to_z-of_z w128 c.args.room c.ranges.room in
    let whole : to_z w128 (of_z w128 c.in_ok-whole.whole) ≡ c.in_ok-whole.whole = search rules in
    let turns : c.args.turns.now ≡ c.in-Some.outer.now ∷ c.in-Some.inner.now = c.in-Some.ensures.cases.0 in
    let outer = simp whole at (c.if-not-turns_are_spread.ensures refl) in
    let inner = simp room at c.in_ok-whole.ensures.spread in
    let within = simp room at c.in_ok-whole.ensures.within in
    if_always c.turns_room.result (AreSpread c.args.room (grid_offsets c.args.turns.now))
    (subst (λ ts. AreSpread c.args.room (grid_offsets ts)) (sym turns) (spread_sums c.args.room c.in_ok-whole.whole (turn_offsets c.in-Some.outer.now) (grid_offsets c.in-Some.inner.now) outer inner within))

pub returns-clause-within : goal.returns-clause-within
returns-clause-within t c =
    let room = to_z-of_z w128 c.args.room c.ranges.room in
    let whole : to_z w128 (of_z w128 c.in_ok-whole.whole) ≡ c.in_ok-whole.whole = search rules in
    let turns : c.args.turns.now ≡ c.in-Some.outer.now ∷ c.in-Some.inner.now = c.in-Some.ensures.cases.0 in
    let within = simp room at c.in_ok-whole.ensures.within in
    if_more c.turns_room.result (λ w. AreWithin c.in_ok-whole.whole w (turn_offsets c.in-Some.outer.now)) (λ w. AreWithin c.args.room w (grid_offsets c.args.turns.now))
    (λ w outer. subst (λ ts. AreWithin c.args.room w (grid_offsets ts)) (sym turns) (within_sums c.args.room c.in_ok-whole.whole w (turn_offsets c.in-Some.outer.now) (grid_offsets c.in-Some.inner.now) outer within))
    (simp whole at c.turns_room.ensures.within)
