use mir.Syntax.{w64, w128}
use mir.Val.{to_z, of_z}
use Rattle.std.proofs.Common.{◌≡◌, ◌∙◌, ◌+ℤ◌, ◌-ℤ◌, sym, ap, subst, rules}
use Rattle.std.proofs.lemmas.Int.{to_z-of_z}
use Rattle.dt_map.specs.declared.bounds.Bounds.{Bounds}
use Rattle.dt_map.specs.Bounds.{true_lb, true_ub}
use Rattle.dt_offsets.specs.Offsets.{row_offsets}
use Rattle.dt_offsets.proofs.Products.{factor_back}
use Rattle.dt_type.specs.Datatype.{typemap_of}
use Rattle.dt_type.proofs.Lookups.{part_entries}
use Rattle.dt_elems.specs.Apart.{AreApart, Follow, FollowApart}
use Rattle.dt_elems.proofs.Rising.{if_some, follow_placed}
use Rattle.dt_elems.proofs.apart.part_behind.Goals as goal

pub returns : goal.returns
returns c =
    let p = c.args.part.now in
    let m = typemap_of p.old in
    let xs = row_offsets p.first p.copies p.step in
    let first = factor_back p.first c.requires.first in
    let step = factor_back p.step c.requires.step in
    let next = to_z-of_z w128 c.args.next c.ranges.next in
    let narrow : to_z w64 (of_z w64 c.bounds.result.true_lb) ≡ c.bounds.result.true_lb = search rules in
    let low : c.from-low.result ≡ true_lb m.entries = c.from-low.ensures ∙ narrow ∙ ap (λ (b : Bounds). b.true_lb) c.bounds.ensures.value in
    let low_fits = to_z-of_z w128 c.from-low.result (record { sfits = c.from-low.type_inv }) in
    let room : to_z w128 (of_z w128 c.true_extent-room.result) ≡ true_ub m.entries -ℤ true_lb m.entries = to_z-of_z w128 c.true_extent-room.result (record { sfits = c.true_extent-room.type_inv }) ∙ c.true_extent-room.ensures.value in
    let start_fits : to_z w128 (of_z w128 c.in_ok-start.start) ≡ c.in_ok-start.start = search rules in
    let end_fits : to_z w128 (of_z w128 c.in_ok-end.end) ≡ c.in_ok-end.end = search rules in
    let start : to_z w128 (of_z w128 c.in_ok-start.start) ≡ c.args.next -ℤ true_lb m.entries = start_fits ∙ c.in_ok-start.ensures.1 ∙ ap (λ x. x -ℤ to_z w128 (of_z w128 c.from-low.result)) next ∙ ap (λ x. c.args.next -ℤ x) (low_fits ∙ low) in
    let end : (c.in_ok-end.end +ℤ true_lb m.entries) ≡ to_z w128 (of_z w128 c.in_ok-end.end) +ℤ to_z w128 (of_z w128 c.from-low.result) = sym (ap (λ x. x +ℤ to_z w128 (of_z w128 c.from-low.result)) end_fits ∙ ap (λ x. c.in_ok-end.end +ℤ x) (low_fits ∙ low)) in
    let rows : Follow (true_ub m.entries -ℤ true_lb m.entries) (c.args.next -ℤ true_lb m.entries) xs c.in_ok-end.end = simp (first, step, room, start) at c.in_ok-end.ensures in
    if_some c.checked_add.result _ _ (λ e. AreApart m.entries → FollowApart c.args.next (part_entries p) e) c.checked_add.ensures
    (subst (λ e. AreApart m.entries → FollowApart c.args.next (part_entries p) e) end (λ apart. follow_placed xs m c.args.next c.in_ok-end.end rows apart))
