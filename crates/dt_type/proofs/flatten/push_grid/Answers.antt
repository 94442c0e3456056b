use mir.Syntax.{w128}
use mir.Val.{to_z, of_z}
use Rattle.std.proofs.Common.{◌≡◌, ◌∙◌, pos, ◌+◌, ◌++◌, ℤ, List, take, get_or, ap, sym, subst, arith}
use Rattle.std.proofs.lemmas.List.{take_all}
use Rattle.dt_map.specs.Typemap.{shift}
use Rattle.dt_type.specs.Listing.{entries_at, HaveDisps}
use Rattle.dt_offsets.specs.Offsets.{grid_offsets}
use Rattle.dt_type.proofs.Listings.{after, copy_more, copy_fits, one_some, copies_are}
use Rattle.dt_offsets.proofs.Products.{same128}
use Rattle.dt_type.proofs.flatten.push_grid.Goals as goal

pub nonzero_div-copies : goal.nonzero_div-copies
nonzero_div-copies c = one_some (grid_offsets c.args.turns.now) c.args.one.now c.args.entries c.requires.entries c.requires.some

pub grid_at-requires-clause-copies : goal.grid_at-requires-clause-copies
grid_at-requires-clause-copies c = copies_are (grid_offsets c.args.turns.now) c.args.one.now c.args.entries c.requires.entries c.requires.some

pub push_copy-requires : goal.push_copy-requires
push_copy-requires c =
    let xs = grid_offsets c.args.turns.now in
    let one = c.args.one.now in
    let copies = copies_are xs one c.args.entries c.requires.entries c.requires.some in
    let at : get_or xs c.copies.copy (pos 0) ≡ to_z w128 (of_z w128 c.grid_at.result) = sym c.grid_at.ensures ∙ sym (same128 c.grid_at.result c.grid_at.type_inv) in
    subst (λ x. HaveDisps (shift x one)) at (copy_fits xs one c.copies.copy (pos 0) (omega arith) c.requires.fit)

pub copies-preserved : goal.copies-preserved
copies-preserved c =
    let xs = grid_offsets c.args.turns.now in
    let one = c.args.one.now in
    let copies = copies_are xs one c.args.entries c.requires.entries c.requires.some in
    let at : to_z w128 (of_z w128 c.grid_at.result) ≡ get_or xs c.copies.copy (pos 0) = same128 c.grid_at.result c.grid_at.type_inv ∙ c.grid_at.ensures in
    after c.args.out.now.items c.copies.out.items c.push_copy.new.out.items (entries_at (take c.copies.copy xs) one) (shift (get_or xs c.copies.copy (pos 0)) one)
    (entries_at (take (c.copies.copy + 1) xs) one)
    c.copies.invariant
    (c.in_ok-push_copy.ensures ∙ ap (λ x. c.copies.out.items ++ shift x one) at)
    (copy_more xs one c.copies.copy (pos 0) (omega arith))

pub returns : goal.returns
returns c =
    let xs = grid_offsets c.args.turns.now in
    let copies = copies_are xs c.args.one.now c.args.entries c.requires.entries c.requires.some in
    let P : List ℤ → Type 0 = λ ys. c.copies.out.items ≡ c.args.out.now.items ++ entries_at ys c.args.one.now in
    subst P (take_all c.copies.copy xs (omega arith)) c.copies.invariant
