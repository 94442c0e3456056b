use mir.Syntax.{w128}
use mir.Val.{to_z, of_z}
use Rattle.std.proofs.Common.{◌≡◌, ◌∙◌, ◌+ℤ◌, ◌*ℤ◌, pos, ◌+◌, ◌++◌, [], ap, sym, subst}
use Rattle.std.proofs.lemmas.Bool.{eqb-true}
use Rattle.std.proofs.lemmas.List.{nil_from_length}
use Rattle.dt_map.specs.Typemap.{shift}
use Rattle.dt_type.specs.Listing.{entries_at, HaveDisps}
use Rattle.dt_offsets.specs.Offsets.{row_offsets}
use Rattle.dt_type.proofs.Listings.{after, nothing_after, none_at, row_more, row_fits}
use Rattle.dt_offsets.proofs.Products.{same128, factor_back}
use Rattle.dt_type.proofs.flatten.push_row.Goals as goal

pub returns-then-is_empty : goal.returns-then-is_empty
returns-then-is_empty c =
    let none : c.args.one.now ≡ [] = nil_from_length c.args.one.now (eqb-true _ _ (sym c.if-is_empty.ensures)) in
    let xs = row_offsets c.args.first c.args.copies c.args.step in
    nothing_after c.args.out.now.items (entries_at xs c.args.one.now) (none_at xs ∙ ap (entries_at xs) (sym none))

pub push_copy-requires : goal.push_copy-requires
push_copy-requires c =
    let first = factor_back c.args.first c.requires.first in
    let step = factor_back c.args.step c.requires.step in
    let back = same128 c.along.result c.along.type_inv in
    let at : c.args.first +ℤ (pos c.copies.copy *ℤ c.args.step) ≡ to_z w128 (of_z w128 c.along.result) = cc in
    subst (λ x. HaveDisps (shift x c.args.one.now)) at (row_fits c.args.first c.args.step c.args.copies c.args.one.now c.copies.copy c.copies-test.true c.requires.fit)

pub copies-preserved : goal.copies-preserved
copies-preserved c =
    let first = factor_back c.args.first c.requires.first in
    let step = factor_back c.args.step c.requires.step in
    let back = same128 c.along.result c.along.type_inv in
    let at : to_z w128 (of_z w128 c.along.result) ≡ c.args.first +ℤ (pos c.copies.copy *ℤ c.args.step) = cc in
    let one = c.args.one.now in
    simp (first, step)
    (after c.args.out.now.items c.copies.out.items c.push_copy.new.out.items (entries_at (row_offsets c.args.first c.copies.copy c.args.step) one)
    (shift (c.args.first +ℤ (pos c.copies.copy *ℤ c.args.step)) one)
    (entries_at (row_offsets c.args.first (c.copies.copy + 1) c.args.step) one)
    (simp (first, step) at c.copies.invariant)
    (c.in_ok-push_copy.ensures ∙ ap (λ x. c.copies.out.items ++ shift x one) at)
    (row_more c.args.first c.args.step one c.copies.copy))
