use mir.Syntax.{w64}
use Rattle.std.proofs.Common.{◌∙◌, ◌<◌, ◌+◌, ◌+ℤ◌, ap, sym, subst, map, take, length, arith}
use Rattle.std.proofs.lemmas.Int.{to_z-of_z}
use Rattle.std.proofs.lemmas.List.{take_all}
use Rattle.dt_map.specs.Typemap.{shift}
use Rattle.dt_tree.specs.Node.{tree_of}
use Rattle.dt_tree.specs.Place.{place_of, IsPlaceAt}
use Rattle.dt_tree.specs.Tree.{flat}
use Rattle.dt_tree.proofs.Entries.{listed_more, short_place}
use Rattle.dt_tree.proofs.Rules.{short_subtrees, own_short}
use Rattle.dt_tree.proofs.Spans.{same128}
use Rattle.dt_tree.proofs.tree.Tree.listed.Goals as goal

pub find-place-requires-clause-short : goal.find-place-requires-clause-short
find-place-requires-clause-short c = (short_subtrees (tree_of c.self.inside.root)).1 c.self.invariant.short

pub moved-requires-clause-place : goal.moved-requires-clause-place
moved-requires-clause-place c =
    let tree = tree_of c.self.inside.root in
    let within : c.places.k < length (flat tree) =
    omega (arith, c.places-test.true, c.requires, ap (λ n. length (flat (tree_of n))) c.self.view_is) in
    let near = short_place (flat tree) c.places.k c.find-place.result (own_short tree ((short_subtrees tree).1 c.self.invariant.short)) within c.find-place.ensures in
    omega (arith, near)

pub places-preserved : goal.places-preserved
places-preserved c =
    let same = ap tree_of c.self.view_is in
    let xs = flat (tree_of c.args.self.now) in
    let before = c.places.invariant ∙ ap (λ b. map place_of (shift b (take c.places.k xs))) (sym c.from.ensures) in
    let disp = c.moved.ensures.disp ∙ ap (λ z. c.find-place.result.disp +ℤ z) (same128 c.from.result c.from.type_inv) in
    listed_more xs c.places.k c.from.result c.places.list.items _ c.find-place.result c.moved.result (omega (arith, c.places-test.true, c.requires))
    before (subst (λ t. IsPlaceAt (flat t) c.places.k c.find-place.result) same c.find-place.ensures) c.moved.ensures.kind disp c.in_ok-push.ensures.items
    ∙ ap (λ b. map place_of (shift b (take (c.places.k + 1) xs))) c.from.ensures

pub returns : goal.returns
returns c =
    let xs = flat (tree_of c.args.self.now) in
    c.places.invariant
    ∙ (ap (λ b. map place_of (shift b (take c.places.k xs))) (to_z-of_z w64 c.args.base c.ranges.base)
    ∙ ap (λ ys. map place_of (shift c.args.base ys)) (take_all c.places.k xs (omega (arith, c.places-test.false, c.requires))))
