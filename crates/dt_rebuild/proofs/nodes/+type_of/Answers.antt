use Rattle.std.proofs.Common.{rules, ◌∙◌, sym, ap}
use Rattle.dt_tree.specs.declared.node.Node.TheVariants.{Vector, Index, Group}
use Rattle.dt_tree.specs.Node.{tree_of, trees_of}
use Rattle.dt_tree.specs.Rule.{depth_of}
use Rattle.dt_tree.proofs.Limits.{of_vector_fits, of_index_fits, step_back}
use Rattle.dt_rebuild.specs.Answer.{IsMadeBy}
use Rattle.dt_rebuild.specs.Built.{typed, forms_in, type_of_tree}
use Rattle.dt_rebuild.proofs.Answering.{count_back, vector_made, index_made, group_made, group_refused, list_more, taken_more, refused_here, refused_more, fits_more, shallow_more, list_done, nothing_after}
use Rattle.dt_rebuild.proofs.nodes.+type_of.Goals as goal

pub returns-in_ok-old-in-Vector : goal.returns-in_ok-old-in-Vector
returns-in_ok-old-in-Vector t c =
    let is = c.in-Vector.is ∙ ap (Vector c.in-Vector.count c.in-Vector.block c.in-Vector.stride) (sym c.get.ensures) in
    let fits = of_vector_fits c.args.node.now c.in-Vector.count c.in-Vector.block c.in-Vector.stride c.get.result.now c.requires.fits is in
    vector_made c.args.node.now c.in-Vector.count c.in-Vector.block c.in-Vector.stride c.get.result.now is _ _ _ c.in_ok-old-in-Vector.old c.hvector.result c.in_ok-old-in-Vector.ensures
    (count_back c.signed.result c.in-Vector.count c.signed.ensures fits.count_fits.1) (count_back c.signed-in-Vector.result c.in-Vector.block c.signed-in-Vector.ensures fits.block_fits.1)
    (step_back c.in-Vector.stride fits.stride_fits) c.hvector.ensures

pub returns-in_ok-old-in-Index : goal.returns-in_ok-old-in-Index
returns-in_ok-old-in-Index t c =
    let is = c.in-Index.is ∙ ap (Index c.in-Index.block c.in-Index.places) (sym c.get-in-Index.ensures) in
    let fits = of_index_fits c.args.node.now c.in-Index.block c.in-Index.places c.get-in-Index.result.now c.requires.fits is in
    index_made c.args.node.now c.in-Index.block c.in-Index.places c.get-in-Index.result.now is _ c.as_slice.result.now c.in_ok-old-in-Index.old c.hindexed_block.result
    c.in_ok-old-in-Index.ensures (count_back c.signed-in-Index.result c.in-Index.block c.signed-in-Index.ensures fits.block_fits.1) c.as_slice.ensures c.hindexed_block.ensures

pub returns-in_err-type_of-in-Group : goal.returns-in_err-type_of-in-Group
returns-in_err-type_of-in-Group t c =
    let fault = c.in_err-type_of-in-Group.field-0.0 in
    let here = refused_here c.as_slice-part-items.result.now c.parts.part-index c.part-item.result fault c.parts-test.true c.part-item.is c.in_err-type_of-in-Group.ensures in
    let whole = c.parts.invariant.refused fault here in
    group_refused c.args.node.now c.as_slice-part-items.result.now (c.in-Group.is ∙ ap Group (sym c.as_slice-part-items.ensures)) fault c.from_residual-in_err-type_of-in-Group.result
    whole (search rules)

pub returns-after-parts : goal.returns-after-parts
returns-after-parts t c =
    let parts = c.as_slice-part-items.result.now in
    let made = list_done parts c.parts.part-index c.parts.list.items (typed (trees_of parts)) c.parts-test.false c.parts.invariant.typed in
    group_made c.args.node.now parts (c.in-Group.is ∙ ap Group (sym c.as_slice-part-items.ensures)) c.deref.result.now c.structure.result (c.deref.ensures.value ∙ made)
    (c.parts.invariant.taken (nothing_after parts c.parts.part-index c.parts-test.false)) c.structure.ensures

pub parts-preserved : goal.parts-preserved
parts-preserved t c =
    let parts = c.as_slice-part-items.result.now in
    let i = c.parts.part-index in
    let p = c.part-item.result in
    let fits = fits_more parts i p c.parts-test.true c.part-item.is c.parts.invariant.fit in
    let old = c.in_ok-type_of-in-Group.field-0 in
    let made : IsMadeBy (forms_in (tree_of p.node)) (type_of_tree (tree_of p.node)) old = c.in_ok-type_of-in-Group.ensures in
    record {
      fit = fits.rest_fits;
      shallow = shallow_more parts i p (depth_of (tree_of c.args.node.now)) c.parts-test.true c.part-item.is c.parts.invariant.shallow;
      typed =
          list_more parts i p c.parts.list.items c.push.new.self.items _ old (typed (trees_of parts)) c.parts-test.true c.part-item.is c.parts.invariant.typed
          (count_back c.signed-in-parts.result p.block c.signed-in-parts.ensures fits.block_fits.1) made.value (search rules);
      taken = taken_more parts i p old _ c.parts-test.true c.part-item.is c.parts.invariant.taken made;
      refused = λ fault h. c.parts.invariant.refused fault (refused_more parts i p old fault c.parts-test.true c.part-item.is made h);
    }
