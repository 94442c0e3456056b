use Rattle.std.proofs.Common.{◌∙◌, ◌+◌, ◌*◌, ap, sym, length, drop, arith}
use Rattle.dt_tree.specs.declared.node.Node.TheVariants.{Vector, Index}
use Rattle.dt_tree.specs.Node.{tree_of, trees_of}
use Rattle.dt_tree.specs.Number.{capped}
use Rattle.dt_tree.specs.Rule.{depth_of_parts}
use Rattle.dt_tree.specs.Tree.{flat, flat_parts}
use Rattle.dt_tree.proofs.Amounts.{of_vector_number, of_index_number, number_of_part, total_more}
use Rattle.dt_tree.proofs.Nodes.{rest_more}
use Rattle.dt_tree.proofs.count.+number.Goals as goal

pub parts-preserved : goal.parts-preserved
parts-preserved t c =
    let list = c.as_slice-part-items.result.now in
    let p = c.part-item.result in
    let after = trees_of (drop (c.parts.part-index + 1) list) in
    let more = rest_more list c.parts.part-index p c.parts-test.true c.part-item.is in
    let each = length (flat (tree_of p.node)) in
    let one = c.times-one-in-parts.ensures each c.number-in-parts.ensures ∙ ap (λ k. capped (k * each)) c.from-in-parts.ensures in
    let split = ap (λ ps. length (flat_parts ps)) more ∙ number_of_part p.block p.disp (tree_of p.node) after in
    record {
      total = total_more c.parts.total c.times-one-in-parts.result c.min-total.result (p.block * each) (length (flat_parts after)) _ one c.min-total.ensures
          (ap (λ n. capped (c.parts.total + n)) (sym split) ∙ c.parts.invariant.total);
      still = omega (arith, c.min-total.ensures);
      shallow = omega (arith, c.parts.invariant.shallow, ap depth_of_parts more);
    }

pub returns-in-Vector : goal.returns-in-Vector
returns-in-Vector t c =
    let v = c.in-Vector in
    let each = length (flat (tree_of c.get.result.now)) in
    let one = c.times-one.ensures each c.number.ensures in
    c.times.ensures (c.from.result * each) one
    ∙ (ap (λ k. capped (k * (c.from.result * each))) c.from-in-Vector.ensures
    ∙ (ap (λ k. capped (v.count * (k * each))) c.from.ensures
    ∙ ap capped (sym (of_vector_number c.args.node.now v.count v.block v.stride c.get.result.now (v.is ∙ ap (Vector v.count v.block v.stride) (sym c.get.ensures))))))

pub returns-in-Index : goal.returns-in-Index
returns-in-Index t c =
    let v = c.in-Index in
    let each = length (flat (tree_of c.get-in-Index.result.now)) in
    let one = c.times-one-in-Index.ensures each c.number-in-Index.ensures in
    c.times-in-Index.ensures (c.from-in-Index.result * each) one
    ∙ (ap (λ k. capped (k * (c.from-in-Index.result * each))) c.len.ensures
    ∙ (ap (λ k. capped (length v.places * (k * each))) c.from-in-Index.ensures
    ∙ ap capped (sym (of_index_number c.args.node.now v.block v.places c.get-in-Index.result.now (v.is ∙ ap (Index v.block v.places) (sym c.get-in-Index.ensures))))))
