use Rattle.std.proofs.Common.{◌≡◌, length, ap, ◌∙◌, arith}
use Rattle.std.proofs.lemmas.List.{with_items_is}
use Rattle.std.specs.Vec.{with_items}
use Rattle.dt_reduce.specs.Folded.{kinds_of}
use Rattle.dt_reduce.specs.Kept.{joined_packed}
use Rattle.dt_reduce.specs.Paired.{Paired}
use Rattle.dt_reduce.proofs.Storing.{merge_more}
use Rattle.dt_reduce.proofs.ranks.merge_rows.Goals as goal

pub merges-preserved : goal.merges-preserved
merges-preserved g c =
    let inv = c.merges.invariant in
    let same = inv.elements in
    let kinds = kinds_of c.args.pairs.now.elements in
    let v = c.index_mut.result.now in
    let kept = c.join_packed.auto.target in
    let stored = v.ok.0 in
    let lent = ap length c.deref_mut.ensures.value in
    let long : length c.join_packed.new.target ≡ v.len = omega (arith, kept, stored, lent) in
    let joined =
    with_items_is v c.join_packed.new.target long
    ∙ c.join_packed.ensures.row
    ∙ ap (λ es. joined_packed g.L.Law.join (kinds_of es) c.deref.result.now c.deref_mut.result.now) same
    ∙ ap (λ a. joined_packed g.L.Law.join kinds a c.deref_mut.result.now) c.deref.ensures.value
    ∙ ap (joined_packed g.L.Law.join kinds c.remove-first.result.items) c.deref_mut.ensures.value in
    let more = merge_more g.L.Law.join c.holds.ensures.words c.args.pairs.now.elements c.args.merges.now c.merges.merge-index c.args.rows.now.items c.merges.rows.items c.remove-first.new.self.items
    c.remove-first.result c.index_mut.result.now (with_items c.index_mut.result.now c.join_packed.new.target) c.merges-test.true c.requires.bracket (record { rows = inv.rows; packed = inv.packed; count = inv.count })
    c.remove-first.ensures.value c.remove-first.ensures.items c.index_mut.ensures.value joined in
    record {
      rows = more.rows;
      packed = more.packed;
      count = more.count;
      elements = ap (λ (p : Paired). p.elements) c.join_packed.ensures.passed ∙ same;
    }
