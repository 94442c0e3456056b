use Rattle.std.proofs.Common.{length, sym, ◌∙◌, arith}
use Rattle.std.proofs.lemmas.Bool.{false≢true}
use Rattle.std.proofs.lemmas.Int.{to_z-of_z}
use Rattle.std.specs.Int.{w64}
use mir.Val.{to_z, of_z}
use Rattle.dt_type.specs.Datatype.{typemap_of}
use Rattle.dt_reduce.proofs.Adding.{few_bytes, few_of_one, kept_more, added}
use Rattle.dt_reduce.proofs.ranks.Ranks.add.Goals as goal

pub packed_bytes-requires-clause-few : goal.packed_bytes-requires-clause-few
packed_bytes-requires-clause-few c =
    let i = c.self.inside in
    let m = typemap_of i.ty in
    few_of_one m i.count (to_z w64 (of_z w64 c.args.origin)) (length i.rows.items)
    (few_bytes m i.count i.rows.items c.args.self.now c.self.view_is (λ more. false≢true (sym c.if-is_too_large.false ∙ c.is_too_large.ensures.1 more)))

pub invariant_of-self-2 : goal.invariant_of-self-2
invariant_of-self-2 c =
    let i = c.self.inside in
    let m = typemap_of i.ty in
    let few = c.self.invariant.few in
    let len = c.len.ensures in
    let long = i.rows.ok.0 in
    let room = c.if-len-eq-RANKS_MAX.false in
    kept_more m i.count (to_z w64 (of_z w64 c.args.origin)) c.args.buf.now i.rows.items c.push.new.self.items c.in_ok-row.row (sym c.span_inside.ensures ∙ c.if-not-span_inside.false)
    c.in_ok-row.ensures c.in_ok-push.ensures.items (λ k. omega (arith, c.type_inv.buf k)) c.self.invariant (omega (arith, few, len, long, room))
    (few_bytes m i.count i.rows.items c.args.self.now c.self.view_is (λ more. false≢true (sym c.if-is_too_large.false ∙ c.is_too_large.ensures.1 more)))

pub returns-clause-added : goal.returns-clause-added
returns-clause-added c =
    let i = c.self.inside in
    added (typemap_of i.ty) i.count (to_z w64 (of_z w64 c.args.origin)) c.args.buf.now i.rows.items c.push.new.self.items c.in_ok-row.row (sym c.span_inside.ensures ∙ c.if-not-span_inside.false)
    c.in_ok-row.ensures c.in_ok-push.ensures.items c.args.self.now c.args.origin c.self.view_is (to_z-of_z w64 c.args.origin c.ranges.origin)
