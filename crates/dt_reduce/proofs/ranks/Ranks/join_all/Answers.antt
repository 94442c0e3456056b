use Rattle.std.proofs.Common.{◌≡◌, pos, sym, ap, subst, ◌∙◌, arith}
use Rattle.std.proofs.lemmas.Bool.{false≢true}
use Rattle.dt_kinds.specs.declared.kind.Rep.TheVariants.{Native}
use Rattle.dt_map.specs.Elements.{elements}
use Rattle.dt_map.specs.Packed.{total}
use Rattle.dt_type.specs.Datatype.{typemap_of}
use Rattle.dt_reduce.specs.Folded.{kinds_of, joined_row, folded_bytes}
use Rattle.dt_reduce.specs.Kept.{rows_of, ranked_of, ArePackedRows}
use Rattle.dt_reduce.specs.Merges.{merged}
use Rattle.dt_reduce.specs.Ranks.{Ranked, elements_at, without_ranks}
use Rattle.dt_reduce.proofs.Leaving.{bracket_of, none_kept, one_left, none_left, row_left, length_left}
use Rattle.dt_reduce.proofs.ranks.Ranks.join_all.Goals as goal

pub unreachable-requires : goal.unreachable-requires
unreachable-requires g c =
    let i = c.self.inside in
    let m = typemap_of i.ty in
    let es = elements m i.count (pos 0) in
    let same : c.args.pairs.now.elements ≡ es = c.requires.elements ∙ ap (λ (r : Ranked). elements_at r (pos 0)) (sym c.self.view_is) in
    let next = c.merge_rows.new.rows in
    let rows = subst (λ fs. rows_of (kinds_of fs) next.items ≡ merged (joined_row g.L.Law.join (kinds_of fs)) c.args.merges.now (rows_of (kinds_of fs) i.rows.items)) same c.merge_rows.ensures.rows in
    let single = one_left g.L.Law.join c.holds.ensures.words c.holds.ensures.associative es i.rows.items next.items c.args.merges.now
    (bracket_of m i.count i.rows.items c.args.self.now c.args.merges.now c.self.view_is c.requires.bracket) c.self.invariant.packed rows in
    let long = next.ok.0 in
    false≢true (c.in-None.ensures.variant.1 (omega (arith, single, long)))

pub invariant_of-self : goal.invariant_of-self
invariant_of-self g c =
    let i = c.self.inside in
    let m = typemap_of i.ty in
    let es = elements m i.count (pos 0) in
    let same : c.args.pairs.now.elements ≡ es = c.requires.elements ∙ ap (λ (r : Ranked). elements_at r (pos 0)) (sym c.self.view_is) in
    let next = c.merge_rows.new.rows in
    let rows = subst (λ fs. rows_of (kinds_of fs) next.items ≡ merged (joined_row g.L.Law.join (kinds_of fs)) c.args.merges.now (rows_of (kinds_of fs) i.rows.items)) same c.merge_rows.ensures.rows in
    none_kept m i.count c.pop.new.self.items
    (none_left g.L.Law.join c.holds.ensures.words c.holds.ensures.associative es i.rows.items next.items c.args.merges.now
    (bracket_of m i.count i.rows.items c.args.self.now c.args.merges.now c.self.view_is c.requires.bracket) c.self.invariant.packed rows c.pop.new.self.items c.in-Some.row c.in-Some.ensures.items)

pub returns-clause-spent : goal.returns-clause-spent
returns-clause-spent g c =
    let i = c.self.inside in
    let m = typemap_of i.ty in
    let es = elements m i.count (pos 0) in
    let same : c.args.pairs.now.elements ≡ es = c.requires.elements ∙ ap (λ (r : Ranked). elements_at r (pos 0)) (sym c.self.view_is) in
    let next = c.merge_rows.new.rows in
    let rows = subst (λ fs. rows_of (kinds_of fs) next.items ≡ merged (joined_row g.L.Law.join (kinds_of fs)) c.args.merges.now (rows_of (kinds_of fs) i.rows.items)) same c.merge_rows.ensures.rows in
    let none = none_left g.L.Law.join c.holds.ensures.words c.holds.ensures.associative es i.rows.items next.items c.args.merges.now
    (bracket_of m i.count i.rows.items c.args.self.now c.args.merges.now c.self.view_is c.requires.bracket) c.self.invariant.packed rows c.pop.new.self.items c.in-Some.row c.in-Some.ensures.items in
    ap (ranked_of m i.count) none ∙ ap (λ (r : Ranked). without_ranks r.typemap r.count) c.self.view_is

pub returns-clause-row : goal.returns-clause-row
returns-clause-row g c =
    let i = c.self.inside in
    let m = typemap_of i.ty in
    let es = elements m i.count (pos 0) in
    let same : c.args.pairs.now.elements ≡ es = c.requires.elements ∙ ap (λ (r : Ranked). elements_at r (pos 0)) (sym c.self.view_is) in
    let next = c.merge_rows.new.rows in
    let rows = subst (λ fs. rows_of (kinds_of fs) next.items ≡ merged (joined_row g.L.Law.join (kinds_of fs)) c.args.merges.now (rows_of (kinds_of fs) i.rows.items)) same c.merge_rows.ensures.rows in
    row_left g.L.Law.join c.holds.ensures.words c.holds.ensures.associative es i.rows.items next.items c.args.merges.now
    (bracket_of m i.count i.rows.items c.args.self.now c.args.merges.now c.self.view_is c.requires.bracket) c.self.invariant.packed rows c.pop.new.self.items c.in-Some.row c.in-Some.ensures.items
    (subst (λ fs. ArePackedRows fs next.items) same c.merge_rows.ensures.packed)
    ∙ ap (λ (r : Ranked). folded_bytes g.L.Law.join (elements_at r (pos 0)) r.rows) c.self.view_is

pub returns-clause-all : goal.returns-clause-all
returns-clause-all g c =
    let i = c.self.inside in
    let m = typemap_of i.ty in
    let es = elements m i.count (pos 0) in
    let same : c.args.pairs.now.elements ≡ es = c.requires.elements ∙ ap (λ (r : Ranked). elements_at r (pos 0)) (sym c.self.view_is) in
    let next = c.merge_rows.new.rows in
    let rows = subst (λ fs. rows_of (kinds_of fs) next.items ≡ merged (joined_row g.L.Law.join (kinds_of fs)) c.args.merges.now (rows_of (kinds_of fs) i.rows.items)) same c.merge_rows.ensures.rows in
    length_left g.L.Law.join c.holds.ensures.words c.holds.ensures.associative es i.rows.items next.items c.args.merges.now
    (bracket_of m i.count i.rows.items c.args.self.now c.args.merges.now c.self.view_is c.requires.bracket) c.self.invariant.packed rows c.pop.new.self.items c.in-Some.row c.in-Some.ensures.items
    (subst (λ fs. ArePackedRows fs next.items) same c.merge_rows.ensures.packed)
    ∙ ap (λ (r : Ranked). total Native (elements_at r (pos 0))) c.self.view_is
