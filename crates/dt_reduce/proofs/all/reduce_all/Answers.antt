use Rattle.std.proofs.Common.{length, sym, ap, subst, ◌∙◌}
use Rattle.std.proofs.lemmas.Int.{to_z-of_z}
use Rattle.std.proofs.lemmas.List.{length-map}
use Rattle.std.specs.Int.{w64}
use Rattle.dt_kinds.specs.declared.kind.Rep.TheVariants.{Native}
use Rattle.dt_map.specs.Elements.{Overlaps}
use Rattle.dt_map.specs.Setting.{set_each}
use Rattle.dt_map.specs.Typemap.{shift_entry}
use Rattle.dt_reduce.specs.Folded.{folded_row, bytes_of_row}
use Rattle.dt_reduce.specs.Merges.{Bracket}
use Rattle.dt_reduce.specs.Ranks.{elements_at, AreInside}
use Rattle.dt_reduce.proofs.Rowing.{kinds_anywhere}
use Rattle.dt_unpack.specs.Session.{total_of}
use Rattle.dt_reduce.proofs.all.reduce_all.Goals as goal

pub set_all-requires-clause-all : goal.set_all-requires-clause-all
set_all-requires-clause-all g c =
    ap length c.deref.ensures.value ∙ c.join_all-row.ensures.all ∙ sym (ap total_of c.in_ok-session.ensures.session)

pub returns-clause-bytes : goal.returns-clause-bytes
returns-clause-bytes g c =
    let r = c.args.ranks.now in
    let into = c.args.into.now in
    let fs = elements_at r c.args.origin in
    c.set_all.ensures.bytes
    ∙ ap (λ es. set_each Native es into c.deref.result.now) (c.in_ok-session.ensures.placed ∙ ap (elements_at r) (to_z-of_z w64 c.args.origin c.ranges.origin))
    ∙ ap (set_each Native fs into) (c.deref.ensures.value ∙ c.join_all-row.ensures.row)
    ∙ ap (λ kinds. set_each Native fs into (bytes_of_row kinds (folded_row g.L.Law.join kinds r.rows))) (sym (kinds_anywhere r.typemap r.count c.args.origin))

pub returns-clause-elements : goal.returns-clause-elements
returns-clause-elements g c =
    let s = c.in_ok-session.session in
    c.set_all.ensures.number ∙ sym (length-map s.elements (shift_entry s.origin))
    ∙ ap length (c.in_ok-session.ensures.placed ∙ ap (elements_at c.args.ranks.now) (to_z-of_z w64 c.args.origin c.ranges.origin))

pub returns-clause-possible : goal.returns-clause-possible
returns-clause-possible g c =
    let here = to_z-of_z w64 c.args.origin c.ranges.origin in
    let possible = c.in_ok-session.ensures.possible in
    record {
      placed = record {
        bracketed = subst (λ n. Bracket n c.args.merges.now) c.len-len.ensures.value c.in_default.ensures.bracket;
        inside = subst (λ x. AreInside c.args.ranks.now x (length c.args.into.now)) here possible.0;
      };
      apart = subst (λ x. ¬ Overlaps (elements_at c.args.ranks.now x)) here possible.1;
    }
