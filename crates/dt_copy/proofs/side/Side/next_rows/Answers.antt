use Rattle.std.proofs.Common.{◌+◌, ◌+ℤ◌, length, refl, SFits, sym, ap, subst, ◌∙◌, arith, rules}
use Rattle.std.proofs.lemmas.Bool.{false≢true}
use Rattle.std.proofs.lemmas.Int.{to_z-of_z}
use Rattle.std.specs.Int.{w64}
use Rattle.dt_kinds.specs.declared.kind.Rep.TheVariants.{Native}
use Rattle.dt_rows.specs.Pieces.{IsPiece}
use Rattle.dt_rows.proofs.Totals.{some_bytes}
use Rattle.dt_copy.specs.Side.{AreNextBytes, bytes_at_rows, bytes_of}
use Rattle.dt_copy.proofs.Given.{first_inside, rows_are_next, whole_bytes}
use Rattle.dt_copy.proofs.side.Side.next_rows.Goals as goal

pub named_bytes-requires-clause-first : goal.named_bytes-requires-clause-first
named_bytes-requires-clause-first c =
    let i = c.self.inside in
    let rows = c.in-Some.rows in
    let fits : SFits w64 i.origin = search rules in
    subst (λ x. IsPiece i.len (rows.run.skip + rows.run.bytes) (rows.run.disp +ℤ x)) (sym (to_z-of_z w64 i.origin fits))
    (first_inside i.cursor rows c.in-Some.ensures.next c.self.invariant.native i.origin i.len c.self.invariant.inside)

pub returns-clause-next : goal.returns-clause-next
returns-clause-next c =
    let i = c.self.inside in
    let rows = c.in-Some.rows in
    let fits : SFits w64 i.origin = search rules in
    let named = c.named_bytes.ensures ∙ ap (λ x. bytes_at_rows x rows) (to_z-of_z w64 i.origin fits) in
    subst (λ q. AreNextBytes c.args.self.now q) (sym named)
    (subst (λ r. AreNextBytes r (bytes_at_rows i.origin rows)) c.self.view_is
    (rows_are_next i.cursor rows c.in-Some.ensures.next c.self.invariant.native i.origin i.len c.self.invariant.inside c.self.invariant.small))

pub returns-clause-end : goal.returns-clause-end
returns-clause-end c =
    let next = returns-clause-next c in
    let some = some_bytes Native c.named_bytes.result next.shape in
    let within = next.within in
    (λ none. absurd (false≢true (sym none)), λ ended. absurd (omega (arith, ended, some, within)))

pub returns-in_default-clause-end : goal.returns-in_default-clause-end
returns-in_default-clause-end c =
    let i = c.self.inside in (
      λ none. ap (λ r. r.position) (sym c.self.view_is) ∙ c.in_default.ensures.end.0 none
          ∙ whole_bytes i.cursor i.origin c.self.invariant.native ∙ ap (λ r. length (bytes_of r.elements)) c.self.view_is,
      λ ended. refl,
    )
