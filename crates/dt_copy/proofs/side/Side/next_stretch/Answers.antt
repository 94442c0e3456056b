use Rattle.std.proofs.Common.{◌*◌, length, refl, sym, ap, subst, ◌∙◌, arith}
use Rattle.std.proofs.lemmas.Bool.{false≢true}
use Rattle.dt_copy.specs.declared.side.Stretch.{Stretch}
use Rattle.dt_copy.specs.Side.{IsNextStretch, kinds_of}
use Rattle.dt_copy.proofs.Given.{stretch_is_next, whole_kinds}
use Rattle.dt_copy.proofs.side.Side.next_stretch.Goals as goal

pub returns-clause-next : goal.returns-clause-next
returns-clause-next c =
    let i = c.self.inside in
    let rows = c.in-Some.rows in
    let stretch : Stretch = record { kind = rows.run.kind; bytes = rows.rows * rows.run.bytes } in
    subst (λ r. IsNextStretch r stretch) c.self.view_is (stretch_is_next i.cursor rows c.in-Some.ensures.next c.self.invariant.native i.origin i.len)

pub returns-clause-end : goal.returns-clause-end
returns-clause-end c =
    let next = returns-clause-next c in
    let some = next.some in
    let within = next.within in
    (λ none. absurd (false≢true (sym none)), λ ended. absurd (omega (arith, ended, some, within)))

pub returns-in_default-clause-end : goal.returns-in_default-clause-end
returns-in_default-clause-end c =
    let i = c.self.inside in (
      λ none. ap (λ r. r.position) (sym c.self.view_is) ∙ c.in_default.ensures.end.0 none
          ∙ whole_kinds i.cursor i.origin c.self.invariant.native ∙ ap (λ r. length (kinds_of r.elements)) c.self.view_is,
      λ ended. refl,
    )
