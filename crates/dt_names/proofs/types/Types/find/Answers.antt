use Rattle.std.proofs.Common.{inl, inr, refl, sym, ◌∙◌}
use Rattle.dt_names.proofs.WordLemmas.{plain_found, plain_lost}
use Rattle.dt_names.proofs.types.Types.find.Goals as goal

pub returns-in-Some-get : goal.returns-in-Some-get
returns-in-Some-get c =
    let held = c.in-Some-get.held in (
      record { ty = held.ty.now; committed = held.committed },
      plain_found c.args.self.now.entries c.args.word.now c.in-Some.name _ c.in-Some.ensures (sym c.is_reserved.ensures ∙ c.if-is_reserved.false) c.in-Some-get.ensures,
      c.found_of.ensures,
    )

pub returns-in-None : goal.returns-in-None
returns-in-None c =
    inl (refl, inr (plain_lost c.args.self.now.entries c.args.word.now c.in-Some.name c.in-Some.ensures (sym c.is_reserved.ensures ∙ c.if-is_reserved.false) c.in-None.ensures))
