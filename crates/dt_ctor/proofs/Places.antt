-- A shape for a form that is the same.
use Rattle.std.specs.Prelude.{◌≡◌}
use Rattle.std.proofs.Common.{sym, subst}
use Rattle.dt_type.specs.declared.datatype.Seen.{Seen}
use Rattle.dt_form.specs.declared.form.FormOf.{FormOf}
use Rattle.dt_type.specs.declared.shape.ShapeOf.{ShapeOf}
use Rattle.dt_ctor.specs.Places.{Places}

pub placed_again : (s : ShapeOf Seen) (f g : FormOf Seen) → Places s f → g ≡ f → Places s g
placed_again s f g h e = subst (Places s) (sym e) h
