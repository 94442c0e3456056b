use Rattle.std.proofs.Common.{◌≡◌, pos, ◌-ℤ◌, subst, sym}
use Rattle.dt_offsets.specs.declared.marks.Marks.{Marks}
use Rattle.dt_map.specs.Bounds.{natural_end}
use Rattle.dt_alike.specs.Extents.{IsWithin}
use Rattle.dt_alike.proofs.Growing.{natural_is}
use Rattle.dt_alike.proofs.extents.natural_extent.Goals as goal

pub returns : goal.returns
returns c =
    let inside : Marks = record { lb = c.span.inside.lb; ub = c.span.inside.ub } in
    let within : IsWithin inside = subst IsWithin (sym c.span.view_is) c.requires.span in
    subst (λ (s : Marks). pos c.abs_diff.result ≡ natural_end s.lb s.ub c.args.align -ℤ s.lb) c.span.view_is
    (natural_is inside c.args.align c.abs_diff.result c.natural_end.result within (record { sfits = c.natural_end.type_inv }) c.natural_end.ensures c.abs_diff.ensures)
