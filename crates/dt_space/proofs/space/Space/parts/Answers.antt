use Rattle.std.proofs.Common.{◌≡◌, Some, ap, sym, ◌∙◌}
use Rattle.dt_space.specs.Structures.{parts_at, IsMissingPart}
use Rattle.dt_space.proofs.Packings.{err_so}
use Rattle.dt_space.proofs.Parts.{parts_more, missing_among}
use Rattle.dt_space.proofs.space.Space.parts.Goals as goal

pub parts-preserved : goal.parts-preserved
parts-preserved c =
    parts_more c.args.self.now c.args.parts.now c.parts.part-index _ c.parts.found.items c.in_ok-part.field-0 c.parts-test.true c.parts.invariant c.in_ok-part.ensures
    ∙ ap Some (sym c.in_ok-push.ensures.items)

pub returns-in_err-part : goal.returns-in_err-part
returns-in_err-part c =
    let parts = parts_at c.args.self.now c.args.parts.now in
    err_so c.from_residual.result c.in_err-part.field-0.0 (λ ps. parts ≡ Some ps.items) (IsMissingPart parts) c.from_residual.ensures.1
    (missing_among c.args.self.now c.args.parts.now c.parts.part-index _ c.in_err-part.field-0.0 c.parts-test.true c.in_err-part.ensures)
