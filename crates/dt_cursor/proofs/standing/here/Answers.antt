use Rattle.std.proofs.Common.{◌∙◌, Some, ap, sym}
use Rattle.dt_cursor.proofs.Elements.{element_here}
use Rattle.dt_cursor.proofs.standing.here.Goals as goal

pub returns : goal.returns
returns c es stand =
    element_here c.args.program.now c.args.frames.now es c.in_ok-frame.frame c.in-One.kind (sym c.innermost.ensures ∙ c.in_ok-frame.was) (c.at.ensures ∙ ap Some c.in-One.is) stand
