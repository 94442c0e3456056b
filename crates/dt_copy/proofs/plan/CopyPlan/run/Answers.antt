use Rattle.std.proofs.Common.{length, sym, ap, ◌∙◌, arith}
use Rattle.dt_map.specs.Elements.{are_inside}
use Rattle.dt_copy.specs.Copied.{copied}
use Rattle.dt_copy.specs.Plan.{Copy}
use Rattle.dt_copy.specs.Side.{Reader, bytes_of}
use Rattle.dt_copy.proofs.Elements.{copied_bytes, length-bytes_of, no_more_bytes}
use Rattle.dt_copy.proofs.plan.CopyPlan.run.Goals as goal

pub copy_bytes-requires-clause-room : goal.copy_bytes-requires-clause-room
copy_bytes-requires-clause-room c =
    let i = c.self.inside in
    let source = ap (λ (r : Reader). length (bytes_of r.elements)) c.rewind.ensures in
    let target = ap (λ (r : Reader). length (bytes_of r.elements)) c.rewind-2.ensures in
    let fewer = no_more_bytes i.source.elements i.target.elements c.self.invariant.can.alike in
    omega (arith, source, target, fewer, length-bytes_of i.source.elements, length-bytes_of i.target.elements)

pub returns-clause-bytes : goal.returns-clause-bytes
returns-clause-bytes c =
    let i = c.self.inside in
    let s = c.args.source.now in
    let t = c.args.target.now in
    let can = c.self.invariant.can in
    let inside = can.enough.settable.inside in
    let from = c.requires.source ∙ ap (λ (p : Copy). p.source_len) (sym c.self.view_is) in
    let to = c.requires.target ∙ ap (λ (p : Copy). p.target_len) (sym c.self.view_is) in
    c.copy_bytes.ensures.bytes
    ∙ ap (λ (r : Reader). copied (bytes_of r.elements) (bytes_of c.rewind-2.new.self.elements) s t) c.rewind.ensures
    ∙ ap (λ (r : Reader). copied (bytes_of i.source.elements) (bytes_of r.elements) s t) c.rewind-2.ensures
    ∙ copied_bytes i.source.elements i.target.elements s t can.alike (ap (λ n. are_inside n i.source.elements) from ∙ inside.source) (ap (λ n. are_inside n i.target.elements) to ∙ inside.target)
    ∙ ap (λ (p : Copy). copied p.source p.target s t) c.self.view_is
