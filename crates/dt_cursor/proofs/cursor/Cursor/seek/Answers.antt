use Rattle.std.proofs.Common.{ap, ◌∙◌, sym, arith}
use Rattle.dt_cursor.specs.Walk.{Walk}
use Rattle.dt_cursor.proofs.Keeping.{kept, stand_kept, walk_at}
use Rattle.dt_map.specs.Packed.{total}
use Rattle.dt_cursor.proofs.cursor.Cursor.seek.Goals as goal

pub invariant_of-self : goal.invariant_of-self
invariant_of-self c =
    let i = c.self.inside in
    let was = c.self.invariant.0 in
    let all = ap (λ (w : Walk). total w.rep w.elements) c.self.view_is in
    let bytes = was.bytes_are in (
      stand_kept i.program.value c.self-1.given.0 i.stands.0 i.rep i.bytes i.stood i.frames i.held was.stands was.bytes_are was.found,
      omega (arith, c.requires, bytes, all),
    )

pub returns : goal.returns
returns c =
    let i = c.self.inside in
    walk_at _ i.stands.0 i.rep c.args.byte (kept i.program.value c.self-1.given.0 i.stands.0 c.self.invariant.0.stands)
    ∙ ap (λ (w : Walk). let v : Walk = record { elements = w.elements; rep = w.rep; position = c.args.byte } in v) c.self.view_is
