use Rattle.std.proofs.Common.{◌≡◌, ap, sym, ◌∙◌, arith}
use Rattle.std.specs.List.{flat_map}
use Rattle.dt_map.specs.Setting.{set_each}
use Rattle.dt_map.specs.Typemap.{shift}
use Rattle.dt_offsets.specs.Offsets.{row_offsets}
use Rattle.dt_rows.specs.Rows.{adjacent}
use Rattle.dt_unpack.proofs.Taking.{nothing_each}
use Rattle.dt_unpack.proofs.parts.set_whole.Goals as goal

pub returns-else-rows-gt0 : goal.returns-else-rows-gt0
returns-else-rows-gt0 c =
    let r = c.args.rows.now in
    let places = row_offsets r.run.disp r.rows r.step in
    let none : r.run.elements ≡ 0 = let tested = c.if-rows-gt0.false in omega (arith, tested) in
    sym (ap (λ k. set_each c.args.rep (shift c.args.origin (flat_map (adjacent r.run.kind k) places)) c.args.buffer.now c.args.packed.now) none
    ∙ ap (λ es. set_each c.args.rep (shift c.args.origin es) c.args.buffer.now c.args.packed.now) (nothing_each r.run.kind places))
