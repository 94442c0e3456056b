use Rattle.std.proofs.Common.{◌+ℤ◌, ◌*ℤ◌, ◌*◌, pos, drop, sym, ap, ◌∙◌}
use Rattle.std.proofs.lemmas.Int.{to_z-of_z}
use Rattle.std.specs.Int.{w64}
use mir.Val.{to_z, of_z}
use Rattle.dt_kinds.specs.declared.kind.Rep.TheVariants.{External32}
use Rattle.dt_kinds.specs.Kind.{external_size}
use Rattle.dt_map.specs.Setting.{set_each}
use Rattle.dt_offsets.specs.Offsets.{row_offsets}
use Rattle.dt_rows.specs.Rows.{adjacent}
use Rattle.dt_rows.specs.Storing.{set_rows}
use Rattle.dt_rows.proofs.SettingRows.{rest_of, single_rows}
use Rattle.dt_rows.proofs.Stored.{put_more}
use Rattle.dt_rows.proofs.into_buffer.scatter_element_rows.Goals as goal

pub returns-then-elements-eq1 : goal.returns-then-elements-eq1
returns-then-elements-eq1 c =
    let kind = c.args.kind in
    let places = row_offsets c.args.start c.args.count c.args.step in
    simp (to_z-of_z w64 c.args.start c.ranges.start, to_z-of_z w64 c.args.step c.ranges.step) at c.scatter_elements.ensures
    ∙ single_rows External32 kind c.args.start c.args.step c.args.count c.args.buffer.now c.args.packed.now
    ∙ ap (λ n. set_rows External32 kind n places c.args.buffer.now c.args.packed.now) (sym c.if-elements-eq1.true)

pub rows-preserved : goal.rows-preserved
rows-preserved c =
    let kind = c.args.kind in
    let n = c.args.elements in
    let i = c.rows.i in
    let start = to_z w64 (of_z w64 c.args.start) in
    let step = to_z w64 (of_z w64 c.args.step) in
    let at = to_z-of_z w64 c.place.result (record { sfits = c.place.type_inv }) ∙ c.place.ensures in
    let bytes = c.args.packed.now in
    c.set_row.ensures
    ∙ ap (set_each External32 (adjacent kind n (to_z w64 (of_z w64 c.place.result))) c.rows.buffer) (rest_of bytes (i * (n * c.ext_size.result)))
    ∙ ap (λ x. set_each External32 (adjacent kind n x) c.rows.buffer (drop (i * (n * c.ext_size.result)) bytes)) at
    ∙ ap (λ e. set_each External32 (adjacent kind n (start +ℤ (pos i *ℤ step))) c.rows.buffer (drop (i * (n * e)) bytes)) c.ext_size.ensures
    ∙ ap (λ b. set_each External32 (adjacent kind n (start +ℤ (pos i *ℤ step))) b (drop (i * (n * external_size kind)) bytes)) c.rows.invariant
    ∙ sym (put_more (λ x b images. set_each External32 (adjacent kind n x) b images) (n * external_size kind) start step i c.args.buffer.now bytes)
