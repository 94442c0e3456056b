use Rattle.std.proofs.Common.{ℤ, pos, sym, ap, ◌∙◌}
use Rattle.std.proofs.lemmas.Int.{to_z-of_z}
use Rattle.std.specs.Int.{w64}
use mir.Val.{to_z, of_z}
use Rattle.dt_kinds.specs.declared.kind.Rep.TheVariants.{External32}
use Rattle.dt_kinds.specs.Image.{restore}
use Rattle.dt_kinds.specs.Kind.{external_size, native_size}
use Rattle.dt_offsets.specs.Offsets.{row_offsets}
use Rattle.dt_rows.specs.Storing.{stored}
use Rattle.dt_rows.proofs.SettingRows.{set_is_stored}
use Rattle.dt_rows.proofs.into_buffer.set_row.Goals as goal

pub returns : goal.returns
returns c =
    let kind = c.args.kind in
    let at = to_z-of_z w64 c.args.at c.ranges.at in
    let size = to_z-of_z w64 c.from.result (record { sfits = c.from.type_inv }) ∙ c.from.ensures ∙ ap (λ n. pos n) c.size.ensures in
    let put : ℤ → ℤ → _ = λ x s. stored (restore External32 kind) (external_size kind) (row_offsets x c.args.elements s) c.args.buffer.now c.args.packed.now in
    c.scatter_elements.ensures ∙ ap (λ x. put x (to_z w64 (of_z w64 c.from.result))) at ∙ ap (put c.args.at) size
    ∙ sym (set_is_stored External32 kind (row_offsets c.args.at c.args.elements (pos (native_size kind))) c.args.buffer.now c.args.packed.now)
