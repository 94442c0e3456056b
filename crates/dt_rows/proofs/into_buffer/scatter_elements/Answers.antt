use Rattle.std.proofs.Common.{◌≡◌, arith, refl, ◌∙◌}
use Rattle.std.proofs.lemmas.Int.{to_z-of_z}
use Rattle.std.specs.Int.{w64}
use Rattle.dt_kinds.specs.Kind.{external_size, native_size}
use Rattle.dt_rows.proofs.SettingRows.{single_bytes, turned_elements}
use Rattle.dt_rows.proofs.into_buffer.scatter_elements.Goals as goal

pub returns-in-Some-eq1 : goal.returns-in-Some-eq1
returns-in-Some-eq1 c =
    let kind = c.args.kind in
    let is = c.in-Some-eq1.field-0-is in
    let both = c.in-Some-eq1.ensures in
    let sizes : (native_size kind ≡ 1) × (external_size kind ≡ 1) = (omega (arith, is, both), omega (arith, is, both)) in
    simp (to_z-of_z w64 c.args.start c.ranges.start, to_z-of_z w64 c.args.step c.ranges.step) at c.scatter_stores.ensures
    ∙ single_bytes kind c.args.start c.args.step c.args.count 1 c.args.buffer.now c.args.packed.now sizes c.requires.enough refl

pub returns-in-Some-eq2 : goal.returns-in-Some-eq2
returns-in-Some-eq2 c =
    let kind = c.args.kind in
    let is = c.in-Some-eq2.field-0-is in
    let both = c.in-Some-eq2.ensures in
    let sizes : (native_size kind ≡ 2) × (external_size kind ≡ 2) = (omega (arith, is, both), omega (arith, is, both)) in
    simp (to_z-of_z w64 c.args.start c.ranges.start, to_z-of_z w64 c.args.step c.ranges.step) at c.scatter_stores-in-Some-eq2.ensures
    ∙ turned_elements kind c.args.start c.args.step c.args.count 2 c.args.buffer.now c.args.packed.now sizes c.requires.enough

pub returns-in-Some-eq4 : goal.returns-in-Some-eq4
returns-in-Some-eq4 c =
    let kind = c.args.kind in
    let is = c.in-Some-eq4.field-0-is in
    let both = c.in-Some-eq4.ensures in
    let sizes : (native_size kind ≡ 4) × (external_size kind ≡ 4) = (omega (arith, is, both), omega (arith, is, both)) in
    simp (to_z-of_z w64 c.args.start c.ranges.start, to_z-of_z w64 c.args.step c.ranges.step) at c.scatter_stores-in-Some-eq4.ensures
    ∙ turned_elements kind c.args.start c.args.step c.args.count 4 c.args.buffer.now c.args.packed.now sizes c.requires.enough

pub returns-in-Some-eq8 : goal.returns-in-Some-eq8
returns-in-Some-eq8 c =
    let kind = c.args.kind in
    let is = c.in-Some-eq8.field-0-is in
    let both = c.in-Some-eq8.ensures in
    let sizes : (native_size kind ≡ 8) × (external_size kind ≡ 8) = (omega (arith, is, both), omega (arith, is, both)) in
    simp (to_z-of_z w64 c.args.start c.ranges.start, to_z-of_z w64 c.args.step c.ranges.step) at c.scatter_stores-in-Some-eq8.ensures
    ∙ turned_elements kind c.args.start c.args.step c.args.count 8 c.args.buffer.now c.args.packed.now sizes c.requires.enough
