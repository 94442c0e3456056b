use mir.Syntax.{w128}
use mir.Val.{to_z, of_z}
use Rattle.std.specs.Prelude.{slice_get}
use Rattle.std.specs.Option.{option_map}
use Rattle.std.proofs.Common.{◌≡◌, ◌∙◌, sym, ap, subst, arith, ◌<◌, ◌/◌, ◌%◌, ◌+◌, ◌*◌, ◌^◌, ◌+ℤ◌, ◌*ℤ◌, pos, length, get_or, nat_abs, ℤ}
use Rattle.std.proofs.lemmas.Option.{get_or_from_slice_get}
use Rattle.dt_map.specs.declared.bounds.Bounds.{Bounds}
use Rattle.dt_map.specs.Typemap.{shift_entry}
use Rattle.dt_type.specs.Datatype.{typemap_of, entries_of}
use Rattle.dt_offsets.specs.Offsets.{row_offsets}
use Rattle.dt_type.proofs.CopyAt.{each_some, copy_within, entry_of_copy}
use Rattle.dt_offsets.proofs.GridAt.{row_at}
use Rattle.dt_offsets.proofs.Products.{same128, factor_back}
use Rattle.dt_offsets.proofs.Reaches.{count-row}
use Rattle.dt_type.proofs.entries.in_row.Goals as goal

pub nonzero_div-entry : goal.nonzero_div-entry
nonzero_div-entry c = let each = ap (λ (b : Bounds). b.elements) c.bounds-each.ensures.value in let h = each_some (row_offsets c.args.first c.args.copies c.args.step) (typemap_of c.args.old.now) c.args.entry c.requires.within in omega arith

pub nonzero_rem-result : goal.nonzero_rem-result
nonzero_rem-result c = let each = ap (λ (b : Bounds). b.elements) c.bounds-each.ensures.value in let h = each_some (row_offsets c.args.first c.args.copies c.args.step) (typemap_of c.args.old.now) c.args.entry c.requires.within in omega arith

pub along-offset-requires-clause-near : goal.along-offset-requires-clause-near
along-offset-requires-clause-near c =
    let each = ap (λ (b : Bounds). b.elements) c.bounds-each.ensures.value in
    let one = ap (λ n. c.args.entry / n) each in
    let within = copy_within (row_offsets c.args.first c.args.copies c.args.step) (typemap_of c.args.old.now) c.args.entry c.requires.within in
    let long = count-row c.args.first c.args.step c.args.copies in
    let copies = c.ranges.copies.fits in
    let first = factor_back c.args.first c.requires.first in
    let small = c.requires.first in
    let near : nat_abs c.args.first + c.args.entry / c.bounds-each.result.elements * 2 ^ 93 < 2 ^ 126 = omega arith in
    let P : ℤ → Type 0 = λ x. nat_abs x + c.args.entry / c.bounds-each.result.elements * 2 ^ 93 < 2 ^ 126 in
    subst P (sym first) near

pub returns : goal.returns
returns c =
    let each = ap (λ (b : Bounds). b.elements) c.bounds-each.ensures.value in
    let within = copy_within (row_offsets c.args.first c.args.copies c.args.step) (typemap_of c.args.old.now) c.args.entry c.requires.within in
    let long = count-row c.args.first c.args.step c.args.copies in
    let one = ap (λ n. c.args.entry / n) each in
    let first = factor_back c.args.first c.requires.first in
    let step = factor_back c.args.step c.requires.step in
    let value : c.along-offset.result ≡ c.args.first +ℤ (pos (c.args.entry / c.bounds-each.result.elements) *ℤ c.args.step) = cc in
    let offset : get_or (row_offsets c.args.first c.args.copies c.args.step) (c.args.entry / length (entries_of c.args.old.now)) (pos 0) ≡ to_z w128 (of_z w128 c.along-offset.result) =
    ap (λ n. get_or (row_offsets c.args.first c.args.copies c.args.step) (c.args.entry / n) (pos 0)) (sym each)
    ∙ get_or_from_slice_get (row_offsets c.args.first c.args.copies c.args.step) (c.args.entry / c.bounds-each.result.elements) (c.args.first +ℤ (pos (c.args.entry / c.bounds-each.result.elements) *ℤ c.args.step)) (pos 0)
    (row_at c.args.first c.args.step c.args.copies (c.args.entry / c.bounds-each.result.elements) (omega arith))
    ∙ sym value
    ∙ sym (same128 c.along-offset.result c.along-offset.type_inv) in
    entry_of_copy (row_offsets c.args.first c.args.copies c.args.step) (typemap_of c.args.old.now) c.args.entry c.requires.within
    ∙ ap (λ x. option_map (shift_entry x) (slice_get (entries_of c.args.old.now) (c.args.entry % length (entries_of c.args.old.now)))) offset
    ∙ ap (λ n. option_map (shift_entry (to_z w128 (of_z w128 c.along-offset.result))) (slice_get (entries_of c.args.old.now) (c.args.entry % n))) (sym each)
