use mir.Syntax.{w128}
use mir.Val.{to_z, of_z}
use Rattle.std.specs.Prelude.{slice_get}
use Rattle.std.specs.Option.{option_map}
use Rattle.std.proofs.Common.{◌≡◌, ◌∙◌, sym, ap, arith, ◌/◌, ◌%◌, pos, length, get_or}
use Rattle.std.proofs.lemmas.Option.{get_or_from_slice_get}
use Rattle.dt_map.specs.declared.bounds.Bounds.{Bounds}
use Rattle.dt_map.specs.Typemap.{shift_entry}
use Rattle.dt_type.specs.Datatype.{typemap_of, entries_of}
use Rattle.dt_offsets.specs.Offsets.{spot_offsets}
use Rattle.dt_type.proofs.CopyAt.{each_some, copy_within, entry_of_copy}
use Rattle.dt_offsets.proofs.Products.{same128}
use Rattle.dt_type.proofs.entries.in_spots.Goals as goal

pub nonzero_div-entry : goal.nonzero_div-entry
nonzero_div-entry c = let each = ap (λ (b : Bounds). b.elements) c.bounds-each.ensures.value in let h = each_some (spot_offsets c.args.spots.now) (typemap_of c.args.old.now) c.args.entry c.requires.within in omega arith

pub nonzero_rem-result : goal.nonzero_rem-result
nonzero_rem-result c = let each = ap (λ (b : Bounds). b.elements) c.bounds-each.ensures.value in let h = each_some (spot_offsets c.args.spots.now) (typemap_of c.args.old.now) c.args.entry c.requires.within in omega arith

pub spots_at-offset-requires-clause-within : goal.spots_at-offset-requires-clause-within
spots_at-offset-requires-clause-within c =
    let each = ap (λ (b : Bounds). b.elements) c.bounds-each.ensures.value in
    let one = ap (λ n. c.args.entry / n) each in
    let within = copy_within (spot_offsets c.args.spots.now) (typemap_of c.args.old.now) c.args.entry c.requires.within in
    omega arith

pub returns : goal.returns
returns c =
    let each = ap (λ (b : Bounds). b.elements) c.bounds-each.ensures.value in
    let offset : get_or (spot_offsets c.args.spots.now) (c.args.entry / length (entries_of c.args.old.now)) (pos 0) ≡ to_z w128 (of_z w128 c.spots_at-offset.result) =
    ap (λ n. get_or (spot_offsets c.args.spots.now) (c.args.entry / n) (pos 0)) (sym each)
    ∙ get_or_from_slice_get (spot_offsets c.args.spots.now) (c.args.entry / c.bounds-each.result.elements) c.spots_at-offset.result (pos 0) c.spots_at-offset.ensures
    ∙ sym (same128 c.spots_at-offset.result c.spots_at-offset.type_inv) in
    entry_of_copy (spot_offsets c.args.spots.now) (typemap_of c.args.old.now) c.args.entry c.requires.within
    ∙ ap (λ x. option_map (shift_entry x) (slice_get (entries_of c.args.old.now) (c.args.entry % length (entries_of c.args.old.now)))) offset
    ∙ ap (λ n. option_map (shift_entry (to_z w128 (of_z w128 c.spots_at-offset.result))) (slice_get (entries_of c.args.old.now) (c.args.entry % n))) (sym each)
