use mir.Syntax.{w128}
use mir.Val.{to_z, of_z}
use Rattle.std.specs.Prelude.{slice_get}
use Rattle.std.specs.Option.{option_map}
use Rattle.std.proofs.Common.{◌≡◌, ◌∙◌, sym, ap, arith, ◌/◌, ◌%◌, pos, length, get_or}
use Rattle.dt_map.specs.declared.bounds.Bounds.{Bounds}
use Rattle.dt_map.specs.Typemap.{shift_entry}
use Rattle.dt_type.specs.Datatype.{typemap_of, entries_of}
use Rattle.dt_offsets.specs.Offsets.{grid_offsets}
use Rattle.dt_type.proofs.CopyAt.{each_some, copies, copy_within, entry_of_copy}
use Rattle.dt_offsets.proofs.Products.{same128}
use Rattle.dt_type.proofs.entries.in_grid.Goals as goal

pub nonzero_div-entries : goal.nonzero_div-entries
nonzero_div-entries c = let each = ap (λ (b : Bounds). b.elements) c.bounds-each.ensures.value in let h = each_some (grid_offsets c.args.turns.now) (typemap_of c.args.old.now) c.args.entry (let h = c.requires.entries in let k = c.requires.within in omega arith) in omega arith

pub nonzero_div-entry : goal.nonzero_div-entry
nonzero_div-entry c = let each = ap (λ (b : Bounds). b.elements) c.bounds-each.ensures.value in let h = each_some (grid_offsets c.args.turns.now) (typemap_of c.args.old.now) c.args.entry (let h = c.requires.entries in let k = c.requires.within in omega arith) in omega arith

pub nonzero_rem-result : goal.nonzero_rem-result
nonzero_rem-result c = let each = ap (λ (b : Bounds). b.elements) c.bounds-each.ensures.value in let h = each_some (grid_offsets c.args.turns.now) (typemap_of c.args.old.now) c.args.entry (let h = c.requires.entries in let k = c.requires.within in omega arith) in omega arith

pub grid_at-offset-requires-clause-copies : goal.grid_at-offset-requires-clause-copies
grid_at-offset-requires-clause-copies c =
    let each = ap (λ (b : Bounds). b.elements) c.bounds-each.ensures.value in
    ap (λ n. c.args.entries / n) each ∙ ap (λ n. n / length (entries_of c.args.old.now)) c.requires.entries ∙ copies (grid_offsets c.args.turns.now) (typemap_of c.args.old.now) c.args.entry (let h = c.requires.entries in let k = c.requires.within in omega arith)

pub grid_at-offset-requires-clause-within : goal.grid_at-offset-requires-clause-within
grid_at-offset-requires-clause-within c =
    let each = ap (λ (b : Bounds). b.elements) c.bounds-each.ensures.value in
    let all : c.args.entries / c.bounds-each.result.elements ≡ length (grid_offsets c.args.turns.now) =
    ap (λ n. c.args.entries / n) each ∙ ap (λ n. n / length (entries_of c.args.old.now)) c.requires.entries ∙ copies (grid_offsets c.args.turns.now) (typemap_of c.args.old.now) c.args.entry (let h = c.requires.entries in let k = c.requires.within in omega arith) in
    let one = ap (λ n. c.args.entry / n) each in
    let within = copy_within (grid_offsets c.args.turns.now) (typemap_of c.args.old.now) c.args.entry (let h = c.requires.entries in let k = c.requires.within in omega arith) in
    omega arith

pub returns : goal.returns
returns c =
    let each = ap (λ (b : Bounds). b.elements) c.bounds-each.ensures.value in
    let offset : get_or (grid_offsets c.args.turns.now) (c.args.entry / length (entries_of c.args.old.now)) (pos 0) ≡ to_z w128 (of_z w128 c.grid_at-offset.result) =
    ap (λ n. get_or (grid_offsets c.args.turns.now) (c.args.entry / n) (pos 0)) (sym each) ∙ sym c.grid_at-offset.ensures ∙ sym (same128 c.grid_at-offset.result c.grid_at-offset.type_inv) in
    entry_of_copy (grid_offsets c.args.turns.now) (typemap_of c.args.old.now) c.args.entry (let h = c.requires.entries in let k = c.requires.within in omega arith)
    ∙ ap (λ x. option_map (shift_entry x) (slice_get (entries_of c.args.old.now) (c.args.entry % length (entries_of c.args.old.now)))) offset
    ∙ ap (λ n. option_map (shift_entry (to_z w128 (of_z w128 c.grid_at-offset.result))) (slice_get (entries_of c.args.old.now) (c.args.entry % n))) (sym each)
