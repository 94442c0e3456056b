use mir.Syntax.{w128}
use Rattle.std.proofs.Common.{◌≡◌, ◌∙◌, ◌+◌, Some, take, length, get_or, nat_abs, ◌+ℤ◌, pos, sym, ap}
use Rattle.std.proofs.lemmas.Result.{err_from_is_err_and}
use Rattle.std.proofs.lemmas.Int.{to_z-of_z}
use Rattle.dt_kinds.specs.declared.kind.Kind.TheVariants.{Byte}
use Rattle.dt_map.specs.declared.entry.Entry.{Entry}
use Rattle.dt_map.specs.Elements.{lies_inside}
use Rattle.dt_map.specs.Typemap.{shift, shift_entry}
use Rattle.dt_elems.specs.Taking.{with_elements}
use Rattle.dt_elems.proofs.Taken.{inside_at, entry_taken, entry_found}
use Rattle.dt_elems.proofs.overlap.take_copy.Goals as goal

abbrev first : Entry
first = record { kind = Byte; disp = pos 0 }

pub start_of-start-requires-clause-inside : goal.start_of-start-requires-clause-inside
start_of-start-requires-clause-inside c =
    let es = c.args.entries.now in
    let back = to_z-of_z w128 c.args.at c.ranges.at in
    ap (λ x. lies_inside (length c.entries.taken) (shift_entry x (get_or es c.entries.entry-index first))) back
    ∙ ap (λ len. lies_inside len (shift_entry c.args.at (get_or es c.entries.entry-index first))) c.entries.auto.taken
    ∙ inside_at (length c.args.taken.now) c.args.at es c.entries.entry-index first c.entries-test.true c.requires.inside

pub returns-in_err-take_bytes : goal.returns-in_err-take_bytes
returns-in_err-take_bytes c =
    let es = c.args.entries.now in
    let i = c.entries.entry-index in
    let back = to_z-of_z w128 c.args.at c.ranges.at in
    let so_far : with_elements c.args.taken.now (shift c.args.at (take i es)) ≡ Some c.entries.taken =
    ap (λ x. with_elements c.args.taken.now (shift x (take i es))) (sym back) ∙ c.entries.invariant in
    let at : c.start_of-start.result ≡ nat_abs ((get_or es i first).disp +ℤ c.args.at) = c.start_of-start.ensures.value ∙ ap (λ x. nat_abs ((get_or es i first).disp +ℤ x)) back in
    let p = err_from_is_err_and c.from_residual.result c.from_residual.ensures.1 in
    rw p.1 (entry_found c.args.taken.now c.entries.taken c.args.at es i first c.entries-test.true so_far c.start_of-start.result c.size.result at c.size.ensures c.in_err-take_bytes.ensures)

pub entries-preserved : goal.entries-preserved
entries-preserved c =
    let es = c.args.entries.now in
    let i = c.entries.entry-index in
    let back = to_z-of_z w128 c.args.at c.ranges.at in
    let so_far : with_elements c.args.taken.now (shift c.args.at (take i es)) ≡ Some c.entries.taken =
    ap (λ x. with_elements c.args.taken.now (shift x (take i es))) (sym back) ∙ c.entries.invariant in
    let at : c.start_of-start.result ≡ nat_abs ((get_or es i first).disp +ℤ c.args.at) = c.start_of-start.ensures.value ∙ ap (λ x. nat_abs ((get_or es i first).disp +ℤ x)) back in
    ap (λ x. with_elements c.args.taken.now (shift x (take (i + 1) es))) back
    ∙ entry_taken c.args.taken.now c.entries.taken c.args.at es i first c.entries-test.true so_far c.start_of-start.result c.size.result at c.size.ensures c.in_ok-take_bytes.ensures.0
    ∙ ap Some (sym c.in_ok-take_bytes.ensures.1)
