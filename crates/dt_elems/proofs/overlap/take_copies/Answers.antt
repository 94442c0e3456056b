use mir.Syntax.{w64, w128}
use mir.Val.{to_z, of_z}
use Rattle.std.proofs.Common.{◌≡◌, ◌∙◌, ◌+◌, SFits, Option, Some, None, ℤ, List, Bool, length, sym, ap}
use Rattle.std.proofs.lemmas.Int.{to_z-of_z}
use Rattle.std.proofs.lemmas.Result.{err_from_is_err_and}
use Rattle.dt_map.specs.declared.entry.Entry.{Entry}
use Rattle.dt_map.specs.Bounds.{extent_of}
use Rattle.dt_map.specs.Elements.{elements, are_inside}
use Rattle.dt_map.specs.Typemap.{shift}
use Rattle.dt_type.specs.Datatype.{typemap_of}
use Rattle.dt_elems.specs.Taking.{with_elements}
use Rattle.dt_elems.proofs.Among.{copy_inside}
use Rattle.dt_elems.proofs.Places.{place_of}
use Rattle.dt_elems.proofs.Taken.{copy_taken, copy_found}
use Rattle.dt_elems.proofs.overlap.take_copies.Goals as goal

pub take_copy-requires-clause-inside : goal.take_copy-requires-clause-inside
take_copy-requires-clause-inside c =
    let len = length c.args.taken.now in
    let m = typemap_of c.args.ty.now in
    let fits : SFits w128 c.copy_at.result = record { sfits = c.copy_at.type_inv } in
    let place = place_of c.args.origin c.extent-extent.result (extent_of (typemap_of c.args.ty.now)) c.copy_at.result c.copies.copy c.ranges.origin (record { sfits = c.extent-extent.type_inv }) c.extent-extent.ensures.value c.copy_at.ensures.value in
    ap (λ x. are_inside (length c.copies.taken) (shift x c.args.entries.now)) (to_z-of_z w128 c.copy_at.result fits)
    ∙ ap (λ n. are_inside n (shift c.copy_at.result c.args.entries.now)) c.copies.auto.taken
    ∙ ap (λ es. are_inside len (shift c.copy_at.result es)) c.requires.listed
    ∙ copy_inside len c.args.count c.copies.copy m c.args.origin c.copy_at.result c.copies-test.true place c.requires.inside

-- a copy at its place, as the code converts it
seen : (taken : List Bool) (at : ℤ) (es fs : List Entry) (found : Option (List Bool)) → SFits w128 at → es ≡ fs → with_elements taken (shift (to_z w128 (of_z w128 at)) es) ≡ found → with_elements taken (shift at fs) ≡ found
seen taken at es fs found fits same is =
    ap (λ gs. with_elements taken (shift at gs)) (sym same) ∙ ap (λ x. with_elements taken (shift x es)) (sym (to_z-of_z w128 at fits)) ∙ is

pub returns-in_err-take_copy : goal.returns-in_err-take_copy
returns-in_err-take_copy c =
    let m = typemap_of c.args.ty.now in
    let origin = to_z-of_z w64 c.args.origin c.ranges.origin in
    let fits : SFits w128 c.copy_at.result = record { sfits = c.copy_at.type_inv } in
    let place = place_of c.args.origin c.extent-extent.result (extent_of (typemap_of c.args.ty.now)) c.copy_at.result c.copies.copy c.ranges.origin (record { sfits = c.extent-extent.type_inv }) c.extent-extent.ensures.value c.copy_at.ensures.value in
    let so_far = ap (λ x. with_elements c.args.taken.now (elements m c.copies.copy x)) (sym origin) ∙ c.copies.invariant in
    let p = err_from_is_err_and c.from_residual.result c.from_residual.ensures.1 in
    rw p.1
    (copy_found c.args.taken.now c.copies.taken m c.copies.copy c.args.origin c.copy_at.result so_far place c.args.count c.copies-test.true
    (seen c.copies.taken c.copy_at.result c.args.entries.now m.entries None fits c.requires.listed c.in_err-take_copy.ensures))

pub copies-preserved : goal.copies-preserved
copies-preserved c =
    let m = typemap_of c.args.ty.now in
    let origin = to_z-of_z w64 c.args.origin c.ranges.origin in
    let fits : SFits w128 c.copy_at.result = record { sfits = c.copy_at.type_inv } in
    let place = place_of c.args.origin c.extent-extent.result (extent_of (typemap_of c.args.ty.now)) c.copy_at.result c.copies.copy c.ranges.origin (record { sfits = c.extent-extent.type_inv }) c.extent-extent.ensures.value c.copy_at.ensures.value in
    let so_far = ap (λ x. with_elements c.args.taken.now (elements m c.copies.copy x)) (sym origin) ∙ c.copies.invariant in
    ap (λ x. with_elements c.args.taken.now (elements m (c.copies.copy + 1) x)) origin
    ∙ copy_taken c.args.taken.now c.copies.taken m c.copies.copy c.args.origin c.copy_at.result so_far place c.take_copy.new.taken
    (seen c.copies.taken c.copy_at.result c.args.entries.now m.entries (Some c.take_copy.new.taken) fits c.requires.listed c.in_ok-take_copy.ensures)
