use Rattle.std.proofs.Common.{rules, ◌≡◌, suc, ◌+◌, ◌-◌, ◌++◌, [], ◌∷◌, Ok, Err, sym, subst, ap, ◌∙◌, arith, to_z, of_z}
use Rattle.std.specs.List.{AllByRecursion}
use mir.Syntax.{w32, w64}
use Rattle.dt_form.specs.declared.form.FormOf.TheVariants as form
use Rattle.dt_type.specs.Answer.{IsCause, IsMade}
use Rattle.dt_type.specs.Form.{result_of}
use Rattle.dt_wire.specs.Building.{arguments_at, calls_among, calls_in, calls_of, in_two, type_at, with_old, IsBuilt}
use Rattle.dt_wire.specs.Import.{IsTaken}
use Rattle.dt_wire.specs.Reading.{address_at, behind, int_at, item_at, list_at, map_at, number_at, part_at, parts_at, tag_in}
use Rattle.dt_wire.specs.Skipping.{skip_zeros}
use Rattle.dt_wire.specs.declared.stop.Stop.TheVariants.{Refused}
use Rattle.dt_wire.proofs.Built.{arguments_stop, old_stop, both_read, no_level, tag_wrong, tag_read, all_parts_stop, all_parts_read, no_zeros, four_zeros, no_number, number_parts}
use Rattle.dt_wire.proofs.Made.{calls_with_old, calls_of_parts, is_error, last_made, last_refused, map_same}
use Rattle.dt_wire.proofs.Parted.{no_len, no_disp, part_of, part_stop, part_made, parts_stop, parts_taken}
use Rattle.dt_wire.proofs.Prefixed.{prefixed, list_next}
use Rattle.dt_wire.proofs.Splits.{split}
use Rattle.dt_wire.proofs.building.+forms.Goals as goal

pub build-returns-then-levels-eq0 : goal.build-returns-then-levels-eq0
build-returns-then-levels-eq0 t c = no_level c.args.levels c.args.bytes.now (omega arith)

pub build-returns-in_err-combiner : goal.build-returns-in_err-combiner
build-returns-in_err-combiner t c =
    let stop : item_at (tag_in (c.args.levels - 1)) c.args.bytes.now ≡ Err c.in_err-combiner.field-0.0.now = search rules in
    let all = tag_wrong c.args.levels (c.args.levels - 1) c.args.bytes.now c.in_err-combiner.field-0.0.now (omega arith) stop in
    search (rules, all)

pub build-returns : goal.build-returns
build-returns t c =
    let read : item_at (tag_in (c.args.levels - 1)) c.args.bytes.now ≡ Ok (c.in_ok-combiner.combiner, c.in_ok-combiner.rest.now) = search rules in
    tag_read c.args.levels (c.args.levels - 1) c.in_ok-combiner.combiner c.args.bytes.now c.in_ok-combiner.rest.now c.layer.result (omega arith) read c.layer.ensures

pub layer-returns-in_default : goal.layer-returns-in_default
layer-returns-in_default t c =
    let old = type_at c.args.levels in
    let same : behind c.args.levels old c.args.combiner c.args.bytes.now ≡ in_two (arguments_at c.args.combiner) old c.args.bytes.now =
    split old c.args.levels c.args.combiner c.in_default.not-Named c.in_default.not-Struct c.args.bytes.now in
    subst (λ v. IsBuilt (calls_of (suc c.args.levels)) v c.of_one.result)
    (sym (map_same result_of (behind c.args.levels old c.args.combiner) (in_two (arguments_at c.args.combiner) old) c.args.bytes.now c.args.bytes.now same)) c.of_one.ensures

pub of_one-returns-in_err-arguments : goal.of_one-returns-in_err-arguments
of_one-returns-in_err-arguments t c =
    let stop = c.in_err-arguments.field-0.0 in
    let same : c.from_residual.result ≡ Err stop = search rules in
    subst (IsBuilt (calls_of (suc c.args.levels)) (map_at result_of (in_two (arguments_at c.args.combiner) (type_at c.args.levels)) c.args.bytes.now)) (sym same)
    (arguments_stop (arguments_at c.args.combiner) (type_at c.args.levels) c.args.bytes.now c.args.levels stop c.in_err-arguments.ensures)

pub of_one-returns-in_err-old : goal.of_one-returns-in_err-old
of_one-returns-in_err-old t c =
    let stop = c.in_err-old.field-0.0 in
    let same : c.from_residual-in_err-old.result ≡ Err stop = search rules in
    subst (IsBuilt (calls_of (suc c.args.levels)) (map_at result_of (in_two (arguments_at c.args.combiner) (type_at c.args.levels)) c.args.bytes.now)) (sym same)
    (old_stop c.args.levels (arguments_at c.args.combiner) (type_at c.args.levels) c.in_ok-arguments.arguments c.args.bytes.now c.in_ok-arguments.after.now stop c.in_ok-arguments.ensures c.in_err-old.ensures)

pub of_one-returns-in_err-construct : goal.of_one-returns-in_err-construct
of_one-returns-in_err-construct t c =
    let a = c.in_ok-arguments.arguments in
    let old = c.in_ok-old.old in
    let fault = c.in_err-construct.field-0.0 in
    let read = map_at result_of (in_two (arguments_at c.args.combiner) (type_at c.args.levels)) c.args.bytes.now in
    let is = both_read (arguments_at c.args.combiner) (type_at c.args.levels) a c.args.bytes.now c.in_ok-arguments.after.now c.in_ok-old.rest.now old c.in_ok-arguments.ensures c.in_ok-old.ensures.is in
    let same : c.from_residual-in_err-construct.result ≡ Err (Refused fault) = search rules in
    subst (IsBuilt (calls_of (suc c.args.levels)) read) (sym same)
    (last_refused c.args.levels read (with_old a old) (calls_of c.args.levels old) c.in_ok-old.rest.now is (calls_with_old c.args.levels a old) c.in_ok-old.ensures.taken fault c.in_err-construct.ensures)

pub of_one-returns : goal.of_one-returns
of_one-returns t c =
    let a = c.in_ok-arguments.arguments in
    let old = c.in_ok-old.old in
    let read = map_at result_of (in_two (arguments_at c.args.combiner) (type_at c.args.levels)) c.args.bytes.now in
    let is = both_read (arguments_at c.args.combiner) (type_at c.args.levels) a c.args.bytes.now c.in_ok-arguments.after.now c.in_ok-old.rest.now old c.in_ok-arguments.ensures c.in_ok-old.ensures.is in
    last_made c.args.levels read (with_old a old) (calls_of c.args.levels old) c.in_ok-old.rest.now is (calls_with_old c.args.levels a old) c.in_ok-old.ensures.taken c.in_ok-construct.field-0
    c.in_ok-construct.ensures

pub of_parts-returns-in_err-parts : goal.of_parts-returns-in_err-parts
of_parts-returns-in_err-parts t c =
    let stop = c.in_err-parts.field-0.0 in
    let same : c.from_residual.result ≡ Err stop = search rules in
    subst (IsBuilt (calls_of (suc c.args.levels)) (map_at result_of (map_at (λ ps. form.Struct ps) (parts_at c.args.levels (type_at c.args.levels))) c.args.bytes.now)) (sym same)
    (all_parts_stop c.args.levels (parts_at c.args.levels (type_at c.args.levels)) c.args.bytes.now stop c.in_err-parts.ensures)

pub of_parts-returns-in_err-structure : goal.of_parts-returns-in_err-structure
of_parts-returns-in_err-structure t c =
    let parts = c.in_ok-parts.parts in
    let fault = c.in_err-structure.field-0.0 in
    let read = map_at result_of (map_at (λ ps. form.Struct ps) (parts_at c.args.levels (type_at c.args.levels))) c.args.bytes.now in
    let is = all_parts_read (parts_at c.args.levels (type_at c.args.levels)) c.args.bytes.now c.in_ok-parts.rest.now parts c.in_ok-parts.ensures.is in
    let same : c.from_residual-in_err-structure.result ≡ Err (Refused fault) = search rules in
    let lent : c.as_slice.result.now ≡ parts = search rules in
    subst (IsBuilt (calls_of (suc c.args.levels)) read) (sym same)
    (last_refused c.args.levels read (form.Struct parts) (calls_among c.args.levels parts) c.in_ok-parts.rest.now is (calls_of_parts c.args.levels parts) c.in_ok-parts.ensures.taken fault
    (subst (λ ps. IsCause (form.Struct ps) fault) lent c.in_err-structure.ensures))

pub of_parts-returns : goal.of_parts-returns
of_parts-returns t c =
    let parts = c.in_ok-parts.parts in
    let read = map_at result_of (map_at (λ ps. form.Struct ps) (parts_at c.args.levels (type_at c.args.levels))) c.args.bytes.now in
    let is = all_parts_read (parts_at c.args.levels (type_at c.args.levels)) c.args.bytes.now c.in_ok-parts.rest.now parts c.in_ok-parts.ensures.is in
    let lent : c.as_slice.result.now ≡ parts = search rules in
    last_made c.args.levels read (form.Struct parts) (calls_among c.args.levels parts) c.in_ok-parts.rest.now is (calls_of_parts c.args.levels parts) c.in_ok-parts.ensures.taken c.in_ok-structure.field-0
    (subst (λ ps. IsMade (form.Struct ps) c.in_ok-structure.field-0) lent c.in_ok-structure.ensures)

pub parts-returns-in_err-rest : goal.parts-returns-in_err-rest
parts-returns-in_err-rest t c =
    let stop : skip_zeros c.args.bytes.now ≡ Err c.in_err-rest.field-0.0.now = search rules in
    let all = no_zeros c.args.levels c.args.bytes.now c.in_err-rest.field-0.0.now (omega arith) stop in
    search (rules, all)

pub parts-returns-then-levels-eq0 : goal.parts-returns-then-levels-eq0
parts-returns-then-levels-eq0 t c =
    let zeros : skip_zeros c.args.bytes.now ≡ Ok c.in_ok-rest.rest.now = search rules in
    let none : c.new.result ≡ [] = search rules in
    record {
      is = four_zeros c.args.levels c.args.bytes.now c.in_ok-rest.rest.now (omega arith) zeros ∙ ap (λ ps. Ok (ps, c.in_ok-rest.rest.now)) (sym none);
      taken = subst (λ ps. AllByRecursion IsTaken (calls_among c.args.levels ps)) (sym none) tt;
    }

pub parts-returns-in_err-n : goal.parts-returns-in_err-n
parts-returns-in_err-n t c =
    let stop : number_at c.args.bytes.now ≡ Err c.in_err-n.field-0.0.now = search rules in
    let all = no_number c.args.levels (c.args.levels - 1) (type_at c.args.levels) c.args.bytes.now c.in_err-n.field-0.0.now (omega arith) stop in
    search (rules, all)

pub parts-returns : goal.parts-returns
parts-returns t c =
    let read : number_at c.args.bytes.now ≡ Ok (c.in_ok-n.n, c.in_ok-n.rest.now) = search rules in
    let all = number_parts c.args.levels (c.args.levels - 1) c.in_ok-n.n (type_at c.args.levels) c.args.bytes.now c.in_ok-n.rest.now (omega arith) read in
    subst (λ v. IsBuilt (calls_among c.args.levels) v c.each_part.result) (sym all) c.each_part.ensures

pub each_part-returns-in_err-part : goal.each_part-returns-in_err-part
each_part-returns-in_err-part t c =
    let stop = c.in_err-part.field-0.0 in
    let same : c.from_residual.result ≡ Err stop = search rules in
    let here =
    parts_stop c.args.levels (part_at (type_at c.args.levels)) c.args.n c.parts.counter c.parts.rest.now c.parts.parts stop (omega arith) c.parts.invariant.taken c.in_err-part.ensures in
    subst (IsBuilt (calls_among c.args.levels) (list_at (part_at (type_at c.args.levels)) c.args.n c.args.bytes.now)) (sym same)
    (subst (λ v. IsBuilt (calls_among c.args.levels) v (Err stop)) (sym c.parts.invariant.read) here)

pub each_part-parts-preserved : goal.each_part-parts-preserved
each_part-parts-preserved t c =
    let r = part_at (type_at c.args.levels) in
    let part = c.in_ok-part.part in
    let pushed : c.push.new.self ≡ c.parts.parts ++ part ∷ [] = search rules in
    record {
      read =
          c.parts.invariant.read
          ∙ (list_next r c.args.n c.parts.counter c.parts.rest.now c.in_ok-part.after.now c.parts.parts part (omega arith) c.in_ok-part.ensures.is
          ∙ ap (λ xs. prefixed xs (list_at r (c.args.n - (c.parts.counter + 1)) c.in_ok-part.after.now)) (sym pushed));
      taken =
          subst (λ xs. AllByRecursion IsTaken (calls_among c.args.levels xs)) (sym pushed)
          (parts_taken c.args.levels r c.args.n c.parts.counter c.parts.rest.now c.parts.parts part c.parts.invariant.taken c.in_ok-part.ensures.taken);
    }

pub part-returns-in_err-len : goal.part-returns-in_err-len
part-returns-in_err-len t c =
    let stop : int_at c.args.bytes.now ≡ Err c.in_err-len.field-0.0.now = search rules in
    let all = no_len (type_at c.args.levels) c.args.bytes.now (is_error _ c.in_err-len.field-0.0.now stop) in
    search (rules, all)

pub part-returns-in_err-disp : goal.part-returns-in_err-disp
part-returns-in_err-disp t c =
    let len : int_at c.args.bytes.now ≡ Ok (c.in_ok-len.len, c.in_ok-len.after_len.now) = search rules in
    let stop : address_at c.in_ok-len.after_len.now ≡ Err c.in_err-disp.field-0.0.now = search rules in
    let all = no_disp (type_at c.args.levels) c.args.bytes.now c.in_ok-len.after_len.now c.in_ok-len.len len (is_error _ c.in_err-disp.field-0.0.now stop) in
    search (rules, all)

pub part-returns-in_err-old : goal.part-returns-in_err-old
part-returns-in_err-old t c =
    let stop = c.in_err-old.field-0.0 in
    let len : int_at c.args.bytes.now ≡ Ok (c.in_ok-len.len, c.in_ok-len.after_len.now) = search rules in
    let disp : address_at c.in_ok-len.after_len.now ≡ Ok (c.in_ok-disp.disp, c.in_ok-disp.after_disp.now) = search rules in
    let same : c.from_residual-in_err-old.result ≡ Err stop = search rules in
    subst (IsBuilt (calls_in c.args.levels) (part_at (type_at c.args.levels) c.args.bytes.now)) (sym same)
    (part_stop (type_at c.args.levels) c.args.bytes.now c.args.levels c.in_ok-len.after_len.now c.in_ok-disp.after_disp.now c.in_ok-len.len c.in_ok-disp.disp stop len disp c.in_err-old.ensures)

pub part-returns : goal.part-returns
part-returns t c =
    let len : int_at c.args.bytes.now ≡ Ok (c.in_ok-len.len, c.in_ok-len.after_len.now) = search rules in
    let disp : address_at c.in_ok-len.after_len.now ≡ Ok (c.in_ok-disp.disp, c.in_ok-disp.after_disp.now) = search rules in
    let len_back : to_z w32 (of_z w32 c.in_ok-len.len) ≡ c.in_ok-len.len = search rules in
    let disp_back : to_z w64 (of_z w64 c.in_ok-disp.disp) ≡ c.in_ok-disp.disp = search rules in
    record {
      is =
          part_made (type_at c.args.levels) c.args.bytes.now c.in_ok-len.after_len.now c.in_ok-disp.after_disp.now c.in_ok-old.rest.now c.in_ok-len.len c.in_ok-disp.disp c.in_ok-old.old len disp
          c.in_ok-old.ensures.is
          ∙ sym (ap (λ x. Ok (part_of x (to_z w64 (of_z w64 c.in_ok-disp.disp)) c.in_ok-old.old, c.in_ok-old.rest.now)) len_back
          ∙ ap (λ x. Ok (part_of c.in_ok-len.len x c.in_ok-old.old, c.in_ok-old.rest.now)) disp_back);
      taken = c.in_ok-old.ensures.taken;
    }
