use Rattle.std.proofs.Common.{rules, ◌≡◌, ◌-◌, Ok, Err, sym, subst, ◌∙◌, arith}
use Rattle.dt_wire.specs.Reading.{form_at, item_at, number_at, tag_in}
use Rattle.dt_wire.specs.Skipping.{Leaves, Skip, skip_part}
use Rattle.dt_wire.proofs.Erasing.{left_by, times_next}
use Rattle.dt_wire.proofs.Lefts.{no_form, form_stuck, form_passed, no_parts, parts_list, list_as, list_stuck}
use Rattle.dt_wire.proofs.passing.+forms.Goals as goal

pub each_part-parts-preserved : goal.each_part-parts-preserved
each_part-parts-preserved t c =
    let f : Skip = skip_part (left_by (form_at c.args.levels)) in
    let step : f c.parts.rest.now ≡ Ok c.in_ok-rest.rest.now = search rules in
    c.parts.invariant ∙ times_next f c.args.n c.parts.counter c.parts.rest.now c.in_ok-rest.rest.now (omega arith) step

pub form-returns-then-levels-eq0 : goal.form-returns-then-levels-eq0
form-returns-then-levels-eq0 t c = no_form c.args.levels c.args.bytes.now (omega arith)

pub form-returns-in_err-combiner : goal.form-returns-in_err-combiner
form-returns-in_err-combiner t c =
    let stop : item_at (tag_in (c.args.levels - 1)) c.args.bytes.now ≡ Err c.in_err-combiner.field-0.0.now = search rules in
    let all = form_stuck c.args.levels (c.args.levels - 1) c.args.bytes.now c.in_err-combiner.field-0.0.now (omega arith) stop in
    search (rules, all)

pub form-returns : goal.form-returns
form-returns t c =
    let read : item_at (tag_in (c.args.levels - 1)) c.args.bytes.now ≡ Ok (c.in_ok-combiner.combiner, c.in_ok-combiner.rest.now) = search rules in
    let all = form_passed c.args.levels (c.args.levels - 1) c.in_ok-combiner.combiner c.args.bytes.now c.in_ok-combiner.rest.now (omega arith) read in
    subst (Leaves c.layer.result) (sym all) c.layer.ensures

pub part-returns-in_err-old : goal.part-returns-in_err-old
unfolding skip_part
part-returns-in_err-old t c = search rules

pub part-returns : goal.part-returns
unfolding skip_part
part-returns t c = search rules

pub parts-returns-then-levels-eq0 : goal.parts-returns-then-levels-eq0
parts-returns-then-levels-eq0 t c =
    let all = no_parts c.args.levels (left_by (form_at c.args.levels)) c.args.bytes.now (omega arith) in
    subst (Leaves c.zeros.result) (sym all) c.zeros.ensures

pub parts-returns-in_err-n : goal.parts-returns-in_err-n
parts-returns-in_err-n t c =
    let f : Skip = skip_part (left_by (form_at c.args.levels)) in
    let stop : number_at c.args.bytes.now ≡ Err c.in_err-n.field-0.0.now = search rules in
    let all = parts_list c.args.levels (c.args.levels - 1) (left_by (form_at c.args.levels)) c.args.bytes.now (omega arith) ∙ list_stuck f c.args.bytes.now c.in_err-n.field-0.0.now stop in
    search (rules, all)

pub parts-returns : goal.parts-returns
parts-returns t c =
    let f : Skip = skip_part (left_by (form_at c.args.levels)) in
    let read : number_at c.args.bytes.now ≡ Ok (c.in_ok-n.n, c.in_ok-n.rest.now) = search rules in
    let all = parts_list c.args.levels (c.args.levels - 1) (left_by (form_at c.args.levels)) c.args.bytes.now (omega arith) ∙ list_as f c.in_ok-n.n c.args.bytes.now c.in_ok-n.rest.now read in
    subst (Leaves c.each_part.result) (sym all) c.each_part.ensures
