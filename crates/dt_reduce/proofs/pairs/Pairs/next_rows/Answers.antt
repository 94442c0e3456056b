use Rattle.std.proofs.Common.{◌≡◌, ◌+◌, ◌*◌, length, ap, sym, subst, refl, ◌∙◌, arith, rules}
use Rattle.dt_cursor.specs.Walk.{Walk}
use Rattle.dt_map.specs.Packed.{total}
use Rattle.dt_reduce.specs.Paired.{Paired, AreNextRows}
use Rattle.dt_reduce.proofs.Boundary.{rows_pass, all_passed, kept_on}
use Rattle.dt_rows.specs.Rows.{bytes_in}
use Rattle.dt_reduce.proofs.pairs.Pairs.next_rows.Goals as goal

pub returns-in_err-rows-clause-end : goal.returns-in_err-rows-clause-end
returns-in_err-rows-clause-end c =
    let i = c.self.inside in
    let p : Paired = record { elements = i.cursor.elements; source_origin = i.source_origin; source_len = i.source_len; target_origin = i.target_origin; target_len = i.target_len; done = i.done } in
    let stands = c.self.invariant.1 in
    let ended = c.in_err-rows.ensures.end.0 (search rules) in
    let all : i.done ≡ length i.cursor.elements = all_passed i.cursor.elements i.done c.self.invariant.0.within (sym stands.place ∙ ended ∙ ap (λ rep. total rep i.cursor.elements) stands.native) in
    ((λ none. subst (λ (q : Paired). q.done ≡ length q.elements) c.self.view_is all), λ done. search rules)

pub overflow_add-start : goal.overflow_add-start
overflow_add-start c =
    let i = c.self.inside in
    let p : Paired = record { elements = i.cursor.elements; source_origin = i.source_origin; source_len = i.source_len; target_origin = i.target_origin; target_len = i.target_len; done = i.done } in
    let k = rows_pass p i.cursor c.in_ok-rows.rows c.whole_rows-whole.result refl c.self.invariant.0 c.self.invariant.1 c.in_ok-rows.ensures.next c.in_ok-rows.ensures.most c.whole_rows-whole.ensures in
    let start = c.position-start.ensures.value ∙ c.self.invariant.1.place in
    let to_come = k.to_come in
    let small = k.small in
    omega (arith, start, to_come, small)

pub stand_at-requires : goal.stand_at-requires
stand_at-requires c =
    let i = c.self.inside in
    let p : Paired = record { elements = i.cursor.elements; source_origin = i.source_origin; source_len = i.source_len; target_origin = i.target_origin; target_len = i.target_len; done = i.done } in
    let k = rows_pass p i.cursor c.in_ok-rows.rows c.whole_rows-whole.result refl c.self.invariant.0 c.self.invariant.1 c.in_ok-rows.ensures.next c.in_ok-rows.ensures.most c.whole_rows-whole.ensures in
    let start = c.position-start.ensures.value ∙ c.self.invariant.1.place in
    let all = ap (λ (w : Walk). total w.rep w.elements) c.in_ok-rows.ensures.passed ∙ ap (λ rep. total rep i.cursor.elements) c.self.invariant.1.native in
    let to_come = k.to_come in
    omega (arith, start, to_come, all)

pub overflow_mul-self : goal.overflow_mul-self
overflow_mul-self c =
    let i = c.self.inside in
    let p : Paired = record { elements = i.cursor.elements; source_origin = i.source_origin; source_len = i.source_len; target_origin = i.target_origin; target_len = i.target_len; done = i.done } in
    let k = rows_pass p i.cursor c.in_ok-rows.rows c.whole_rows-whole.result refl c.self.invariant.0 c.self.invariant.1 c.in_ok-rows.ensures.next c.in_ok-rows.ensures.most c.whole_rows-whole.ensures in
    let within = k.within in
    let short = k.short in
    omega (arith, within, short)

pub overflow_add-self : goal.overflow_add-self
overflow_add-self c =
    let i = c.self.inside in
    let p : Paired = record { elements = i.cursor.elements; source_origin = i.source_origin; source_len = i.source_len; target_origin = i.target_origin; target_len = i.target_len; done = i.done } in
    let k = rows_pass p i.cursor c.in_ok-rows.rows c.whole_rows-whole.result refl c.self.invariant.0 c.self.invariant.1 c.in_ok-rows.ensures.next c.in_ok-rows.ensures.most c.whole_rows-whole.ensures in
    let within = k.within in
    let short = k.short in
    omega (arith, within, short)

pub invariant_of-self-2 : goal.invariant_of-self-2
invariant_of-self-2 c =
    let i = c.self.inside in
    let p : Paired = record { elements = i.cursor.elements; source_origin = i.source_origin; source_len = i.source_len; target_origin = i.target_origin; target_len = i.target_len; done = i.done } in
    let k = rows_pass p i.cursor c.in_ok-rows.rows c.whole_rows-whole.result refl c.self.invariant.0 c.self.invariant.1 c.in_ok-rows.ensures.next c.in_ok-rows.ensures.most c.whole_rows-whole.ensures in
    let start = c.position-start.ensures.value ∙ c.self.invariant.1.place in
    let moved = c.stand_at.ensures in
    let passed = c.in_ok-rows.ensures.passed in
    kept_on p c.stand_at.new.cursor.elements (c.whole_rows-whole.result.rows * c.whole_rows-whole.result.run.elements) c.stand_at.new.cursor.rep c.stand_at.new.cursor.position
    (ap (λ (w : Walk). w.elements) moved ∙ ap (λ (w : Walk). w.elements) passed) c.self.invariant.0 k.within
    (ap (λ (w : Walk). w.rep) moved ∙ ap (λ (w : Walk). w.rep) passed ∙ c.self.invariant.1.native)
    (ap (λ (w : Walk). w.position) moved ∙ ap (λ s. s + bytes_in c.whole_rows-whole.result) start ∙ sym k.place)

pub returns-clause-next : goal.returns-clause-next
returns-clause-next c =
    let i = c.self.inside in
    let p : Paired = record { elements = i.cursor.elements; source_origin = i.source_origin; source_len = i.source_len; target_origin = i.target_origin; target_len = i.target_len; done = i.done } in
    let k = rows_pass p i.cursor c.in_ok-rows.rows c.whole_rows-whole.result refl c.self.invariant.0 c.self.invariant.1 c.in_ok-rows.ensures.next c.in_ok-rows.ensures.most c.whole_rows-whole.ensures in
    subst (λ (q : Paired). AreNextRows q c.whole_rows-whole.result) c.self.view_is k.next

pub returns-clause-few : goal.returns-clause-few
returns-clause-few c =
    let i = c.self.inside in
    let p : Paired = record { elements = i.cursor.elements; source_origin = i.source_origin; source_len = i.source_len; target_origin = i.target_origin; target_len = i.target_len; done = i.done } in
    (rows_pass p i.cursor c.in_ok-rows.rows c.whole_rows-whole.result refl c.self.invariant.0 c.self.invariant.1 c.in_ok-rows.ensures.next c.in_ok-rows.ensures.most c.whole_rows-whole.ensures).few
