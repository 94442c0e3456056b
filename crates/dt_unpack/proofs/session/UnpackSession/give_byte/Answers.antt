use mir.Val.{to_z, of_z}
use Rattle.std.proofs.Common.{◌≡◌, ◌+◌, [], ◌∷◌, ◌++◌, pos, ◌+ℤ◌, length, SFits, sym, ap, subst, ◌∙◌, arith, rules, append-nil, length-append}
use Rattle.std.proofs.lemmas.Int.{to_z-of_z}
use Rattle.std.specs.Int.{w64}
use Rattle.dt_cursor.specs.Walk.{one_row}
use Rattle.dt_map.specs.Setting.{set_each}
use Rattle.dt_map.specs.Typemap.{shift}
use Rattle.dt_rows.specs.Rows.{adjacent, elements_of_rows}
use Rattle.dt_unpack.specs.Session.{IsOpen, after, buffer_after}
use Rattle.dt_unpack.proofs.Steps.{few_complete, count_rows, buffer_is}
use Rattle.dt_unpack.proofs.Taking.{model_of, byte_is_taken, full_model, more_model}
use Rattle.dt_unpack.proofs.session.UnpackSession.give_byte.Goals as goal

pub overflow_add-self : goal.overflow_add-self
overflow_add-self c =
    let s = model_of c.self.inside.cursor c.self.inside.origin c.self.inside.buf_len c.self.inside.one c.self.inside.held.items in
    let n = c.self.inside.complete in
    let run = c.in-Some.run' in
    let named = c.in-Some.ensures in
    let k = byte_is_taken s n c.self.invariant run named.next named.most c.args.byte c.rep-rep.result c.next_run.new.self c.rep-rep.ensures named.passed c.packed_bytes_of-size.result c.packed_bytes_of-size.ensures in
    let long = c.len.ensures.value ∙ ap length c.push.ensures.items ∙ length-append s.held (c.args.byte ∷ []) in
    let full = k.full (let tested = c.if-len-size.true in omega (arith, long, tested)) in
    let few = few_complete _ _ full.1.opens in
    let many = count_rows (one_row run) in
    let one = k.one in
    omega (arith, few, many, one)

pub invariant_of-self : goal.invariant_of-self
invariant_of-self c =
    let s = model_of c.self.inside.cursor c.self.inside.origin c.self.inside.buf_len c.self.inside.one c.self.inside.held.items in
    let n = c.self.inside.complete in
    let run = c.in-Some.run' in
    let named = c.in-Some.ensures in
    let k = byte_is_taken s n c.self.invariant run named.next named.most c.args.byte c.rep-rep.result c.next_run.new.self c.rep-rep.ensures named.passed c.packed_bytes_of-size.result c.packed_bytes_of-size.ensures in
    let long = c.len.ensures.value ∙ ap length c.push.ensures.items ∙ length-append s.held (c.args.byte ∷ []) in
    let full = k.full (let tested = c.if-len-size.true in omega (arith, long, tested)) in
    let model = full_model s n run c.args.byte _ _ k full c.next_run.new.self c.clear.new.self.items named.passed c.clear.ensures in
    let many = count_rows (one_row run) in
    let one = k.one in
    let single : length (elements_of_rows (one_row run)) ≡ 1 = omega (arith, many, one) in
    subst (λ u. IsOpen u (n + 1)) (sym model) (subst (λ m. IsOpen (after s (c.args.byte ∷ [])) (n + m)) single full.1.opens)

pub invariant_of-self-else-len-size : goal.invariant_of-self-else-len-size
invariant_of-self-else-len-size c =
    let s = model_of c.self.inside.cursor c.self.inside.origin c.self.inside.buf_len c.self.inside.one c.self.inside.held.items in
    let n = c.self.inside.complete in
    let run = c.in-Some.run' in
    let named = c.in-Some.ensures in
    let k = byte_is_taken s n c.self.invariant run named.next named.most c.args.byte c.rep-rep.result c.next_run.new.self c.rep-rep.ensures named.passed c.packed_bytes_of-size.result c.packed_bytes_of-size.ensures in
    let long = c.len.ensures.value ∙ ap length c.push.ensures.items ∙ length-append s.held (c.args.byte ∷ []) in
    let t = k.more (λ all. let tested = c.if-len-size.false in absurd (omega (arith, long, tested, all))) in
    let model = more_model s n run c.args.byte _ _ k t c.next_run.new.self c.push.new.self.items named.passed c.push.ensures.items in
    let same : n + 0 ≡ n = omega arith in
    subst (λ u. IsOpen u n) (sym model) (subst (IsOpen (after s (c.args.byte ∷ []))) same t.opens)

pub returns-then-len-size-clause-session : goal.returns-then-len-size-clause-session
returns-then-len-size-clause-session c =
    let s = model_of c.self.inside.cursor c.self.inside.origin c.self.inside.buf_len c.self.inside.one c.self.inside.held.items in
    let n = c.self.inside.complete in
    let run = c.in-Some.run' in
    let named = c.in-Some.ensures in
    let k = byte_is_taken s n c.self.invariant run named.next named.most c.args.byte c.rep-rep.result c.next_run.new.self c.rep-rep.ensures named.passed c.packed_bytes_of-size.result c.packed_bytes_of-size.ensures in
    let long = c.len.ensures.value ∙ ap length c.push.ensures.items ∙ length-append s.held (c.args.byte ∷ []) in
    let full = k.full (let tested = c.if-len-size.true in omega (arith, long, tested)) in
    let model = full_model s n run c.args.byte _ _ k full c.next_run.new.self c.clear.new.self.items named.passed c.clear.ensures in
    model ∙ ap (λ u. after u (c.args.byte ∷ [])) c.self.view_is

pub returns-then-len-size-clause-buffer : goal.returns-then-len-size-clause-buffer
returns-then-len-size-clause-buffer c =
    let s = model_of c.self.inside.cursor c.self.inside.origin c.self.inside.buf_len c.self.inside.one c.self.inside.held.items in
    let n = c.self.inside.complete in
    let run = c.in-Some.run' in
    let named = c.in-Some.ensures in
    let k = byte_is_taken s n c.self.invariant run named.next named.most c.args.byte c.rep-rep.result c.next_run.new.self c.rep-rep.ensures named.passed c.packed_bytes_of-size.result c.packed_bytes_of-size.ensures in
    let long = c.len.ensures.value ∙ ap length c.push.ensures.items ∙ length-append s.held (c.args.byte ∷ []) in
    let full = k.full (let tested = c.if-len-size.true in omega (arith, long, tested)) in
    let fits : SFits w64 c.self.inside.origin = search rules in
    let disp : SFits w64 run.disp = search rules in
    let images = c.as_slice.ensures.value ∙ c.push.ensures.items in
    let bytes = k.bytes in
    let all = full.0 in
    c.scatter.ensures
    ∙ ap (λ x. set_each c.rep-rep.result (shift (to_z w64 (of_z w64 c.self.inside.origin)) (adjacent run.kind run.elements (x +ℤ pos 0) ++ [])) c.args.buf.now c.as_slice.result.now) (to_z-of_z w64 run.disp disp)
    ∙ buffer_is s n (c.args.byte ∷ []) (elements_of_rows (one_row run)) full.1 _ _ _ [] c.args.buf.now k.rep_is (to_z-of_z w64 c.self.inside.origin fits) (append-nil _ ∙ images)
    (let count = ap length images in omega (arith, bytes, all, count, length-append s.held (c.args.byte ∷ [])))
    ∙ ap (λ u. buffer_after u c.args.buf.now (c.args.byte ∷ [])) c.self.view_is

pub returns-else-len-size-clause-session : goal.returns-else-len-size-clause-session
returns-else-len-size-clause-session c =
    let s = model_of c.self.inside.cursor c.self.inside.origin c.self.inside.buf_len c.self.inside.one c.self.inside.held.items in
    let n = c.self.inside.complete in
    let run = c.in-Some.run' in
    let named = c.in-Some.ensures in
    let k = byte_is_taken s n c.self.invariant run named.next named.most c.args.byte c.rep-rep.result c.next_run.new.self c.rep-rep.ensures named.passed c.packed_bytes_of-size.result c.packed_bytes_of-size.ensures in
    let long = c.len.ensures.value ∙ ap length c.push.ensures.items ∙ length-append s.held (c.args.byte ∷ []) in
    let t = k.more (λ all. let tested = c.if-len-size.false in absurd (omega (arith, long, tested, all))) in
    let model = more_model s n run c.args.byte _ _ k t c.next_run.new.self c.push.new.self.items named.passed c.push.ensures.items in
    model ∙ ap (λ u. after u (c.args.byte ∷ [])) c.self.view_is

pub returns-else-len-size-clause-buffer : goal.returns-else-len-size-clause-buffer
returns-else-len-size-clause-buffer c =
    let s = model_of c.self.inside.cursor c.self.inside.origin c.self.inside.buf_len c.self.inside.one c.self.inside.held.items in
    let n = c.self.inside.complete in
    let run = c.in-Some.run' in
    let named = c.in-Some.ensures in
    let k = byte_is_taken s n c.self.invariant run named.next named.most c.args.byte c.rep-rep.result c.next_run.new.self c.rep-rep.ensures named.passed c.packed_bytes_of-size.result c.packed_bytes_of-size.ensures in
    let long = c.len.ensures.value ∙ ap length c.push.ensures.items ∙ length-append s.held (c.args.byte ∷ []) in
    let t = k.more (λ all. let tested = c.if-len-size.false in absurd (omega (arith, long, tested, all))) in
    sym (t.buffer c.args.buf.now) ∙ ap (λ u. buffer_after u c.args.buf.now (c.args.byte ∷ [])) c.self.view_is
