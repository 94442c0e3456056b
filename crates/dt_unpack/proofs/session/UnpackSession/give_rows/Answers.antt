use mir.Val.{to_z, of_z}
use Rattle.std.proofs.Common.{◌+◌, ◌-◌, ◌*◌, ◌/◌, ◌≤◌, ◌++◌, take, drop, length, SFits, sym, ap, subst, ◌∙◌, arith, rules, length-append}
use Rattle.std.proofs.lemmas.Int.{to_z-of_z}
use Rattle.std.proofs.lemmas.List.{length-take-le}
use Rattle.std.specs.Int.{w64}
use Rattle.dt_map.specs.Elements.{are_inside}
use Rattle.dt_map.specs.Setting.{set_each}
use Rattle.dt_map.specs.Typemap.{shift}
use Rattle.dt_rows.specs.Rows.{elements_of_rows, bytes_in}
use Rattle.dt_unpack.specs.Session.{Session, IsOpen, after, buffer_after}
use Rattle.dt_unpack.proofs.Steps.{few_complete, count_rows, buffer_is, held_few}
use Rattle.dt_unpack.proofs.Taking.{model_of, rows_are_taken, rows_model, left_over, whole_piece}
use Rattle.dt_unpack.proofs.session.UnpackSession.give_rows.Goals as goal

pub set_whole-requires-clause-inside : goal.set_whole-requires-clause-inside
set_whole-requires-clause-inside c =
    let s = model_of c.self.inside.cursor c.self.inside.origin c.self.inside.buf_len c.self.inside.one c.self.inside.held.items in
    let n = c.self.inside.complete in
    let r = c.in-Some.rows in
    let named = c.in-Some.ensures in
    let piece = c.args.piece.now in
    let k = rows_are_taken s c.args.self.now c.self.view_is n c.self.invariant r named.next piece c.requires.held named.most c.rep-rep.result c.next_rows.new.self c.rep-rep.ensures named.passed c.packed_bytes_of-size.result c.packed_bytes_of-size.ensures c.shortened-whole.result c.shortened-whole.ensures in
    let fits : SFits w64 c.self.inside.origin = search rules in
    let long = c.requires.buffer ∙ ap (λ (u : Session). u.buf_len) (sym c.self.view_is) in
    ap (λ len. are_inside len (shift (to_z w64 (of_z w64 c.self.inside.origin)) (elements_of_rows c.shortened-whole.result))) long
    ∙ ap (λ x. are_inside s.buf_len (shift x (elements_of_rows c.shortened-whole.result))) (to_z-of_z w64 c.self.inside.origin fits)
    ∙ ap (λ w. are_inside s.buf_len (shift s.origin (elements_of_rows w))) k.is ∙ k.takes.inside

pub hold-requires : goal.hold-requires
hold-requires c =
    let s = model_of c.self.inside.cursor c.self.inside.origin c.self.inside.buf_len c.self.inside.one c.self.inside.held.items in
    let n = c.self.inside.complete in
    let r = c.in-Some.rows in
    let named = c.in-Some.ensures in
    let piece = c.args.piece.now in
    let k = rows_are_taken s c.args.self.now c.self.view_is n c.self.invariant r named.next piece c.requires.held named.most c.rep-rep.result c.next_rows.new.self c.rep-rep.ensures named.passed c.packed_bytes_of-size.result c.packed_bytes_of-size.ensures c.shortened-whole.result c.shortened-whole.ensures in
    let few = held_few _ _ k.takes.opens in
    let left = ap length (left_over s.held piece (bytes_in k.whole) (bytes_in r) k.none k.within) in
    let rest = ap (λ (u : Session). length u.held) k.takes.session in
    let drops = ap (λ b. length (drop b (s.held ++ take (bytes_in r) piece))) k.bytes in
    let parts = length-append s.held (take (bytes_in r - bytes_in k.whole) (drop (bytes_in k.whole) piece)) in
    subst (λ w. length s.held + length (take (bytes_in r - bytes_in w) (drop (bytes_in w) piece)) ≤ 8) (sym k.is) (omega (arith, left, few, rest, drops, parts))

pub overflow_add-self : goal.overflow_add-self
overflow_add-self c =
    let s = model_of c.self.inside.cursor c.self.inside.origin c.self.inside.buf_len c.self.inside.one c.self.inside.held.items in
    let n = c.self.inside.complete in
    let r = c.in-Some.rows in
    let named = c.in-Some.ensures in
    let piece = c.args.piece.now in
    let k = rows_are_taken s c.args.self.now c.self.view_is n c.self.invariant r named.next piece c.requires.held named.most c.rep-rep.result c.next_rows.new.self c.rep-rep.ensures named.passed c.packed_bytes_of-size.result c.packed_bytes_of-size.ensures c.shortened-whole.result c.shortened-whole.ensures in
    let few = few_complete _ _ k.takes.opens in
    let many = count_rows k.whole in
    let elements = k.elements in
    omega (arith, few, many, elements)

pub invariant_of-self : goal.invariant_of-self
invariant_of-self c =
    let s = model_of c.self.inside.cursor c.self.inside.origin c.self.inside.buf_len c.self.inside.one c.self.inside.held.items in
    let n = c.self.inside.complete in
    let r = c.in-Some.rows in
    let named = c.in-Some.ensures in
    let piece = c.args.piece.now in
    let k = rows_are_taken s c.args.self.now c.self.view_is n c.self.invariant r named.next piece c.requires.held named.most c.rep-rep.result c.next_rows.new.self c.rep-rep.ensures named.passed c.packed_bytes_of-size.result c.packed_bytes_of-size.ensures c.shortened-whole.result c.shortened-whole.ensures in
    let model = rows_model s n r piece _ _ _ k c.next_rows.new.self c.hold.new.held.items named.passed c.hold.ensures in
    let many = count_rows k.whole ∙ k.elements in
    subst (λ u. IsOpen u (n + r.rows * (r.run.bytes / c.packed_bytes_of-size.result))) (sym model) (subst (λ m. IsOpen (after s (take (bytes_in r) piece)) (n + m)) many k.takes.opens)

pub returns-clause-session : goal.returns-clause-session
returns-clause-session c =
    let s = model_of c.self.inside.cursor c.self.inside.origin c.self.inside.buf_len c.self.inside.one c.self.inside.held.items in
    let n = c.self.inside.complete in
    let r = c.in-Some.rows in
    let named = c.in-Some.ensures in
    let piece = c.args.piece.now in
    let k = rows_are_taken s c.args.self.now c.self.view_is n c.self.invariant r named.next piece c.requires.held named.most c.rep-rep.result c.next_rows.new.self c.rep-rep.ensures named.passed c.packed_bytes_of-size.result c.packed_bytes_of-size.ensures c.shortened-whole.result c.shortened-whole.ensures in
    let model = rows_model s n r piece _ _ _ k c.next_rows.new.self c.hold.new.held.items named.passed c.hold.ensures in
    model ∙ ap (λ u. after u (take (bytes_in r) piece)) c.self.view_is

pub returns-clause-buffer : goal.returns-clause-buffer
returns-clause-buffer c =
    let s = model_of c.self.inside.cursor c.self.inside.origin c.self.inside.buf_len c.self.inside.one c.self.inside.held.items in
    let n = c.self.inside.complete in
    let r = c.in-Some.rows in
    let named = c.in-Some.ensures in
    let piece = c.args.piece.now in
    let k = rows_are_taken s c.args.self.now c.self.view_is n c.self.invariant r named.next piece c.requires.held named.most c.rep-rep.result c.next_rows.new.self c.rep-rep.ensures named.passed c.packed_bytes_of-size.result c.packed_bytes_of-size.ensures c.shortened-whole.result c.shortened-whole.ensures in
    let fits : SFits w64 c.self.inside.origin = search rules in
    let within = k.within in
    let enough = k.enough in
    let bytes = k.bytes in
    let room = length-take-le (bytes_in k.whole) piece (omega (arith, within, enough)) in
    c.set_whole.ensures
    ∙ ap (λ w. set_each c.rep-rep.result (shift (to_z w64 (of_z w64 c.self.inside.origin)) (elements_of_rows w)) c.args.buf.now (take (bytes_in w) piece)) k.is
    ∙ buffer_is s n (take (bytes_in r) piece) (elements_of_rows k.whole) k.takes _ _ _ (take (bytes_in r - bytes_in k.whole) (drop (bytes_in k.whole) piece)) c.args.buf.now k.rep_is (to_z-of_z w64 c.self.inside.origin fits)
    (whole_piece s.held piece (bytes_in k.whole) (bytes_in r) k.none within) (omega (arith, room, bytes))
    ∙ ap (λ u. buffer_after u c.args.buf.now (take (bytes_in r) piece)) c.self.view_is
