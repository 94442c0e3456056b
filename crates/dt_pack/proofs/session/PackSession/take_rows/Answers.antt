use Rattle.std.proofs.Common.{◌≡◌, ◌++◌, drop, SFits, sym, ap, subst, ◌∙◌, arith, rules}
use Rattle.std.proofs.lemmas.Int.{to_z-of_z}
use Rattle.std.specs.Int.{w64}
use mir.Val.{to_z, of_z}
use Rattle.dt_pack.specs.Session.{Session, next_bytes, rest_of}
use Rattle.dt_pack.proofs.Taking.{gives_rows}
use Rattle.dt_pack.proofs.session.PackSession.take_rows.Goals as goal
use Rattle.dt_rows.specs.Rows.{bytes_in, packed_rows}

pub returns-clause-end : goal.returns-clause-end
returns-clause-end c =
    let s : Session = record { rep = c.self.inside.cursor.rep; elements = c.self.inside.cursor.elements; origin = c.self.inside.origin; buf_len = c.self.inside.buf_len; position = c.self.inside.cursor.position } in
    let g = gives_rows s c.in-Some.rows c.args.buf.now c.in-Some.ensures.next c.self.invariant (c.requires.buffer ∙ ap (λ s. s.buf_len) (sym c.self.view_is)) in
    let left = ap rest_of (sym c.self.view_is) in
    let some = g.some in
    let most = g.to_come in
    (λ none. absurd (omega (arith, none, some)), λ ended. absurd (omega (arith, ended, some, most, left)))

pub returns-clause-to_come : goal.returns-clause-to_come
returns-clause-to_come c =
    let s : Session = record { rep = c.self.inside.cursor.rep; elements = c.self.inside.cursor.elements; origin = c.self.inside.origin; buf_len = c.self.inside.buf_len; position = c.self.inside.cursor.position } in
    let g = gives_rows s c.in-Some.rows c.args.buf.now c.in-Some.ensures.next c.self.invariant (c.requires.buffer ∙ ap (λ s. s.buf_len) (sym c.self.view_is)) in
    let left = ap rest_of (sym c.self.view_is) in
    let most = g.to_come in
    omega (arith, most, left)

pub returns-clause-bytes : goal.returns-clause-bytes
returns-clause-bytes c =
    let s : Session = record { rep = c.self.inside.cursor.rep; elements = c.self.inside.cursor.elements; origin = c.self.inside.origin; buf_len = c.self.inside.buf_len; position = c.self.inside.cursor.position } in
    let r = c.in-Some.rows in
    let g = gives_rows s r c.args.buf.now c.in-Some.ensures.next c.self.invariant (c.requires.buffer ∙ ap (λ s. s.buf_len) (sym c.self.view_is)) in
    let rep = c.rep.ensures ∙ ap (λ w. w.rep) c.in-Some.ensures.passed in
    let fits : SFits w64 c.self.inside.origin = search rules in
    let rest = drop (bytes_in r) c.args.out.now in
    let Is : Session → Type 0 = λ s. c.gather.new.out ≡ next_bytes s c.args.buf.now (bytes_in r) ++ rest in
    subst Is c.self.view_is (c.gather.ensures
    ∙ ap (λ p. packed_rows p r (to_z w64 (of_z w64 c.self.inside.origin)) c.args.buf.now ++ rest) rep
    ∙ ap (λ x. packed_rows s.rep r x c.args.buf.now ++ rest) (to_z-of_z w64 c.self.inside.origin fits)
    ∙ ap (λ t. t ++ rest) (sym g.bytes))
