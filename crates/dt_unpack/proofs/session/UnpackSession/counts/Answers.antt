use Rattle.std.proofs.Common.{◌≡◌, ℕ, Option, ap, subst, ◌∙◌}
use Rattle.dt_map.specs.Counts as counts
use Rattle.dt_unpack.specs.declared.session.Counts.{Counts}
use Rattle.dt_unpack.specs.Session.{Session, complete}
use Rattle.dt_unpack.proofs.Steps.{number_of}
use Rattle.dt_unpack.proofs.session.UnpackSession.counts.Goals as goal

pub returns : goal.returns
returns c =
    let s : Session = record { rep = c.self.inside.cursor.rep; elements = c.self.inside.cursor.elements; origin = c.self.inside.origin; buf_len = c.self.inside.buf_len; one = c.self.inside.one; given = c.self.inside.cursor.position; held = c.self.inside.held.items } in
    let told : ℕ → ℕ → Option ℕ → Counts = λ bytes elements copies. record { bytes = bytes; elements = elements; copies = copies } in
    let Is : Session → Type 0 = λ u. told c.position-bytes.result c.self.inside.complete c.copies_of.result ≡ told u.given (complete u) (counts.whole_copies u.one u.given) in
    subst Is c.self.view_is (
    ap (told c.position-bytes.result c.self.inside.complete) (c.copies_of.ensures ∙ ap (counts.whole_copies s.one) c.position-bytes.ensures.value)
    ∙ ap (λ b. told b c.self.inside.complete (counts.whole_copies s.one s.given)) c.position-bytes.ensures.value
    ∙ ap (λ n. told s.given n (counts.whole_copies s.one s.given)) (number_of s c.self.inside.complete c.self.invariant))
