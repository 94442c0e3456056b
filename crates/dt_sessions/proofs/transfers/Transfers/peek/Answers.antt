use Rattle.std.proofs.Common.{◌≡◌, Some, length, sym, ap, subst, ◌∙◌}
use Rattle.std.proofs.lemmas.Map.Steps.{set_value_same}
use Rattle.std.specs.BTreeMap.{is_at}
use Rattle.std.specs.Cmp.Lexicographic.{slice_cmp}
use Rattle.std.specs.Map.{set_value}
use Rattle.std.specs.Ordering.{nat_cmp}
use Rattle.dt_names.specs.Names.{under}
use Rattle.dt_sessions.specs.declared.session.Opened.{Opened}
use Rattle.dt_sessions.specs.Open.{Standing, IsOver, CanTake, next_in}
use Rattle.dt_sessions.proofs.OpenLemmas.{and_found, over_found, never_without, length_found, one_found, holds_moved}
use Rattle.dt_sessions.proofs.transfers.Transfers.peek.Goals as goal

pub unreachable-requires-in_default-get : goal.unreachable-requires-in_default-get
unreachable-requires-in_default-get c =
    never_without c.self.inside.buffers c.self.inside.sessions.entries c.args.name.now c.in-Some.opened.now c.self.invariant (sym c.in-Some.ensures.value)
    c.in_default-get.ensures

pub peek-requires-clause-buffer : goal.peek-requires-clause-buffer
peek-requires-clause-buffer c =
    length_found c.self.inside.buffers c.self.inside.sessions.entries c.args.name.now c.in-Some.opened.now c.self.invariant (sym c.in-Some.ensures.value)
    c.in-Some-get.buffer.now c.in-Some-get.ensures

pub peek-requires-clause-more : goal.peek-requires-clause-more
peek-requires-clause-more c =
    let at : under c.args.name.now c.self.inside.sessions.entries ≡ Some c.in-Some.opened.now = sym c.in-Some.ensures.value in
    let here = subst (λ (s : Standing). under c.args.name.now s.sessions ≡ Some c.in-Some.opened.now) c.self.view_is at in
    and_found (under c.args.name.now c.args.self.now.sessions) (λ (o : Opened). CanTake o.session (length c.args.out.now)) c.in-Some.opened.now here c.requires

pub invariant_of-self : goal.invariant_of-self
invariant_of-self c =
    let at : under c.args.name.now c.self.inside.sessions.entries ≡ Some c.in-Some.opened.now = sym c.in-Some.ensures.value in
    let w : Opened = record { buffer = c.in-Some.opened.now.buffer; session = c.peek.new.self } in
    let same : w ≡ c.in-Some.opened.now = ap (λ s. let o : Opened = record { buffer = c.in-Some.opened.now.buffer; session = s } in o) c.peek.ensures.same in
    let over = over_found c.self.inside.buffers c.self.inside.sessions.entries c.args.name.now c.in-Some.opened.now c.self.invariant at in
    rw (c.get_mut.follows.holds w).0
    (holds_moved c.self.inside.buffers c.self.inside.sessions.entries (is_at (slice_cmp nat_cmp c.args.name.now)) w c.self.invariant
    (subst (λ o. IsOver c.self.inside.buffers o) (sym same) over))

pub returns-clause-same : goal.returns-clause-same
returns-clause-same c =
    let at : under c.args.name.now c.self.inside.sessions.entries ≡ Some c.in-Some.opened.now = sym c.in-Some.ensures.value in
    let test = is_at (slice_cmp nat_cmp c.args.name.now) in
    let w : Opened = record { buffer = c.in-Some.opened.now.buffer; session = c.peek.new.self } in
    let same : w ≡ c.in-Some.opened.now = ap (λ s. let o : Opened = record { buffer = c.in-Some.opened.now.buffer; session = s } in o) c.peek.ensures.same in
    let back = (c.get_mut.follows.holds w).0 ∙ (ap (λ o. set_value test c.self.inside.sessions.entries o) same ∙ set_value_same test c.self.inside.sessions.entries c.in-Some.opened.now at) in
    ap (λ es. let s : Standing = record { buffers = c.self.inside.buffers; sessions = es } in s) back ∙ c.self.view_is

pub returns-clause-bytes : goal.returns-clause-bytes
returns-clause-bytes c = λ opened is.
    let at : under c.args.name.now c.self.inside.sessions.entries ≡ Some c.in-Some.opened.now = sym c.in-Some.ensures.value in
    let one : c.in-Some.opened.now ≡ opened =
    one_found (under c.args.name.now c.self.inside.sessions.entries) c.in-Some.opened.now opened at
    (subst (λ (s : Standing). under c.args.name.now s.sessions ≡ Some opened) (sym c.self.view_is) is)
    in
    let here = subst (λ (s : Standing). under c.in-Some.opened.now.buffer s.buffers ≡ Some c.in-Some-get.buffer.now) c.self.view_is c.in-Some-get.ensures in (
      c.in-Some-get.buffer.now,
      subst (λ (o : Opened). under o.buffer c.args.self.now.buffers ≡ Some c.in-Some-get.buffer.now) one here,
      c.peek.ensures.bytes ∙ ap (λ (o : Opened). next_in o.session c.in-Some-get.buffer.now (length c.args.out.now)) one,
    )
