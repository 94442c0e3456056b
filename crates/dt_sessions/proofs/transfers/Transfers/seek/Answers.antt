use Rattle.std.proofs.Common.{◌≡◌, Some, sym, subst}
use Rattle.std.specs.BTreeMap.{is_at}
use Rattle.std.specs.Cmp.Lexicographic.{slice_cmp}
use Rattle.std.specs.Ordering.{nat_cmp}
use Rattle.dt_names.specs.Names.{under}
use Rattle.dt_sessions.specs.declared.session.Opened.{Opened}
use Rattle.dt_sessions.specs.Open.{Standing, CanSeek}
use Rattle.dt_sessions.proofs.OpenLemmas.{and_found, over_found, over_at, holds_moved}
use Rattle.dt_sessions.proofs.transfers.Transfers.seek.Goals as goal

pub seek-requires : goal.seek-requires
seek-requires c =
    let at : under c.args.name.now c.self.inside.sessions.entries ≡ Some c.in-Some.opened.now = sym c.in-Some.ensures.value in
    let here = subst (λ (s : Standing). under c.args.name.now s.sessions ≡ Some c.in-Some.opened.now) c.self.view_is at in
    and_found (under c.args.name.now c.args.self.now.sessions) (λ (o : Opened). CanSeek o.session c.args.byte) c.in-Some.opened.now here c.requires

pub invariant_of-self : goal.invariant_of-self
invariant_of-self c =
    let at : under c.args.name.now c.self.inside.sessions.entries ≡ Some c.in-Some.opened.now = sym c.in-Some.ensures.value in
    let over = over_found c.self.inside.buffers c.self.inside.sessions.entries c.args.name.now c.in-Some.opened.now c.self.invariant at in
    let w : Opened = record { buffer = c.in-Some.opened.now.buffer; session = c.seek.new.self } in
    rw (c.get_mut.follows.holds w).0
    (holds_moved c.self.inside.buffers c.self.inside.sessions.entries (is_at (slice_cmp nat_cmp c.args.name.now)) w c.self.invariant
    (rw c.seek.ensures (over_at c.self.inside.buffers c.in-Some.opened.now c.args.byte over)))
