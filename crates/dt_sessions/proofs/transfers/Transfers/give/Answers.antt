use Rattle.std.proofs.Common.{◌≡◌, Some, length, drop, sym, ap, subst, ◌∙◌}
use Rattle.std.specs.BTreeMap.{is_at}
use Rattle.std.specs.Cmp.Lexicographic.{slice_cmp}
use Rattle.std.specs.Map.{set_value}
use Rattle.std.specs.Ordering.{nat_cmp}
use Rattle.dt_names.specs.Names.{under}
use Rattle.dt_sessions.specs.declared.session.Opened.{Opened}
use Rattle.dt_sessions.specs.Open.{Standing, CanGive, HoldsOpen, opened_given, buffer_in, receipt_in, with_given}
use Rattle.dt_sessions.proofs.Changing.{whole}
use Rattle.dt_sessions.proofs.OpenLemmas.{and_found, never_without, length_found, found_set, holds_given, one_found, set_twice}
use Rattle.dt_sessions.proofs.transfers.Transfers.give.Goals as goal

pub swap-requires : goal.swap-requires
swap-requires c =
    never_without c.self.inside.buffers c.self.inside.sessions.entries c.args.name.now c.in-Some.opened.now c.self.invariant (sym c.in-Some.ensures.value)

pub give-receipt-requires-clause-buffer : goal.give-receipt-requires-clause-buffer
give-receipt-requires-clause-buffer c =
    ap length c.deref_mut.ensures.value
    ∙ (ap length c.into_vec-bytes.ensures
    ∙ length_found c.self.inside.buffers c.self.inside.sessions.entries c.args.name.now c.in-Some.opened.now c.self.invariant (sym c.in-Some.ensures.value)
    c.swap.result c.swap.ensures.was)

pub give-receipt-requires-clause-more : goal.give-receipt-requires-clause-more
give-receipt-requires-clause-more c =
    let at : under c.args.name.now c.self.inside.sessions.entries ≡ Some c.in-Some.opened.now = sym c.in-Some.ensures.value in
    let here = subst (λ (s : Standing). under c.args.name.now s.sessions ≡ Some c.in-Some.opened.now) c.self.view_is at in
    and_found (under c.args.name.now c.args.self.now.sessions) (λ (o : Opened). CanGive o.session c.args.piece.now) c.in-Some.opened.now here c.requires

pub swap-requires-2 : goal.swap-requires-2
swap-requires-2 c =
    let test = is_at (slice_cmp nat_cmp c.in-Some.opened.now.buffer) in
    let there = found_set test c.self.inside.buffers c.swap.result c.from_vec-nothing.result c.swap.ensures.was in
    let here = ap (λ es. under c.in-Some.opened.now.buffer es) c.swap.ensures.swapped ∙ there in
    λ none. let both = sym here ∙ none in cc

pub invariant_of-self : goal.invariant_of-self
invariant_of-self c =
    let buffers = c.self.inside.buffers in
    let sessions = c.self.inside.sessions.entries in
    let name = c.args.name.now in
    let o = c.in-Some.opened.now in
    let test = is_at (slice_cmp nat_cmp o.buffer) in
    let at : under name sessions ≡ Some o = sym c.in-Some.ensures.value in
    let w : Opened = record { buffer = o.buffer; session = c.give-receipt.new.self } in
    let new = c.give-receipt.new.buffer in
    let size = sym (c.give-receipt.ensures.len ∙ c.deref_mut.ensures.len) in
    let bytes : c.from_vec.result ≡ new =
    whole c.into_vec-bytes.result.len new (drop (length new) c.into_vec-bytes.result.items) c.from_vec.result size c.from_vec.ensures
    in
    let long : length new ≡ length c.swap.result = c.give-receipt.ensures.len ∙ (ap length c.deref_mut.ensures.value ∙ ap length c.into_vec-bytes.ensures) in
    let moved : w ≡ opened_given o c.args.piece.now =
    ap (λ x. let o2 : Opened = record { buffer = o.buffer; session = x } in o2) c.give-receipt.ensures.session
    in
    let put : c.swap-2.new.self ≡ set_value test buffers new =
    c.swap-2.ensures.swapped
    ∙ (ap (λ es. set_value test es c.from_vec.result) c.swap.ensures.swapped
    ∙ (set_twice test buffers c.from_vec-nothing.result c.from_vec.result ∙ ap (λ x. set_value test buffers x) bytes))
    in
    let holds = holds_given buffers sessions name o c.args.piece.now c.swap.result new c.self.invariant at c.swap.ensures.was long in
    rw (c.get_mut.follows.holds w).0
    (subst (λ es. HoldsOpen es (set_value (is_at (slice_cmp nat_cmp name)) sessions w)) (sym put)
    (subst (λ x. HoldsOpen (set_value test buffers new) (set_value (is_at (slice_cmp nat_cmp name)) sessions x)) (sym moved) holds))

pub returns : goal.returns
returns c = λ opened is.
    let buffers = c.self.inside.buffers in
    let sessions = c.self.inside.sessions.entries in
    let name = c.args.name.now in
    let piece = c.args.piece.now in
    let o = c.in-Some.opened.now in
    let test = is_at (slice_cmp nat_cmp o.buffer) in
    let at : under name sessions ≡ Some o = sym c.in-Some.ensures.value in
    let one : o ≡ opened =
    one_found (under name sessions) o opened at (subst (λ (s : Standing). under name s.sessions ≡ Some opened) (sym c.self.view_is) is)
    in
    let w : Opened = record { buffer = o.buffer; session = c.give-receipt.new.self } in
    let new = c.give-receipt.new.buffer in
    let size = sym (c.give-receipt.ensures.len ∙ c.deref_mut.ensures.len) in
    let bytes : c.from_vec.result ≡ new =
    whole c.into_vec-bytes.result.len new (drop (length new) c.into_vec-bytes.result.items) c.from_vec.result size c.from_vec.ensures
    in
    let given : new ≡ buffer_in o.session c.swap.result piece =
    c.give-receipt.ensures.buffer
    ∙ ap (λ held. buffer_in o.session held piece) (c.deref_mut.ensures.value ∙ c.into_vec-bytes.ensures)
    in
    let moved : w ≡ opened_given o piece = ap (λ x. let o2 : Opened = record { buffer = o.buffer; session = x } in o2) c.give-receipt.ensures.session in
    let put : c.swap-2.new.self ≡ set_value test buffers (buffer_in o.session c.swap.result piece) =
    c.swap-2.ensures.swapped
    ∙ (ap (λ es. set_value test es c.from_vec.result) c.swap.ensures.swapped
    ∙ (set_twice test buffers c.from_vec-nothing.result c.from_vec.result ∙ ap (λ x. set_value test buffers x) (bytes ∙ given)))
    in
    let stands : Standing = record { buffers = buffers; sessions = sessions } in
    let set = (c.get_mut.follows.holds w).0 ∙ ap (λ x. set_value (is_at (slice_cmp nat_cmp name)) sessions x) moved in
    let here : under o.buffer c.args.self.now.buffers ≡ Some c.swap.result =
    subst (λ (s : Standing). under o.buffer s.buffers ≡ Some c.swap.result) c.self.view_is c.swap.ensures.was
    in
    let both : (let s : Standing = record { buffers = c.swap-2.new.self; sessions = (c.get_mut.follows.lender w).entries } in s) ≡ with_given stands name o c.swap.result piece =
    ap (λ es. let s : Standing = record { buffers = es; sessions = (c.get_mut.follows.lender w).entries } in s) put
    ∙ ap (λ es. let s : Standing = record { buffers = set_value test buffers (buffer_in o.session c.swap.result piece); sessions = es } in s) set
    in
    let now = both ∙ ap (λ s. with_given s name o c.swap.result piece) c.self.view_is in (
      c.swap.result,
      subst (λ (x : Opened). under x.buffer c.args.self.now.buffers ≡ Some c.swap.result) one here,
      now ∙ ap (λ x. with_given c.args.self.now name x c.swap.result piece) one,
      c.give-receipt.ensures.receipt ∙ ap (λ (x : Opened). receipt_in x.session piece) one,
    )
