use Rattle.std.proofs.Common.{◌≡◌, length, Some, None, sym, ap, subst, ◌∙◌}
use Rattle.std.specs.Option.{IsSomeAnd}
use Rattle.std.specs.Prelude.{drop, List, ℕ}
use Rattle.dt_names.specs.Names.{under}
use Rattle.dt_sessions.specs.Open.{Standing}
use Rattle.dt_sessions.proofs.Changing.{whole, stands_out, others_stand, holds_back, stands_changed}
use Rattle.dt_sessions.proofs.OpenLemmas.{and_found, one_found}
use Rattle.dt_copy.specs.Copied.{copied}
use Rattle.dt_sessions.proofs.transfers.Transfers.copy.Goals as goal

pub unreachable-requires : goal.unreachable-requires
unreachable-requires c =
    let source = c.args.source.now in
    let seen = ap (λ (s : Standing). under source s.buffers) c.self.view_is in
    let others = others_stand c.self.inside.buffers c.args.target.now c.swap.result c.from_vec-nothing.result c.swap.new.self c.swap.ensures.was c.swap.ensures.swapped source c.requires.apart in
    let gone : under source c.args.self.now.buffers ≡ None = sym seen ∙ (sym others ∙ c.in_default.ensures) in
    subst (λ o. IsSomeAnd o (λ bytes. length bytes ≡ c.args.plan.now.source_len)) gone c.requires.source

pub run-elements-requires-clause-source : goal.run-elements-requires-clause-source
run-elements-requires-clause-source c =
    let source = c.args.source.now in
    let seen = ap (λ (s : Standing). under source s.buffers) c.self.view_is in
    let others = others_stand c.self.inside.buffers c.args.target.now c.swap.result c.from_vec-nothing.result c.swap.new.self c.swap.ensures.was c.swap.ensures.swapped source c.requires.apart in
    let there : under source c.args.self.now.buffers ≡ Some c.in-Some.from.now = sym seen ∙ (sym others ∙ c.in-Some.ensures) in
    and_found (under source c.args.self.now.buffers) (λ bytes. length bytes ≡ c.args.plan.now.source_len) c.in-Some.from.now there c.requires.source

pub swap-requires-2 : goal.swap-requires-2
swap-requires-2 c = stands_out c.self.inside.buffers c.args.target.now c.swap.result c.from_vec-nothing.result c.swap.new.self c.swap.ensures.was c.swap.ensures.swapped

pub invariant_of-self : goal.invariant_of-self
invariant_of-self c =
    let new = c.run-elements.new.target in
    let long : length new ≡ length c.swap.result = c.run-elements.auto.target ∙ ap length (c.deref_mut.ensures.value ∙ c.into_vec-bytes.ensures) in
    let bytes = whole c.into_vec-bytes.result.len new (drop (length new) c.into_vec-bytes.result.items) c.from_vec.result (sym (c.run-elements.auto.target ∙ c.deref_mut.ensures.len)) c.from_vec.ensures in
    holds_back c.self.inside.buffers c.args.target.now c.swap.result c.from_vec-nothing.result c.swap.new.self c.swap.ensures.was c.swap.ensures.swapped c.from_vec.result
    c.swap-2.new.self c.swap-2.ensures.swapped c.self.inside.sessions.entries c.self.invariant (ap length bytes ∙ long)

pub returns-clause-bytes : goal.returns-clause-bytes
returns-clause-bytes c = λ from to at here.
    let source = c.args.source.now in
    let target = c.args.target.now in
    let new = c.run-elements.new.target in
    let bytes = whole c.into_vec-bytes.result.len new (drop (length new) c.into_vec-bytes.result.items) c.from_vec.result (sym (c.run-elements.auto.target ∙ c.deref_mut.ensures.len)) c.from_vec.ensures in
    let others = others_stand c.self.inside.buffers target c.swap.result c.from_vec-nothing.result c.swap.new.self c.swap.ensures.was c.swap.ensures.swapped source c.requires.apart in
    let first : c.in-Some.from.now ≡ from =
    one_found (under source c.self.inside.buffers) c.in-Some.from.now from (sym others ∙ c.in-Some.ensures) (ap (λ (s : Standing). under source s.buffers) c.self.view_is ∙ at)
    in
    let second : c.deref_mut.result.now ≡ to =
    c.deref_mut.ensures.value
    ∙ (c.into_vec-bytes.ensures
    ∙ one_found (under target c.self.inside.buffers) c.swap.result to c.swap.ensures.was (ap (λ (s : Standing). under target s.buffers) c.self.view_is ∙ here))
    in
    let makes : List ℕ → List ℕ → List ℕ = copied c.args.plan.now.source c.args.plan.now.target in
    let made = c.run-elements.ensures.bytes ∙ (ap (λ x. makes x c.deref_mut.result.now) first ∙ ap (makes from) second) in
    stands_changed c.self.inside.buffers target c.swap.result c.from_vec-nothing.result c.swap.new.self c.swap.ensures.was c.swap.ensures.swapped c.from_vec.result
    c.swap-2.new.self c.swap-2.ensures.swapped c.self.inside.sessions.entries c.args.self.now c.self.view_is (makes from to) (bytes ∙ made)
