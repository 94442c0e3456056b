use Rattle.std.proofs.Common.{◌≡◌, ◌≤◌, length, sym, ap, subst, ◌∙◌}
use Rattle.std.proofs.lemmas.Int.{to_z-of_z}
use Rattle.std.specs.BTreeMap.{is_at}
use Rattle.std.specs.Cmp.Lexicographic.{slice_cmp}
use Rattle.std.specs.Int.{w64}
use Rattle.std.specs.Ordering.{nat_cmp}
use Rattle.std.specs.Prelude.{drop, List, ℕ}
use Rattle.dt_names.specs.Names.{under}
use Rattle.dt_reduce.specs.Folded.{folded}
use Rattle.dt_reduce.specs.Ranks.{elements_at, AreNotReduced, CanReduceAll}
use Rattle.dt_sessions.specs.Open.{Standing, IsSmall}
use Rattle.dt_sessions.proofs.Changing.{whole, stands_out, holds_back, stands_changed, stands_same, wants_memory}
use Rattle.dt_sessions.proofs.OpenLemmas.{and_found, each_found, one_found}
use Rattle.dt_sessions.proofs.transfers.Transfers.reduce_all.Goals as goal
use Rattle.dt_sessions.proofs.transfers.Transfers.reduce_all.Goals.{in-Ok, in-Err}

pub reduce_all-answer-requires : goal.reduce_all-answer-requires
reduce_all-answer-requires g c =
    let small = each_found IsSmall (is_at (slice_cmp nat_cmp c.args.target.now)) c.self.inside.buffers c.swap.result c.self.invariant.small c.swap.ensures.was in
    subst (λ n. n ≤ 16777216) (sym (ap length (c.deref_mut.ensures.value ∙ c.into_vec-bytes.ensures))) small

pub swap-requires-2 : goal.swap-requires-2
swap-requires-2 g c = stands_out c.self.inside.buffers c.args.target.now c.swap.result c.from_vec-nothing.result c.swap.new.self c.swap.ensures.was c.swap.ensures.swapped

pub only_memory-requires : goal.only_memory-requires
only_memory-requires g c =
    let target = c.args.target.now in
    let origin = to_z-of_z w64 c.args.origin c.ranges.origin in
    let seen = ap (λ (s : Standing). under target s.buffers) c.self.view_is in
    let can = and_found (under target c.args.self.now.buffers) (λ into. CanReduceAll c.args.ranks.now c.args.merges.now c.args.origin (length into)) c.swap.result
    (sym seen ∙ c.swap.ensures.was) c.requires in
    let held = sym (c.deref_mut.ensures.value ∙ c.into_vec-bytes.ensures) in
    let why : AreNotReduced c.args.ranks.now c.args.merges.now c.args.origin (length c.deref_mut.result.now) c.in-Err.fault =
    simp origin at (rw c.in-Err.is at c.reduce_all-answer.ensures.refused)
    in
    wants_memory c.args.ranks.now c.args.merges.now c.args.origin (length c.deref_mut.result.now) c.in-Err.fault why
    (subst (λ b. CanReduceAll c.args.ranks.now c.args.merges.now c.args.origin (length b)) held can)

pub invariant_of-self : goal.invariant_of-self
invariant_of-self g c =
    let new = c.reduce_all-answer.new.into in
    let long : length new ≡ length c.swap.result = c.reduce_all-answer.auto.into ∙ ap length (c.deref_mut.ensures.value ∙ c.into_vec-bytes.ensures) in
    let bytes = whole c.into_vec-bytes.result.len new (drop (length new) c.into_vec-bytes.result.items) c.from_vec.result (sym (c.reduce_all-answer.auto.into ∙ c.deref_mut.ensures.len)) c.from_vec.ensures in
    holds_back c.self.inside.buffers c.args.target.now c.swap.result c.from_vec-nothing.result c.swap.new.self c.swap.ensures.was c.swap.ensures.swapped c.from_vec.result
    c.swap-2.new.self c.swap-2.ensures.swapped c.self.inside.sessions.entries c.self.invariant (ap length bytes ∙ long)

pub returns-clause-ok : goal.returns-clause-ok
returns-clause-ok g c = λ into here.
    let target = c.args.target.now in
    let new = c.reduce_all-answer.new.into in
    let bytes = whole c.into_vec-bytes.result.len new (drop (length new) c.into_vec-bytes.result.items) c.from_vec.result (sym (c.reduce_all-answer.auto.into ∙ c.deref_mut.ensures.len)) c.from_vec.ensures in
    let held : c.deref_mut.result.now ≡ into =
    c.deref_mut.ensures.value
    ∙ (c.into_vec-bytes.ensures
    ∙ one_found (under target c.self.inside.buffers) c.swap.result into c.swap.ensures.was (ap (λ (s : Standing). under target s.buffers) c.self.view_is ∙ here))
    in
    let makes : List ℕ → List ℕ = folded g.L.Law.join (elements_at c.args.ranks.now c.args.origin) c.args.ranks.now.rows in
    elim c.match-answer.branch [
      | in-Ok w ↦
          let made : new ≡ makes c.deref_mut.result.now = simp (to_z-of_z w64 c.args.origin c.ranges.origin) at (rw w.in-Ok.is at c.reduce_all-answer.ensures.bytes) in
          rw w.result-is (stands_changed c.self.inside.buffers target c.swap.result c.from_vec-nothing.result c.swap.new.self c.swap.ensures.was c.swap.ensures.swapped
          c.from_vec.result c.swap-2.new.self c.swap-2.ensures.swapped c.self.inside.sessions.entries c.args.self.now c.self.view_is (makes into)
          (bytes ∙ (made ∙ ap makes held)))
      | in-Err w ↦ rw w.result-is tt
    ]

pub returns-clause-err : goal.returns-clause-err
returns-clause-err g c =
    let target = c.args.target.now in
    let new = c.reduce_all-answer.new.into in
    let bytes = whole c.into_vec-bytes.result.len new (drop (length new) c.into_vec-bytes.result.items) c.from_vec.result (sym (c.reduce_all-answer.auto.into ∙ c.deref_mut.ensures.len)) c.from_vec.ensures in
    elim c.match-answer.branch [
      | in-Ok w ↦ rw w.result-is tt
      | in-Err w ↦
          let same = rw w.in-Err.is at c.reduce_all-answer.ensures.unchanged in
          rw w.result-is (stands_same c.self.inside.buffers target c.swap.result c.from_vec-nothing.result c.swap.new.self c.swap.ensures.was c.swap.ensures.swapped
          c.from_vec.result c.swap-2.new.self c.swap-2.ensures.swapped c.self.inside.sessions.entries c.args.self.now c.self.view_is
          (bytes ∙ (same.1 ∙ (c.deref_mut.ensures.value ∙ c.into_vec-bytes.ensures))))
    ]
