use Rattle.std.proofs.Common.{◌≡◌, ◌≤◌, ℤ, SFits, take, length, ap, subst, ◌∙◌, arith, rules}
use Rattle.std.proofs.lemmas.Int.{to_z-of_z}
use Rattle.std.specs.Int.{w64}
use mir.Val.{to_z, of_z}
use Rattle.dt_reduce.specs.Paired.{Paired, at_count, source_of, target_of}
use Rattle.dt_reduce.specs.Reduced.{reduced}
use Rattle.dt_reduce.proofs.Walking.{step, source_lies, target_lies, more_joined}
use Rattle.dt_reduce.proofs.pairs.Pairs.join_all.Goals as goal

pub join_rows-requires-clause-source : goal.join_rows-requires-clause-source
join_rows-requires-clause-source g c =
    let i = c.self.inside in
    let q : Paired = record { elements = i.cursor.elements; source_origin = i.source_origin; source_len = i.source_len; target_origin = i.target_origin; target_len = i.target_len; done = i.done } in
    let x : ℤ = to_z w64 (of_z w64 i.source_origin) in
    let y : ℤ = to_z w64 (of_z w64 i.target_origin) in
    let here : SFits w64 i.source_origin = search rules in
    let there : SFits w64 i.target_origin = search rules in
    let s = step c.args.self.now c.rows.self q c.in-Some.rows x y c.rows.invariant.passed c.in-Some.ensures.next (c.self.view_is ∙ c.in-Some.ensures.passed) c.self.invariant.0 (to_z-of_z w64 i.source_origin here) (to_z-of_z w64 i.target_origin there) in
    source_lies c.args.self.now c.rows.self q c.in-Some.rows x y s (length c.args.source.now) c.requires.source

pub join_rows-requires-clause-target : goal.join_rows-requires-clause-target
join_rows-requires-clause-target g c =
    let i = c.self.inside in
    let q : Paired = record { elements = i.cursor.elements; source_origin = i.source_origin; source_len = i.source_len; target_origin = i.target_origin; target_len = i.target_len; done = i.done } in
    let x : ℤ = to_z w64 (of_z w64 i.source_origin) in
    let y : ℤ = to_z w64 (of_z w64 i.target_origin) in
    let here : SFits w64 i.source_origin = search rules in
    let there : SFits w64 i.target_origin = search rules in
    let s = step c.args.self.now c.rows.self q c.in-Some.rows x y c.rows.invariant.passed c.in-Some.ensures.next (c.self.view_is ∙ c.in-Some.ensures.passed) c.self.invariant.0 (to_z-of_z w64 i.source_origin here) (to_z-of_z w64 i.target_origin there) in
    target_lies c.args.self.now c.rows.self q c.in-Some.rows x y s (length c.rows.target) (c.rows.auto.target ∙ c.requires.target)

pub rows-smaller : goal.rows-smaller
rows-smaller g c =
    let i = c.self.inside in
    let q : Paired = record { elements = i.cursor.elements; source_origin = i.source_origin; source_len = i.source_len; target_origin = i.target_origin; target_len = i.target_len; done = i.done } in
    let x : ℤ = to_z w64 (of_z w64 i.source_origin) in
    let y : ℤ = to_z w64 (of_z w64 i.target_origin) in
    let here : SFits w64 i.source_origin = search rules in
    let there : SFits w64 i.target_origin = search rules in
    let s = step c.args.self.now c.rows.self q c.in-Some.rows x y c.rows.invariant.passed c.in-Some.ensures.next (c.self.view_is ∙ c.in-Some.ensures.passed) c.self.invariant.0 (to_z-of_z w64 i.source_origin here) (to_z-of_z w64 i.target_origin there) in
    let now = ap (λ (u : Paired). u.done) c.self.view_is in
    let done = s.done in
    let some = s.some in
    let within = s.within in
    omega (arith, now, done, some, within)

pub rows-preserved : goal.rows-preserved
rows-preserved g c =
    let i = c.self.inside in
    let a = c.args.self.now in
    let q : Paired = record { elements = i.cursor.elements; source_origin = i.source_origin; source_len = i.source_len; target_origin = i.target_origin; target_len = i.target_len; done = i.done } in
    let x : ℤ = to_z w64 (of_z w64 i.source_origin) in
    let y : ℤ = to_z w64 (of_z w64 i.target_origin) in
    let here : SFits w64 i.source_origin = search rules in
    let there : SFits w64 i.target_origin = search rules in
    let s = step c.args.self.now c.rows.self q c.in-Some.rows x y c.rows.invariant.passed c.in-Some.ensures.next (c.self.view_is ∙ c.in-Some.ensures.passed) c.self.invariant.0 (to_z-of_z w64 i.source_origin here) (to_z-of_z w64 i.target_origin there) in
    let joined = more_joined a c.rows.self q c.in-Some.rows x y s g.L.Law.join c.args.source.now c.args.target.now c.rows.target c.join_rows.new.target c.requires.target c.rows.invariant.bytes c.join_rows.ensures in
    record {
      passed = subst (λ (u : Paired). u ≡ at_count a u.done) c.self.view_is s.passed;
      bytes = subst (λ (u : Paired). c.join_rows.new.target ≡ reduced g.L.Law.join (take u.done (source_of a)) (take u.done (target_of a)) c.args.source.now c.args.target.now) c.self.view_is joined;
      within = subst (λ (u : Paired). u.done ≤ length a.elements) c.self.view_is s.within;
    }
