-- From an element to the next.
use mir.Syntax.{w64}
use mir.Val.{to_z, of_z}
use Rattle.std.specs.Prelude.{◌≡◌, ℕ, ◌+◌, ◌<◌, ℤ, pos, List, [], ◌∷◌, ◌++◌}
use Rattle.std.proofs.Common.{refl, sym, ap, subst, ◌∙◌, arith}
use Rattle.std.proofs.lemmas.Int.{to_z-of_z, fits_signed_from_abs}
use Rattle.std.proofs.lemmas.List.Sums.{sum_by-cons}
use Rattle.dt_cursor.specs.declared.frames.Frame.{Frame}
use Rattle.dt_cursor.specs.declared.onward.Next.{Next}
use Rattle.dt_cursor.specs.Frames.{IsToRun, StandAt, ToCome}
use Rattle.dt_cursor.specs.Onward.{IsNextOf}
use Rattle.dt_cursor.specs.Rounds.{elements_of}
use Rattle.dt_cursor.specs.Search.{IsFound, IsSought}
use Rattle.dt_cursor.proofs.Running.{next_round, rounds_are_left}
use Rattle.dt_kinds.specs.declared.kind.Rep.{Rep}
use Rattle.dt_kinds.specs.declared.kind.Rep.TheVariants.{Native, External32}
use Rattle.dt_kinds.specs.Kind.{packed_size}
use Rattle.dt_kinds.specs.declared.kind.Kind.{Kind}
use Rattle.dt_kinds.proofs.Table.{native_size-pos, external_size-pos}
use Rattle.dt_layout.specs.Body.{Body, meaning, size}
use Rattle.dt_layout.specs.declared.instr.Instr.{Instr}
use Rattle.dt_layout.proofs.Bodies.{size_is_total}
use Rattle.dt_map.specs.declared.entry.Entry.{Entry}
use Rattle.dt_map.specs.Packed.{total}

pub packed_size-pos : (rep : Rep) (kind : Kind) → 0 < packed_size rep kind
packed_size-pos Native kind = native_size-pos kind
packed_size-pos External32 kind = external_size-pos kind

pub total-cons : (rep : Rep) (e : Entry) (es : List Entry) → total rep (e ∷ es) ≡ packed_size rep e.kind + total rep es
total-cons rep e es = sum_by-cons (λ (f : Entry). packed_size rep f.kind) e es

-- what has no packed bytes has no elements
pub none_of : (rep : Rep) (es : List Entry) → total rep es ≡ 0 → es ≡ []
none_of rep [] none = refl
none_of rep (e ∷ es) none = absurd (omega (arith, total-cons rep e es, none, packed_size-pos rep e.kind))

some_of : (rep : Rep) (es : List Entry) → 0 < total Native es → 0 < total rep es
some_of rep [] some = some
some_of rep (e ∷ es) some = omega (arith, total-cons rep e es, packed_size-pos rep e.kind)

pub some_in : (rep : Rep) (body : Body) → 0 < size Native body → 0 < size rep body
some_in rep body some =
    subst (λ n. 0 < n) (size_is_total rep body (pos 0)) (some_of rep (meaning body (pos 0)) (subst (λ n. 0 < n) (sym (size_is_total Native body (pos 0))) some))

module _ (code : List Instr) (rep : Rep) (frames : List Frame) (at : ℕ) (x : ℤ) (body : Body) (es : List Entry) (run : IsToRun code frames at body x es) (some : 0 < size Native body) where
  pub first_sought : IsSought code rep frames at x 0 body es
  first_sought = record { run = run; most = omega arith; inner = λ inner. some_in rep body some }

  pub base_back : to_z w64 (of_z w64 x) ≡ x
  base_back = to_z-of_z w64 x (fits_signed_from_abs w64 x (run.placed.offset some))

-- byte 0 was found: frames stand at the first element
pub first_found : (code : List Instr) (rep : Rep) (es : List Entry) (frames : List Frame) (held : ℕ) → IsFound code rep es 0 frames held → StandAt code frames es
first_found code rep es frames held found =
    let place = found.place in
    let none = none_of rep found.before (omega (arith, place)) in
    subst (StandAt code frames) (ap (λ s. s ++ found.rest) (sym none) ∙ sym found.all) found.stand

-- a level that goes on, and one that ends
module _ (code : List Instr) (frame : Frame) (frames : List Frame) (es : List Entry) (come : ToCome code (frame ∷ frames) es) where
  pub goes_on : (n : Next) → IsNextOf come.1 n → (body : Body) × IsToRun code (n.frame ∷ frames) n.at body n.base es × (0 < size Native body)
  goes_on n is =
      let run = next_round code frame frames come.0 come.1 is.skipped is.after is.round come.2 come.3 come.4 is.split is.nothing is.some in
      let there = subst (λ (f : Frame). IsToRun code (f ∷ frames) n.at is.round.body n.base es) (sym is.frame)
      (subst (λ k. IsToRun code (is.round.frame ∷ frames) k is.round.body n.base es) (sym is.at)
      (subst (λ y. IsToRun code (is.round.frame ∷ frames) is.round.at is.round.body y es) (sym is.base)
      (subst (IsToRun code (is.round.frame ∷ frames) is.round.at is.round.body is.round.offset) (sym come.5) run))) in
      (is.round.body, there, is.some)

  pub ends : elements_of come.1 ≡ [] → ToCome code frames es
  ends nothing = subst (ToCome code frames) (sym come.5) (rounds_are_left code frame frames come.0 come.1 come.2 come.3 come.4 nothing)

-- the same search, over what is the same
pub sought_at : (there code : List Instr) (rep : Rep) (new frames : List Frame) (at : ℕ) (y x : ℤ) (left : ℕ) (body : Body) (es : List Entry) → there ≡ code → new ≡ frames → y ≡ x
    → IsSought code rep frames at x left body es → IsSought there rep new at y left body es
sought_at there code rep new frames at y x left body es c f b is =
    subst (λ k. IsSought k rep new at y left body es) (sym c) (subst (λ k. IsSought code rep k at y left body es) (sym f) (subst (λ k. IsSought code rep frames at k left body es) (sym b) is))
