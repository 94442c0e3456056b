-- What one call keeps, and so any number of calls.
use Rattle.std.specs.Prelude.{◌≡◌, ◌≢◌, ℕ, zero, suc, ◌<◌, ◌≤◌, Option, None, true, is_some}
use Rattle.std.proofs.Common.{sym, ap, subst, ◌∙◌, inl, inr, arith}
use Rattle.dt_registry.specs.declared.registry.Handle.{Handle}
use Rattle.dt_registry.specs.declared.registry.Live.{Live}
use Rattle.dt_registry.specs.Registry.{Registry, live_at, Makes, Sets}
use Rattle.dt_registry.specs.Laws.{IsStep, Leads, FreedStaysFreed, NoHandleTwice}

-- a handle that was made and isn't live
record IsGone (r : Registry) (h : Handle) : Type 0 where
  pub made : h.serial < r.made
  pub none : live_at r h ≡ None

abbrev serial_of : Handle → ℕ
serial_of h = h.serial

gone_after_make : (old new : Registry) (g h : Handle) (live : Live) → Makes old new g live → IsGone old h → IsGone new h
gone_after_make old new g h live makes gone =
    let serial = makes.serial in
    let made = makes.made in
    let earlier = gone.made in
    let other : h ≢ g = λ same. let e : h.serial ≡ g.serial = ap serial_of same in omega arith in
    record { made = omega arith; none = makes.changes.others h other ∙ gone.none }

gone_after_set : (old new : Registry) (g h : Handle) (to : Option Live) → Sets old new g to → IsGone old h → IsGone new h
gone_after_set old new g h to sets gone =
    let made = sets.made in
    let earlier = gone.made in
    let none = gone.none in
    let some : is_some (live_at old g) ≡ true = sets.was_live in
    let other : h ≢ g = λ same. cc in
    record { made = omega arith; none = sets.changes.others h other ∙ gone.none }

gone_after_step : (old new : Registry) (h : Handle) → IsStep old new → IsGone old h → IsGone new h
gone_after_step old new h (inl same) gone = subst (λ r. IsGone r h) (sym same) gone
gone_after_step old new h (inr (inl w)) gone = gone_after_make old new w.0 h w.1 w.2 gone
gone_after_step old new h (inr (inr w)) gone = gone_after_set old new w.0 h w.1 w.2 gone

gone_after : (calls : ℕ) (old new : Registry) (h : Handle) → Leads calls old new → IsGone old h → IsGone new h
gone_after zero old new h same gone = subst (λ r. IsGone r h) (sym same) gone
gone_after (suc calls) old new h w gone = gone_after calls w.0 new h w.2 (gone_after_step old w.0 h w.1 gone)

pub freed_stays_freed : FreedStaysFreed
freed_stays_freed calls old new h leads made none = (gone_after calls old new h leads (record { made = made; none = none })).none

-- the number of handles made never falls
rises_by_step : (old new : Registry) → IsStep old new → old.made ≤ new.made
rises_by_step old new (inl same) = let e : new.made ≡ old.made = ap (λ (r : Registry). r.made) same in omega arith
rises_by_step old new (inr (inl w)) = let e = w.2.made in omega arith
rises_by_step old new (inr (inr w)) = let e = w.2.made in omega arith

rises : (calls : ℕ) (old new : Registry) → Leads calls old new → old.made ≤ new.made
rises zero old new same = let e : new.made ≡ old.made = ap (λ (r : Registry). r.made) same in omega arith
rises (suc calls) old new w = let first = rises_by_step old w.0 w.1 in let rest = rises calls w.0 new w.2 in omega arith

pub no_handle_twice : NoHandleTwice
no_handle_twice calls old first later last g h a b makes leads makes_again same =
    let e : g.serial ≡ h.serial = ap serial_of same in
    let earlier = makes.serial in
    let made = makes.made in
    let later_made = makes_again.serial in
    let more = rises calls first later leads in
    omega arith
