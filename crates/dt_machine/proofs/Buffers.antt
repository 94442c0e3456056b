-- What is made of buffers that stand.
use Rattle.std.proofs.Common.{◌≡◌, ℕ, List, Option, Some, None, Result, Ok, Err, refl, sym, ap, ◌∙◌}
use Rattle.std.specs.Option.{IsSomeAnd}
use Rattle.std.specs.Prelude.{OnOk}
use Rattle.dt_names.specs.Names.{under}
use Rattle.dt_sessions.specs.Open.{Standing, with_bytes}
use Rattle.dt_machine.specs.Outcome.{made_in, set_in}

-- what stands where this holds of it
stands : {A : Type 0} (o : Option A) (P : A → Type 0) → IsSomeAnd o P → (x : A) × (o ≡ Some x)
stands None P h = absurd h
stands (Some x) P h = (x, refl)

-- two buffers that stand, of which the second was changed by both
pub made_of : (t new : Standing) (source target : List ℕ) (makes : List ℕ → List ℕ → List ℕ) (P Q : List ℕ → Type 0) → IsSomeAnd (under source t.buffers) P
    → IsSomeAnd (under target t.buffers) Q
    → ((old held : List ℕ) → under source t.buffers ≡ Some old → under target t.buffers ≡ Some held → new ≡ with_bytes t target (makes old held))
    → new ≡ record t { buffers = made_in t.buffers target (under source t.buffers) (under target t.buffers) makes }
made_of t new source target makes P Q there here made =
    let (old, one) = stands (under source t.buffers) P there in
    let (held, other) = stands (under target t.buffers) Q here in
    let of : Option (List ℕ) → Option (List ℕ) → Standing = λ o p. record t { buffers = made_in t.buffers target o p makes } in
    made old held one other ∙ (ap (of (Some old)) (sym other) ∙ ap (λ o. of o (under target t.buffers)) (sym one))

-- one that was changed
set_of : (t new : Standing) (target : List ℕ) (makes : List ℕ → List ℕ) (P : List ℕ → Type 0) → IsSomeAnd (under target t.buffers) P
    → ((held : List ℕ) → under target t.buffers ≡ Some held → new ≡ with_bytes t target (makes held))
    → new ≡ record t { buffers = set_in t.buffers target (under target t.buffers) makes }
set_of t new target makes P here made =
    let (held, is) = stands (under target t.buffers) P here in
    let of : Option (List ℕ) → Standing = λ o. record t { buffers = set_in t.buffers target o makes } in
    made held is ∙ ap of (sym is)

-- and where an answer says so
pub set_ok : {A E : Type 0} (r : Result A E) (t new : Standing) (target : List ℕ) (makes : List ℕ → List ℕ) (P : List ℕ → Type 0)
    → IsSomeAnd (under target t.buffers) P
    → ((held : List ℕ) → under target t.buffers ≡ Some held → OnOk r (new ≡ with_bytes t target (makes held)))
    → OnOk r (new ≡ record t { buffers = set_in t.buffers target (under target t.buffers) makes })
set_ok (Ok x) t new target makes P here made = set_of t new target makes P here made
set_ok (Err e) t new target makes P here made = tt
