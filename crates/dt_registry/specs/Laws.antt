use Rattle.std.specs.Prelude.{◌≡◌, ◌≢◌, ℕ, zero, suc, ◌<◌, ◌⊎◌, None, Option}
use Rattle.dt_registry.specs.declared.registry.Handle.{Handle}
use Rattle.dt_registry.specs.declared.registry.Live.{Live}
use Rattle.dt_registry.specs.Registry.{Registry, live_at, Makes, Sets}

-- what a call does to a registry: nothing, or it makes a handle, or it changes what a live one stands for
abbrev pub IsStep : Registry → Registry → Type 0
IsStep old new =
    (new ≡ old)
    ⊎ ((h : Handle) × (live : Live) × Makes old new h live)
    ⊎ ((h : Handle) × (to : Option Live) × Sets old new h to)

-- so many calls lead from one registry to another
abbrev pub Leads : ℕ → Registry → Registry → Type 0
Leads zero old new = new ≡ old
Leads (suc calls) old new = (next : Registry) × IsStep old next × Leads calls next new

-- a handle that was made and is live no more never answers again
abbrev pub FreedStaysFreed : Type 0
FreedStaysFreed =
    (calls : ℕ) (old new : Registry) (h : Handle)
    → Leads calls old new → h.serial < old.made → live_at old h ≡ None → live_at new h ≡ None

-- a handle that is made differs from each one that was made before
abbrev pub NoHandleTwice : Type 0
NoHandleTwice =
    (calls : ℕ) (old first later last : Registry) (g h : Handle) (a b : Live)
    → Makes old first g a → Leads calls first later → Makes later last h b → g ≢ h
