use Rattle.std.specs.Prelude.{◌≡◌, ◌≢◌, ℕ, ◌+◌, ◌==◌, ◌<◌, Option, Some, None, is_some, IsSome, if◌then◌else◌, Bool, true, false, count_by, List, [], slice_index_or}
use Rattle.std.specs.Option.{option_map}
use Rattle.dt_type.specs.declared.datatype.Seen.{Seen}
use Rattle.dt_type.specs.Basic.{is_basic}
use Rattle.dt_registry.specs.declared.registry.Handle.{Handle}
use Rattle.dt_registry.specs.declared.registry.Live.{Live}

-- how many handles were made, and what each slot holds
pub record Registry : Type 0 where
  pub made : ℕ
  pub slots : List (Option Live)

-- before the first call
abbrev pub first_registry : Registry
first_registry = record { made = 0; slots = [] }

-- what a slot holds, if that has this serial
abbrev pub of_serial : ℕ → Option Live → Option Live
of_serial serial None = None
of_serial serial (Some live) = if live.serial == serial then Some live else None

-- what a handle stands for, and nothing where it isn't live: it is live where its slot holds something of its serial
abbrev pub live_at : Registry → Handle → Option Live
live_at r h = of_serial h.serial (slice_index_or r.slots h.slot None)

abbrev pub type_at : Registry → Handle → Option Seen
type_at r h = option_map (λ live. live.ty) (live_at r h)

abbrev pub flag_at : Registry → Handle → Option Bool
flag_at r h = option_map (λ live. live.committed) (live_at r h)

-- the same with the flag set
abbrev pub committed : Live → Live
committed live = record live { committed = true }

abbrev pub committed_at : Registry → Handle → Option Live
committed_at r h = option_map committed (live_at r h)

abbrev pub is_live_basic : Option Seen → Bool
is_live_basic None = false
is_live_basic (Some t) = is_basic t

-- whether a handle stands for a basic type
abbrev pub is_basic_at : Registry → Handle → Bool
is_basic_at r h = is_live_basic (type_at r h)

-- how many handles are live
abbrev pub live_count : Registry → ℕ
live_count r = count_by is_some r.slots

-- the new registry has this at the handle, and every other handle what it had
pub record Changes (old new : Registry) (h : Handle) (to : Option Live) : Type 0 where
  pub changed : live_at new h ≡ to
  pub others : (other : Handle) → other ≢ h → live_at new other ≡ live_at old other

-- a call that makes this handle, which no call made before
pub record Makes (old new : Registry) (h : Handle) (live : Live) : Type 0 where
  pub serial : h.serial ≡ old.made
  pub made : new.made ≡ old.made + 1
  pub was_free : live_at old h ≡ None
  pub changes : Changes old new h (Some live)

-- a call that makes no handle, and changes what a live one stands for: None where it takes the handle away
pub record Sets (old new : Registry) (h : Handle) (to : Option Live) : Type 0 where
  pub made : new.made ≡ old.made
  pub was_live : IsSome (live_at old h)
  pub changes : Changes old new h to

-- the serial of every live handle is below the number of handles made
abbrev pub HoldsEarlier : ℕ → List (Option Live) → Type 0
HoldsEarlier made slots = (slot : ℕ) (live : Live) → slice_index_or slots slot None ≡ Some live → live.serial < made

abbrev pub AreEarlier : Registry → Type 0
AreEarlier r = (h : Handle) → IsSome (live_at r h) → h.serial < r.made
