-- The datatypes and the sessions of a space, and what a number stands for.
use Rattle.std.specs.Prelude.{◌≡◌, ℕ, ◌==◌, if◌then◌else◌, true, Option, None, List, [], slice_get}
use Rattle.std.specs.Option.{option_map}
use Rattle.dt_form.specs.declared.form.FormOf.TheVariants.{Named}
use Rattle.dt_kinds.specs.declared.kind.Kind.{Kind}
use Rattle.dt_kinds.specs.Name.{kinds}
use Rattle.dt_registry.specs.declared.registry.Handle.{Handle}
use Rattle.dt_registry.specs.declared.registry.Live.{Live}
use Rattle.dt_registry.specs.Registry.{Registry, first_registry, live_at}
use Rattle.dt_type.specs.declared.datatype.Seen.{Seen}
use Rattle.dt_type.specs.Form.{result_of}
use Rattle.dt_space.specs.declared.fault.SpaceFault.{SpaceFault}
use Rattle.dt_space.specs.declared.fault.SpaceFault.TheVariants.{NoSuchType, NoMemory}
use Rattle.dt_space.specs.declared.number.Kept.{Kept}
use Rattle.dt_space.specs.declared.number.TypeNumber.{TypeNumber}
use Rattle.dt_space.specs.declared.session.Session.{Session}

-- the datatypes under their handles, the open sessions under their numbers, and how many sessions were begun
pub record Space : Type 0 where
  pub types : Registry
  pub sessions : List (ℕ × Session)
  pub begun : ℕ

-- before the first call
abbrev pub first_space : Space
first_space = record { types = first_registry; sessions = []; begun = 0 }

abbrev pub handle_of : TypeNumber → Handle
handle_of n = record { slot = n.slot; serial = n.serial }

-- a basic type is committed (MPI 4.1, section 5.1.9)
abbrev pub basic : Kind → Kept
basic kind = record { ty = result_of (Named kind); committed = true }

abbrev pub kept_of : Live → Kept
kept_of live = record { ty = live.ty; committed = live.committed }

-- what a number stands for: a basic type by its place in the table of kinds, else what its handle stands for
abbrev pub kept_at : Space → TypeNumber → Option Kept
kept_at s n =
    if n.serial == 18446744073709551615 then option_map basic (slice_get kinds n.slot) else option_map kept_of (live_at s.types (handle_of n))

abbrev pub type_at : Space → TypeNumber → Option Seen
type_at s n = option_map (λ kept. kept.ty) (kept_at s n)

-- why a number isn't answered by its datatype: it stands for nothing; want of memory is tied to nothing
abbrev pub IsMissing : Space → TypeNumber → SpaceFault → Type 0
IsMissing s n NoSuchType = kept_at s n ≡ None
IsMissing s n NoMemory = Unit {0}
IsMissing s n fault = ⊥
