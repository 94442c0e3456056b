-- The types that stand, and how many were made. Private functions and proofs alone cite this module, but for the model of `Types`.
use Rattle.std.specs.Prelude.{◌≡◌, ◌≢◌, ℕ, ◌+◌, true, List, [], ◌∷◌, length, Some, Option, MatchOption, None, IsSome}
use Rattle.std.specs.BTreeMap.{is_at, insert_entry}
use Rattle.std.specs.Cmp.Lexicographic.{slice_cmp}
use Rattle.std.specs.List.{flat_map, AllByRecursion}
use Rattle.std.specs.Map.{set_value, remove_entry}
use Rattle.std.specs.Ordering.{nat_cmp}
use Rattle.dt_registry.specs.declared.registry.Handle.{Handle}
use Rattle.dt_registry.specs.declared.registry.Live.{Live}
use Rattle.dt_registry.specs.Registry.{Registry, live_at, live_count}
use Rattle.dt_names.specs.declared.kept.Kept.{Kept}
use Rattle.dt_names.specs.declared.types.Held.{Held}

pub record Standing : Type 0 where
  pub entries : List (List ℕ × Kept)
  pub made : ℕ

abbrev pub none_standing : Standing
none_standing = record { entries = []; made = 0 }

-- what was found is what stands under a name
abbrev pub IsFound : Option Kept → Option Held → Type 0
IsFound kept found = MatchOption found (kept ≡ None) (λ f. kept ≡ Some (record { ty = f.ty.now; committed = f.committed }))

abbrev pub with_name : Standing → List ℕ → Kept → Standing
with_name s name kept = record { entries = insert_entry (slice_cmp nat_cmp) s.entries name kept; made = s.made + 1 }

abbrev pub with_flag : Standing → List ℕ → Kept → Standing
with_flag s name kept =
    record s { entries = set_value (is_at (slice_cmp nat_cmp name)) s.entries (record { ty = kept.ty; committed = true }) }

abbrev pub without_name : Standing → List ℕ → Standing
without_name s name = record s { entries = remove_entry (is_at (slice_cmp nat_cmp name)) s.entries }

-- what a live handle stands for
abbrev pub kept_of : Live → Kept
kept_of live = record { ty = live.ty; committed = live.committed }

-- a name with what its handle stands for
abbrev pub entry_of : List ℕ → Option Live → List (List ℕ × Kept)
entry_of name None = []
entry_of name (Some live) = (name, kept_of live) ∷ []

-- the types that stand where each name has a handle of a registry
abbrev pub standing : Registry → List (List ℕ × Handle) → List (List ℕ × Kept)
standing r names = flat_map (λ entry. entry_of entry.0 (live_at r entry.1)) names

abbrev pub AreLive : Registry → List (List ℕ × Handle) → Type 0
AreLive r names = AllByRecursion (λ entry. IsSome (live_at r entry.1)) names

-- no name has this handle
abbrev pub AreOthers : Handle → List (List ℕ × Handle) → Type 0
AreOthers h names = AllByRecursion (λ entry. entry.1 ≢ h) names

-- no two names have one handle
abbrev pub AreApart : List (List ℕ × Handle) → Type 0
AreApart [] = Unit {0}
AreApart (entry ∷ names) = AreOthers entry.1 names × AreApart names

pub record HoldsNames (r : Registry) (names : List (List ℕ × Handle)) : Type 0 where
  pub live : AreLive r names
  pub apart : AreApart names
  pub whole : live_count r ≡ length names
