use Rattle.std.specs.Prelude.{◌≡◌, ℕ, ◌≤◌, ◌<◌, ℤ, List, map, length}
use Rattle.dt_map.specs.Typemap.{shift}
use Rattle.dt_tree.specs.declared.fault.FlattenFault.{FlattenFault}
use Rattle.dt_tree.specs.declared.fault.FlattenFault.TheVariants.{TooMany, NoMemory}
use Rattle.dt_tree.specs.declared.place.Place.{Place}
use Rattle.dt_tree.specs.Place.{place_of}
use Rattle.dt_tree.specs.Tree.{Tree, flat}

-- all that a tree places from a base on, where at most so many elements are wanted
abbrev pub IsListed : Tree → ℤ → ℕ → List Place → Type 0
IsListed tree base max places = (length (flat tree) ≤ max) × (places ≡ map place_of (shift base (flat tree)))

-- why they aren't listed: they are more, or memory ran out
abbrev pub IsNotListed : Tree → ℕ → FlattenFault → Type 0
IsNotListed tree max TooMany = max < length (flat tree)
IsNotListed tree max NoMemory = length (flat tree) ≤ max
