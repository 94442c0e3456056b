use Rattle.std.specs.Prelude.{◌≡◌, ℕ, List, get_or}
use Rattle.dt_map.specs.declared.entry.Entry.{Entry}
use Rattle.dt_tree.specs.declared.place.Place.{Place}

-- an entry of a tree as a place
abbrev pub place_of : Entry → Place
place_of e = record { kind = e.kind; disp = e.disp }

-- a place is that of entry k
abbrev pub IsPlaceAt : List Entry → ℕ → Place → Type 0
IsPlaceAt es k place = (d : Entry) → place ≡ place_of (get_or es k d)
