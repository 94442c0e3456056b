use Rattle.std.specs.Prelude.{ℤ, ◌+ℤ◌, ◌-ℤ◌, ◌≤ℤ◌, ◌⊎◌, List, [], ◌∷◌}
use Rattle.std.specs.List.{AllByRecursion}
use Rattle.dt_map.specs.declared.entry.Entry.{Entry}
use Rattle.dt_map.specs.Bounds.{end_of}

-- elements without a common byte: one ends before the other begins
abbrev pub AreClear : Entry → Entry → Type 0
AreClear e f = (end_of e ≤ℤ f.disp) ⊎ (end_of f ≤ℤ e.disp)

-- elements of which no two have one
abbrev pub AreApart : List Entry → Type 0
AreApart [] = Unit {0}
AreApart (e ∷ es) = AllByRecursion (AreClear e) es × AreApart es

-- offsets that lie at least so many bytes from each other
abbrev pub AreFar : ℤ → ℤ → ℤ → Type 0
AreFar room x y = ((x +ℤ room) ≤ℤ y) ⊎ ((y +ℤ room) ≤ℤ x)

-- offsets each two of which do
abbrev pub AreSpread : ℤ → List ℤ → Type 0
AreSpread room [] = Unit {0}
AreSpread room (x ∷ xs) = AllByRecursion (AreFar room x) xs × AreSpread room xs

-- with so many bytes behind each of them, offsets span at most the whole
abbrev pub AreWithin : ℤ → ℤ → List ℤ → Type 0
AreWithin room whole xs = AllByRecursion (λ x. AllByRecursion (λ y. ((y -ℤ x) +ℤ room) ≤ℤ whole) xs) xs

-- spread offsets from a place on, each of which has its room before another place
abbrev pub Follow : ℤ → ℤ → List ℤ → ℤ → Type 0
Follow room next xs end = AreSpread room xs × AllByRecursion (λ x. (next ≤ℤ x) × ((x +ℤ room) ≤ℤ end)) xs × (next ≤ℤ end)

-- elements from a place on that end before another place, of which no two have a common byte
abbrev pub FollowApart : ℤ → List Entry → ℤ → Type 0
FollowApart next es end = AreApart es × AllByRecursion (λ e. (next ≤ℤ e.disp) × (end_of e ≤ℤ end)) es × (next ≤ℤ end)
