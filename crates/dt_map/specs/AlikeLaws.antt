use Rattle.std.specs.Prelude.{◌≡◌, ◌↔◌, ℕ, IsTrue, ℤ, List}
use Rattle.dt_map.specs.declared.entry.Entry.{Entry}
use Rattle.dt_map.specs.Typemap.{shift}
use Rattle.dt_map.specs.Runs.{natural_extent}
use Rattle.dt_map.specs.Alike.{segment, relative, alike, are_alike, are_stacked}

-- entries are alike exactly where they are equal relative to their first ones
abbrev pub AlikeDecides : Type 0
AlikeDecides = (es fs : List Entry) → IsTrue (alike es fs) ↔ (relative es ≡ relative fs)

-- and exactly where the ones are the others, further on or back
abbrev pub AlikeIsShifted : Type 0
AlikeIsShifted = (es fs : List Entry) → IsTrue (alike es fs) ↔ ((x : ℤ) × (es ≡ shift x fs))

-- alikeness is an equivalence
abbrev pub AlikeIsEquivalence : Type 0
AlikeIsEquivalence =
    ((es : List Entry) → IsTrue (alike es es))
    × ((es fs : List Entry) → IsTrue (alike es fs) → IsTrue (alike fs es))
    × ((es fs gs : List Entry) → IsTrue (alike es fs) → IsTrue (alike fs gs) → IsTrue (alike es gs))

-- alikeness doesn't see where entries stand
abbrev pub AlikeOfShifted : Type 0
AlikeOfShifted = (x y : ℤ) (es fs : List Entry) → alike (shift x es) (shift y fs) ≡ alike es fs

-- segments of alike entries at the same places are alike
abbrev pub SegmentsOfAlike : Type 0
SegmentsOfAlike = (es fs : List Entry) (start len : ℕ) → IsTrue (alike es fs) → IsTrue (alike (segment es start len) (segment fs start len))

-- the natural extent doesn't see where entries stand, so it is the same for alike ones
abbrev pub ExtentOfShifted : Type 0
ExtentOfShifted = (x : ℤ) (es : List Entry) → natural_extent (shift x es) ≡ natural_extent es

abbrev pub ExtentOfAlike : Type 0
ExtentOfAlike = (es fs : List Entry) → IsTrue (alike es fs) → natural_extent es ≡ natural_extent fs

-- whether blocks are alike or stacked doesn't hang on where the list stands
abbrev pub BlocksOfShifted : Type 0
BlocksOfShifted =
    (x : ℤ) (m : List Entry) (start len count : ℕ) → (are_alike (shift x m) start len count ≡ are_alike m start len count)
    × (are_stacked (shift x m) start len count ≡ are_stacked m start len count)
