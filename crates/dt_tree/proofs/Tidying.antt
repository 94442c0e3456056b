-- where a tidy tree begins
use Rattle.std.proofs.Common.{◌≡◌, ℕ, ◌<◌, ℤ, pos, ◌+ℤ◌, ◌*ℤ◌, List, [], ◌∷◌, ◌++◌, length, get_or, refl, ◌∙◌, arith}
use Rattle.std.proofs.lemmas.Int.{ints}
use Rattle.dt_map.specs.declared.entry.Entry.{Entry}
use Rattle.dt_map.specs.Alike.{first_disp}
use Rattle.dt_map.specs.Runs.{natural_extent, placed_at, even, run}
use Rattle.dt_map.specs.Typemap.{shift}
use Rattle.dt_map.proofs.Seats.{get_or-even, length-even}
use Rattle.dt_tree.specs.Laws.{TidyBeginsAtZero}
use Rattle.dt_tree.specs.Tidy.{first_place}
use Rattle.dt_tree.specs.Tree.{leaf, vector, index, group, no_parts, part, flat, flat_parts}
use Rattle.dt_tree.proofs.Subtrees.{places_an_entry, run-pos}

first_shifted : (x : ℤ) (es rest : List Entry) → 0 < length es → first_disp (shift x es ++ rest) ≡ first_disp es +ℤ x
first_shifted x [] rest some = absurd (omega arith)
first_shifted x (e ∷ es) rest some = refl

first_placed : (places : List ℤ) (es : List Entry) → 0 < length places → 0 < length es → first_disp (placed_at places es) ≡ first_disp es +ℤ first_place places
first_placed [] es some any = absurd (omega arith)
first_placed (x ∷ places) es some any = first_shifted x es (placed_at places es) any

first_is : (places : List ℤ) → first_place places ≡ get_or places 0 (pos 0)
first_is [] = refl
first_is (x ∷ places) = refl

first_even : (count : ℕ) (step : ℤ) → 0 < count → first_place (even count step) ≡ pos 0
first_even count step some = first_is (even count step) ∙ get_or-even count step 0 some ∙ none step
  where
    none : (step : ℤ) → pos 0 *ℤ step ≡ pos 0
    none step = omega (arith, ints)

first_run : (block : ℕ) (es : List Entry) → 0 < block → 0 < length es → first_disp es ≡ pos 0 → first_disp (run block es) ≡ pos 0
first_run block es some any zero =
    let places = first_placed (even block (natural_extent es)) es (omega (arith, length-even block (natural_extent es))) any in
    let first = first_even block (natural_extent es) some in
    omega (arith, ints, places, first, zero)

placed_zero : (places : List ℤ) (block : ℕ) (es : List Entry) → 0 < length places → 0 < block → 0 < length es → first_place places ≡ pos 0 → first_disp es ≡ pos 0
    → first_disp (placed_at places (run block es)) ≡ pos 0
placed_zero places block es some blocks any first zero =
    let placed = first_placed places (run block es) some (run-pos block es blocks any) in
    let inner = first_run block es blocks any zero in
    omega (arith, ints, placed, inner, first)

pub tidy_begins_at_zero : TidyBeginsAtZero
tidy_begins_at_zero (leaf kind) is tidy = refl
tidy_begins_at_zero (vector count block stride child) is tidy =
    placed_zero (even count stride) block (flat child) (omega (arith, length-even count stride, is.0)) is.1 (places_an_entry child is.2) (first_even count stride is.0)
    (tidy_begins_at_zero child is.2 tidy.2)
tidy_begins_at_zero (index block places child) is tidy =
    placed_zero places block (flat child) is.1 is.0 (places_an_entry child is.2) tidy.1 (tidy_begins_at_zero child is.2 tidy.2)
tidy_begins_at_zero (group no_parts) is tidy = absurd is.0
tidy_begins_at_zero (group (part block disp child rest)) is tidy =
    let any = places_an_entry child is.1.1 in
    let first = first_shifted disp (run block (flat child)) (flat_parts rest) (run-pos block (flat child) is.1.0 any) in
    let inner = first_run block (flat child) is.1.0 any (tidy_begins_at_zero child is.1.1 tidy.2.1) in
    omega (arith, ints, first, inner, tidy.1)
