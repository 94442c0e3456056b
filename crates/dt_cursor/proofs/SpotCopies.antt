-- Copies of spots, counted one spot after another.
use Rattle.std.specs.Prelude.{◌≡◌, Some, ℕ, ◌+◌, ◌-◌, ◌<◌, ◌≤◌, pos, List, [], ◌∷◌, length, take, get_or, slice_get}
use Rattle.std.specs.List.{AllByRecursion}
use Rattle.std.proofs.Common.{sym, ap, subst, ◌∙◌, arith, append-nil, length-append}
use Rattle.std.proofs.lemmas.Grind.{flat_map-append}
use Rattle.std.proofs.lemmas.List.{take_all, take_more}
use Rattle.std.proofs.lemmas.Option.{slice_get_within, slice_get-get_or, get_or_from_slice_get}
use Rattle.dt_cursor.specs.Search.{AreSpots, IsCopyAt}
use Rattle.dt_layout.specs.declared.instr.Instr.{Instr}
use Rattle.dt_layout.specs.declared.instr.Instr.TheVariants as variants
use Rattle.dt_offsets.specs.declared.turns.Spot.{Spot}
use Rattle.dt_offsets.specs.Offsets.{row_offsets, spot_offsets}
use Rattle.dt_offsets.specs.Near.{IsSpot}
use Rattle.dt_offsets.proofs.NearNumbers.{all_at}
use Rattle.dt_offsets.proofs.Reaches.{count-row}

abbrev pub no_spot : Spot
no_spot = record { first = pos 0; copies = 0; step = pos 0 }

module _ (code : List Instr) (first : ℕ) (all : List Spot) (are : AreSpots code first all) (i : ℕ) (within : i < length all) where
  pub spot_read : slice_get code (first + i) ≡ Some (variants.Spot (get_or all i no_spot))
  spot_read = are i (get_or all i no_spot) (slice_get-get_or all i no_spot within)

  pub place_within : first + i < length code
  place_within = slice_get_within code (first + i) (variants.Spot (get_or all i no_spot)) spot_read

  pub spot_is : (s : Instr) → slice_get code (first + i) ≡ Some s → s ≡ variants.Spot (get_or all i no_spot)
  spot_is s got = let both = sym got ∙ spot_read in cc

  pub spot_got : (spot : Spot) → slice_get code (first + i) ≡ Some (variants.Spot spot) → spot ≡ get_or all i no_spot
  spot_got spot got = let both = sym got ∙ spot_read in cc

  pub copy_is : (number left : ℕ) (spot : Spot) → slice_get code (first + i) ≡ Some (variants.Spot spot) → number ≡ length (spot_offsets (take i all)) + left → left < spot.copies
      → IsCopyAt all number (record { number = i; spot = spot; copy = left })
  copy_is number left spot got place less = record {
    spot = slice_get-get_or all i no_spot within ∙ ap Some (sym (spot_got spot got));
    copy = less;
    place = place;
  }

  pub spot_passed : (number left : ℕ) (spot : Spot) → slice_get code (first + i) ≡ Some (variants.Spot spot) → number ≡ length (spot_offsets (take i all)) + left → spot.copies ≤ left
      → number ≡ length (spot_offsets (take (i + 1) all)) + (left - spot.copies)
  spot_passed number left spot got place more =
      let s = get_or all i no_spot in
      let longer : length (spot_offsets (take (i + 1) all)) ≡ length (spot_offsets (take i all)) + spot.copies =
      ap (λ ss. length (spot_offsets ss)) (take_more all i no_spot within)
      ∙ ap length (flat_map-append (λ (z : Spot). row_offsets z.first z.copies z.step) (take i all) (s ∷ []))
      ∙ length-append (spot_offsets (take i all)) (spot_offsets (s ∷ []))
      ∙ ap (λ n. length (spot_offsets (take i all)) + n) (ap length (append-nil (row_offsets s.first s.copies s.step)) ∙ count-row s.first s.step s.copies ∙ ap (λ (z : Spot). z.copies) (sym (spot_got spot got))) in
      omega (arith, longer, place, more)

pub spots_passed : (all : List Spot) (i number left : ℕ) → length all ≤ i → number ≡ length (spot_offsets (take i all)) + left → length (spot_offsets all) ≤ number
spots_passed all i number left end place =
    let same = ap (λ ss. length (spot_offsets ss)) (take_all i all end) in
    omega (arith, same, place)

pub spot_lawful : (spots : List Spot) (n : ℕ) (s : Spot) → AllByRecursion IsSpot spots → slice_get spots n ≡ Some s → IsSpot s
spot_lawful spots n s lawful got =
    subst IsSpot (get_or_from_slice_get spots n s no_spot got) (all_at IsSpot spots n no_spot lawful (slice_get_within spots n s got))
