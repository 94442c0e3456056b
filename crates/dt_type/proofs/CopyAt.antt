-- Where an entry of copies lies.
use Rattle.std.specs.Prelude.{◌≡◌, ℕ, ◌*◌, ◌/◌, ◌%◌, ◌<◌, ℤ, pos, List, length, get_or, slice_get}
use Rattle.std.specs.Option.{option_map}
use Rattle.std.proofs.Common.{ap, ◌∙◌, arith}
use Rattle.std.proofs.Math.Nat.{div-lt_iff_lt-mul, mul-div_cancel}
use Rattle.dt_map.specs.Constructors.{copies_at}
use Rattle.dt_map.specs.Typemap.{Marked, shift_entry}
use Rattle.dt_map.proofs.Digests.{length-copies}
use Rattle.dt_offsets.proofs.GridAt.{pos_right}
use Rattle.dt_type.proofs.Lookups.{copy_at}

module _ (xs : List ℤ) (m : Marked) (k : ℕ) (inside : k < length (copies_at xs m).entries) where
  abbrev each : ℕ
  each = length m.entries

  total : length (copies_at xs m).entries ≡ length xs * each
  total = length-copies xs m

  pub each_some : 0 < each
  each_some = let e = total in pos_right (length xs) each (omega arith)

  pub copies : length (copies_at xs m).entries / each ≡ length xs
  copies = ap (λ n. n / each) total ∙ mul-div_cancel (length xs) each_some

  pub copy_within : k / each < length xs
  copy_within = let e = total in (div-lt_iff_lt-mul each_some).1 (omega arith)

  pub entry_of_copy : slice_get (copies_at xs m).entries k ≡ option_map (shift_entry (get_or xs (k / each) (pos 0))) (slice_get m.entries (k % each))
  entry_of_copy = let e = total in copy_at xs m k (pos 0) (omega arith)
