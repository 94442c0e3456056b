-- Pieces of a buffer, each of so many bytes, and what stands for each of them.
use Rattle.std.specs.Prelude.{ℕ, ◌+◌, ◌≤◌, ◌≤ℤ◌, ℤ, pos, nat_abs, List, take, drop, reverse}
use Rattle.std.specs.List.{flat_map}
use Rattle.dt_kinds.specs.declared.kind.Kind.{Kind}
use Rattle.dt_kinds.specs.Kind.{native_size, external_size}
use Rattle.dt_offsets.specs.Offsets.{row_offsets}

-- so many bytes of a buffer, from a place on
abbrev pub bytes_from : List ℕ → ℕ → ℤ → List ℕ
bytes_from buffer width x = take width (drop (nat_abs x) buffer)

-- what stands for the pieces at some places, joined
abbrev pub pieces : (List ℕ → List ℕ) → ℕ → List ℕ → List ℤ → List ℕ
pieces image width buffer places = flat_map (λ x. image (bytes_from buffer width x)) places

-- a piece lies in a buffer of so many bytes
pub record IsPiece (len width : ℕ) (x : ℤ) : Type 0 where
  pub from : pos 0 ≤ℤ x
  pub within : nat_abs x + width ≤ len

-- what stands in external32 for the element at a place, and for adjacent elements from a place on
abbrev pub turned : Kind → List ℕ → ℤ → List ℕ
turned kind buffer x = reverse (bytes_from buffer (external_size kind) x)

abbrev pub turned_row : Kind → ℕ → List ℕ → ℤ → List ℕ
turned_row kind elements buffer x = pieces reverse (external_size kind) buffer (row_offsets x elements (pos (native_size kind)))
