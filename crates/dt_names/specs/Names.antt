-- What the names and type words of a script stand for.
use Rattle.std.specs.Prelude.{ℕ, ◌%◌, nat_abs, Bool, true, false, ◌||◌, ◌&&◌, not, if◌then◌else◌, is_some, is_none, List, map, length, replicate, Option}
use Rattle.std.specs.BTreeMap.{is_at}
use Rattle.std.specs.Cmp.Lexicographic.{slice_cmp}
use Rattle.std.specs.List.{sum_by}
use Rattle.std.specs.Map.{lookup}
use Rattle.std.specs.Option.{option_map, option_map_or}
use Rattle.std.specs.Ordering.{nat_cmp}
use Rattle.std.specs.Result.{result_ok}
use Rattle.dt_kinds.specs.declared.kind.Kind.{Kind}
use Rattle.dt_kinds.specs.Name.{kind_of, is_left_out}
use Rattle.dt_offsets.specs.Offsets.{below}
use Rattle.dt_script.specs.declared.command.Fill.{Fill}
use Rattle.dt_script.specs.declared.command.Fill.TheVariants.{Zero, Count, Hex}
use Rattle.dt_script.specs.Name.{begins_with_mpi}
use Rattle.dt_type.specs.Basic.{is_basic}
use Rattle.dt_form.specs.declared.form.FormOf.TheVariants.{Named}
use Rattle.dt_type.specs.Form.{result_of}
use Rattle.dt_names.specs.declared.kept.Kept.{Kept}

-- what stands under a name
abbrev pub under : {A : Type 0} → List ℕ → List (List ℕ × A) → Option A
under name entries = lookup (is_at (slice_cmp nat_cmp name)) entries

-- a basic type is committed (MPI 4.1, section 5.1.9)
abbrev pub basic : Kind → Kept
basic kind = record { ty = result_of (Named kind); committed = true }

-- what a type word stands for: a basic type where it begins as the names of MPI do, else the type of that name
abbrev pub type_in : List (List ℕ × Kept) → List ℕ → Option Kept
type_in types word = if begins_with_mpi word then option_map basic (result_ok (kind_of word)) else under word types

-- whether a type word stands for a basic type
abbrev pub is_basic_in : List (List ℕ × Kept) → List ℕ → Bool
is_basic_in types word = option_map_or (λ kept. is_basic kept.ty) (type_in types word) false

-- whether a type word stands for a type that is committed
abbrev pub is_committed_in : List (List ℕ × Kept) → List ℕ → Bool
is_committed_in types word = option_map_or (λ kept. kept.committed) (type_in types word) false

-- a type word that stands for nothing, and isn't the name of a datatype that is left out
abbrev pub is_unknown_in : List (List ℕ × Kept) → List ℕ → Bool
is_unknown_in types word = is_none (type_in types word) && not (is_left_out word)

-- a name that no new type may have: it stands, or begins as those of MPI do
abbrev pub is_taken_in : List (List ℕ × Kept) → List ℕ → Bool
is_taken_in types name = begins_with_mpi name || is_some (under name types)

-- the bytes of all buffers together
abbrev pub bytes_in : List (List ℕ × List ℕ) → ℕ
bytes_in buffers = sum_by (λ entry. length entry.1) buffers

-- what a new buffer holds: zeros, or at byte i the number i mod 256, or these bytes
abbrev pub bytes_of : Fill → List ℕ
bytes_of (Zero len) = replicate (nat_abs len) 0
bytes_of (Count len) = map (λ i. i % 256) (below (nat_abs len))
bytes_of (Hex bytes) = bytes
