use Rattle.std.specs.Prelude.{Option, Some, None, ℕ, zero, suc, ◌%◌, ◌/◌, ◌==◌, cond}
use Rattle.std.specs.List.{flat_map}
use Rattle.dt_kinds.specs.declared.kind.Rep.{Rep}
use Rattle.dt_offsets.specs.Offsets.{below}
use Rattle.dt_map.specs.Typemap.{Marked}
use Rattle.dt_map.specs.Packed.{total}
use Rattle.dt_map.specs.Setting.{done}

-- the elements among received bytes (MPI 4.1, section 5.1.11): leading elements of the signature, repeated as often as may be
-- needed. None for a type without entries, and none for a last element that is cut (this project's profile)
abbrev pub received_elements : Rep → Marked → ℕ → ℕ
received_elements rep m bytes = done rep (flat_map (λ i. m.entries) (below (suc bytes))) bytes

-- how many copies of so many bytes make up the received bytes exactly; for copies of no bytes, none for no bytes
abbrev pub whole_copies : ℕ → ℕ → Option ℕ
whole_copies zero zero = Some 0
whole_copies zero (suc bytes) = None
whole_copies (suc one) bytes = cond (bytes % suc one == 0) (Some (bytes / suc one)) None

-- the copies among received bytes (MPI_Get_count of MPI 4.1, section 3.2.5), undefined where they aren't whole
abbrev pub received_copies : Rep → Marked → ℕ → Option ℕ
received_copies rep m bytes = whole_copies (total rep m.entries) bytes
