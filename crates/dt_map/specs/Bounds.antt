use Rattle.std.specs.Prelude.{Option, Some, None, ℕ, ◌+ℤ◌, ◌-ℤ◌, ℤ, pos, nat_abs, max, List, [], ◌∷◌, map, unwrap_or, length}
use Rattle.std.specs.List.{sum_by}
use Rattle.dt_kinds.specs.Kind.{native_size, external_size}
use Rattle.dt_map.specs.declared.entry.Entry.{Entry}
use Rattle.dt_offsets.specs.declared.marks.Marks.{Marks}
use Rattle.dt_map.specs.declared.bounds.Bounds.{Bounds}
use Rattle.dt_map.specs.Numbers.{least, greatest, padding}
use Rattle.dt_map.specs.Typemap.{Marked}

-- where an entry ends
abbrev pub end_of : Entry → ℤ
end_of e = e.disp +ℤ pos (native_size e.kind)

-- the bytes of all entries in memory, and in external32
abbrev pub size_of : List Entry → ℕ
size_of entries = sum_by (λ e. native_size e.kind) entries

abbrev pub external_size_of : List Entry → ℕ
external_size_of entries = sum_by (λ e. external_size e.kind) entries

-- the greatest alignment among the entries, 1 without entries (this project's profile)
abbrev pub alignment : List Entry → ℕ
alignment [] = 1
alignment (e ∷ entries) = max (native_size e.kind) (alignment entries)

-- the true bounds (MPI 4.1, section 5.1.8): the least displacement and the greatest end; 0 without entries is
-- this project's profile
abbrev pub true_lb : List Entry → ℤ
true_lb entries = unwrap_or (least (map (λ e. e.disp) entries)) (pos 0)

abbrev pub true_ub : List Entry → ℤ
true_ub entries = unwrap_or (greatest (map end_of entries)) (pos 0)

-- an upper bound that makes the extent a multiple of the alignment (MPI 4.1, section 5.1): the true one, and no more than that needs
abbrev pub natural_end : ℤ → ℤ → ℕ → ℤ
natural_end low high align = high +ℤ pos (padding (nat_abs (high -ℤ low)) align)

-- the upper bound that the entries have without marks (law `natural_is_least`)
abbrev pub natural_ub : List Entry → ℤ
natural_ub entries = natural_end (true_lb entries) (true_ub entries) (alignment entries)

-- the bounds: the marks where there are marks (MPI 4.1, section 5.1.6)
abbrev pub lower_from : Option Marks → List Entry → ℤ
lower_from None entries = true_lb entries
lower_from (Some marks) entries = marks.lb

abbrev pub upper_from : Option Marks → List Entry → ℤ
upper_from None entries = natural_ub entries
upper_from (Some marks) entries = marks.ub

abbrev pub lower : Marked → ℤ
lower m = lower_from m.marks m.entries

abbrev pub upper : Marked → ℤ
upper m = upper_from m.marks m.entries

-- from the lower to the upper bound, negative where the upper one is less
abbrev pub extent_of : Marked → ℤ
extent_of m = upper m -ℤ lower m

-- all eight numbers of a marked typemap
abbrev pub bounds_of : Marked → Bounds
bounds_of m = record {
  size = size_of m.entries;
  ext_size = external_size_of m.entries;
  elements = length m.entries;
  align = alignment m.entries;
  true_lb = true_lb m.entries;
  true_ub = true_ub m.entries;
  lb = lower m;
  ub = upper m;
}
