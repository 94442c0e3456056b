use Rattle.std.specs.Prelude.{ℕ, nat_abs, List, take, drop}
use Rattle.std.specs.List.{flat_map, sum_by}
use Rattle.dt_kinds.specs.declared.kind.Rep.{Rep}
use Rattle.dt_kinds.specs.Kind.{native_size, packed_size}
use Rattle.dt_kinds.specs.Image.{image}
use Rattle.dt_map.specs.declared.entry.Entry.{Entry}

-- the bytes of an element that lies inside a buffer
abbrev pub bytes_at : List ℕ → Entry → List ℕ
bytes_at buffer e = take (native_size e.kind) (drop (nat_abs e.disp) buffer)

-- the packed bytes of elements (MPI 4.1, section 5.2): the images of their bytes, joined in the order of the elements
abbrev pub packed : Rep → List Entry → List ℕ → List ℕ
packed rep es buffer = flat_map (λ e. image rep e.kind (bytes_at buffer e)) es

-- how many packed bytes elements have
abbrev pub total : Rep → List Entry → ℕ
total rep es = sum_by (λ e. packed_size rep e.kind) es
