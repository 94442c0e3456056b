-- What stands for pieces, stored in a buffer.
use Rattle.std.specs.Prelude.{◌≡◌, ℕ, ◌*◌, ℤ, nat_abs, List, [], ◌∷◌, take, drop}
use Rattle.dt_kinds.specs.declared.kind.Kind.{Kind}
use Rattle.dt_kinds.specs.declared.kind.Rep.{Rep}
use Rattle.dt_kinds.specs.Kind.{packed_size}
use Rattle.dt_map.specs.Setting.{written, set_each}
use Rattle.dt_rows.specs.declared.rows.Run.{Run}
use Rattle.dt_rows.specs.Rows.{adjacent}

-- a buffer after something was put at each of some places, one after another, by so many bytes of a list a place
abbrev pub each_put : (ℤ → List ℕ → List ℕ → List ℕ) → ℕ → List ℤ → List ℕ → List ℕ → List ℕ
each_put put width [] buffer images = buffer
each_put put width (x ∷ places) buffer images = each_put put width places (put x buffer images) (drop width images)

-- at each place stands what the next bytes stand for
abbrev pub stored : (List ℕ → List ℕ) → ℕ → List ℤ → List ℕ → List ℕ → List ℕ
stored restored width places buffer images = each_put (λ x b bytes. written b (nat_abs x) (restored (take width bytes))) width places buffer images

-- at each place stand adjacent elements, set by the next images
abbrev pub set_rows : Rep → Kind → ℕ → List ℤ → List ℕ → List ℕ → List ℕ
set_rows rep kind elements places buffer images = each_put (λ x b bytes. set_each rep (adjacent kind elements x) b bytes) (elements * packed_size rep kind) places buffer images

-- the bytes of a run are all those of its elements
abbrev pub IsWhole : Rep → Run → Type 0
IsWhole rep run = (run.skip ≡ 0) × (run.bytes ≡ run.elements * packed_size rep run.kind)
