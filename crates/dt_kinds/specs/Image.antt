use Rattle.std.specs.Prelude.{ℕ, ◌-◌, ◌&&◌, cond, nat_le, List, ◌++◌, take, reverse, replicate, length, get_or}
use Rattle.dt_kinds.specs.declared.kind.Kind.{Kind}
use Rattle.dt_kinds.specs.declared.kind.Rep.{Rep}
use Rattle.dt_kinds.specs.declared.kind.Rep.TheVariants.{Native, External32}
use Rattle.dt_kinds.specs.Kind.{native_size, external_size, is_signed}

-- what stands for an element's bytes in a representation: the bytes themselves, or in external32 (MPI 4.1, section 14.5.2)
-- as many of the least significant ones as the external size has, the most significant first
abbrev pub image : Rep → Kind → List ℕ → List ℕ
image Native kind bytes = bytes
image External32 kind bytes = reverse (take (external_size kind) bytes)

-- the byte that fills an external32 image up to the native size: all ones where the kind has a sign and the first bit is 1
abbrev pub filler : Kind → List ℕ → ℕ
filler kind packed = cond (is_signed kind && nat_le 128 (get_or packed 0 0)) 255 0

-- the bytes of an element that an image stands for (the filling is this project's profile)
abbrev pub restore : Rep → Kind → List ℕ → List ℕ
restore Native kind packed = packed
restore External32 kind packed = reverse packed ++ replicate (native_size kind - length packed) (filler kind packed)
