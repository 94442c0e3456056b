use Rattle.std.specs.Prelude.{◌≡◌, ℕ, List, length}
use Rattle.dt_kinds.specs.declared.kind.Kind.{Kind}
use Rattle.dt_kinds.specs.declared.kind.Rep.{Rep}
use Rattle.dt_kinds.specs.Bytes.{AreBytes}
use Rattle.dt_kinds.specs.Image.{image, restore}
use Rattle.dt_kinds.specs.Kind.{native_size, external_size, packed_size}
use Rattle.dt_image.specs.Number.{FitsExternal}

-- the sizes of an image and of what it stands for
abbrev pub ImagesHaveTheirSize : Type 0
ImagesHaveTheirSize = (rep : Rep) (kind : Kind) (bytes : List ℕ)
    → (length bytes ≡ native_size kind → length (image rep kind bytes) ≡ packed_size rep kind)
    × (length bytes ≡ packed_size rep kind → length (restore rep kind bytes) ≡ native_size kind)

-- an element whose number fits comes back
abbrev pub FittingNumbersComeBack : Type 0
FittingNumbersComeBack = (rep : Rep) (kind : Kind) (bytes : List ℕ) → length bytes ≡ native_size kind → AreBytes bytes → FitsExternal kind bytes
    → restore rep kind (image rep kind bytes) ≡ bytes

-- an element of a kind with one size comes back
abbrev pub EqualSizesComeBack : Type 0
EqualSizesComeBack = (rep : Rep) (kind : Kind) (bytes : List ℕ) → length bytes ≡ native_size kind → external_size kind ≡ native_size kind
    → restore rep kind (image rep kind bytes) ≡ bytes

-- an image is the image of what it stands for
abbrev pub RestoredHasItsImage : Type 0
RestoredHasItsImage = (rep : Rep) (kind : Kind) (packed : List ℕ) → length packed ≡ packed_size rep kind
    → image rep kind (restore rep kind packed) ≡ packed
