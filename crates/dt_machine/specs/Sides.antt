-- Operations over several buffers, by name: what stands of them, and what is said of it.
use Rattle.std.specs.List.{list_any}
use Rattle.std.specs.Option.{IsSomeAnd, option_and_then, option_map}
use Rattle.std.specs.Prelude.{◌≡◌, ℕ, ◌<◌, ℤ, nat_abs, false, List, [], ◌∷◌, Option, Some, length, slice_get, ◌||◌, Bool, is_none}
use Rattle.dt_copy.specs.Copied.{signature}
use Rattle.dt_copy.specs.Plan.{Copy, copy_of}
use Rattle.dt_names.specs.declared.kept.Kept.{Kept}
use Rattle.dt_reduce.specs.Plan.{Reduction, reduction_of}
use Rattle.dt_type.specs.Datatype.{typemap_of}
use Rattle.dt_machine.specs.State.{State, type_of, buffer_of, is_unknown}

-- one side: so many copies of a type, from an origin of a buffer on
pub record Side : Type 0 where
  pub count : ℤ
  pub ty : List ℕ
  pub buffer : List ℕ
  pub origin : ℤ

abbrev pub side : ℤ → List ℕ → List ℕ → ℤ → Side
side count ty buffer origin = record { count = count; ty = ty; buffer = buffer; origin = origin }

-- the type or the buffer is unknown
abbrev pub is_side_unknown : State → Side → Bool
is_side_unknown s x = is_unknown s x.ty || is_none (buffer_of s x.buffer)

-- a type that stands and isn't committed
abbrev pub IsNotCommitted : State → List ℕ → Type 0
IsNotCommitted s ty = IsSomeAnd (type_of s ty) (λ kept. kept.committed ≡ false)

-- the types and the buffers of both sides stand, and this holds of them
abbrev pub OfBoth : State → Side → Side → (Kept → Kept → List ℕ → List ℕ → Type 0) → Type 0
OfBoth s source target P =
    IsSomeAnd (type_of s source.ty) (λ from. IsSomeAnd (type_of s target.ty) (λ onto.
    IsSomeAnd (buffer_of s source.buffer) (λ old. IsSomeAnd (buffer_of s target.buffer) (λ held. P from onto old held))))

-- the copy of one side to the other
abbrev pub copy_between : Side → Side → Kept → Kept → List ℕ → List ℕ → Copy
copy_between source target from onto old held =
    copy_of (typemap_of from.ty) (nat_abs source.count) source.origin (length old) (typemap_of onto.ty) (nat_abs target.count) target.origin (length held)

abbrev pub OfCopy : State → Side → Side → (Copy → Type 0) → Type 0
OfCopy s source target P = OfBoth s source target (λ from onto old held. P (copy_between source target from onto old held))

-- at some place of the source's elements the two kinds differ
abbrev pub Differ : Copy → Type 0
Differ c = (at : ℕ) × (at < length c.source) × (¬ (slice_get (signature c.source) at ≡ slice_get (signature c.target) at))

-- the reduction of the elements of one side by those of the other, which has the same type and the same count
abbrev pub reduction_between : Side → Side → Kept → List ℕ → List ℕ → Reduction
reduction_between source target kept old held =
    reduction_of (typemap_of kept.ty) (nat_abs target.count) source.origin (length old) target.origin (length held)

abbrev pub OfReduction : State → Side → Side → (Reduction → Type 0) → Type 0
OfReduction s source target P =
    IsSomeAnd (type_of s target.ty) (λ kept. IsSomeAnd (buffer_of s source.buffer) (λ old. IsSomeAnd (buffer_of s target.buffer) (λ held.
    P (reduction_between source target kept old held))))

-- some buffer of these names doesn't stand
abbrev pub is_some_lost : State → List (List ℕ) → Bool
is_some_lost s names = list_any (λ name. is_none (buffer_of s name)) names

-- the bytes of the buffers of these names; none where one doesn't stand
abbrev pub buffers_of : State → List (List ℕ) → Option (List (List ℕ))
buffers_of s [] = Some []
buffers_of s (name ∷ names) = option_and_then (λ bytes. option_map (λ more. bytes ∷ more) (buffers_of s names)) (buffer_of s name)
