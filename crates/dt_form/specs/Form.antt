use Rattle.std.specs.Prelude.{ℕ, Bool, true, false, List, [], ◌∷◌, map, length}
use Rattle.dt_form.specs.declared.form.FormOf.{FormOf}
use Rattle.dt_form.specs.declared.form.FormOf.TheVariants.{Named, Dup, Contiguous, Vector, Hvector, Indexed, Hindexed, IndexedBlock, HindexedBlock, Struct, Subarray, Darray, Resized}

-- What a form is made of, whatever its old types are.

-- whether it is a kind, which no constructor makes
abbrev pub is_named : {T : Type 0} → FormOf T → Bool
is_named (Named kind) = true
is_named _ = false

-- the old types, in the order of the arguments
abbrev pub olds_of : {T : Type 0} → FormOf T → List T
olds_of (Named kind) = []
olds_of (Dup old) = old ∷ []
olds_of (Contiguous count old) = old ∷ []
olds_of (Vector count block stride old) = old ∷ []
olds_of (Hvector count block stride old) = old ∷ []
olds_of (Indexed blocks old) = old ∷ []
olds_of (Hindexed blocks old) = old ∷ []
olds_of (IndexedBlock block disps old) = old ∷ []
olds_of (HindexedBlock block disps old) = old ∷ []
olds_of (Struct parts) = map (λ p. p.old) parts
olds_of (Subarray dims order old) = old ∷ []
olds_of (Darray size rank dims order old) = old ∷ []
olds_of (Resized lb extent old) = old ∷ []

-- how many blocks, displacements, parts or dimensions the arguments list
abbrev pub items_of : {T : Type 0} → FormOf T → ℕ
items_of (Named kind) = 0
items_of (Dup old) = 0
items_of (Contiguous count old) = 1
items_of (Vector count block stride old) = 1
items_of (Hvector count block stride old) = 1
items_of (Indexed blocks old) = length blocks
items_of (Hindexed blocks old) = length blocks
items_of (IndexedBlock block disps old) = length disps
items_of (HindexedBlock block disps old) = length disps
items_of (Struct parts) = length parts
items_of (Subarray dims order old) = length dims
items_of (Darray size rank dims order old) = length dims
items_of (Resized lb extent old) = 0

-- the levels that a constructor puts above its old types: an array has one for each dimension
abbrev pub levels_of : {T : Type 0} → FormOf T → ℕ
levels_of (Subarray dims order old) = length dims
levels_of (Darray size rank dims order old) = length dims
levels_of _ = 1
