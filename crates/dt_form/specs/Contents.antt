-- The contents of a form (MPI 4.1, section 5.1.13): its constructor, and the arguments in three lists.
use Rattle.std.specs.Prelude.{ℤ, pos, negsuc, Option, Some, None, List, [], ◌∷◌, ◌++◌, map, length, slice_get}
use Rattle.dt_form.specs.declared.contents.ContentsOf.{ContentsOf}
use Rattle.dt_form.specs.declared.envelope.Combiner.{Combiner}
use Rattle.dt_form.specs.declared.envelope.Combiner.TheVariants as combiner
use Rattle.dt_form.specs.declared.envelope.Envelope.{Envelope}
use Rattle.dt_form.specs.declared.form.Dist.{Dist}
use Rattle.dt_form.specs.declared.form.Dist.TheVariants.{Block, Cyclic, Whole}
use Rattle.dt_form.specs.declared.form.FormOf.{FormOf}
use Rattle.dt_form.specs.declared.form.FormOf.TheVariants.{Named, Dup, Contiguous, Vector, Hvector, Indexed, Hindexed, IndexedBlock, HindexedBlock, Struct, Subarray, Darray, Resized}
use Rattle.dt_form.specs.declared.form.Order.{Order}
use Rattle.dt_form.specs.declared.form.Order.TheVariants.{C, Fortran}
use Rattle.dt_form.specs.Form.{olds_of}

-- the numbers that stand for an order, a distribution, and a darg that may be left to its default
abbrev pub order_number : Order → ℤ
order_number C = pos 0
order_number Fortran = pos 1

abbrev pub dist_number : Dist → ℤ
dist_number Block = pos 1
dist_number Cyclic = pos 2
dist_number Whole = pos 3

abbrev pub darg_number : Option ℤ → ℤ
darg_number (Some darg) = darg
darg_number None = negsuc 0

-- how many blocks, displacements, parts or dimensions are listed
abbrev pub number_of : {A : Type 0} → List A → ℤ
number_of xs = pos (length xs)

abbrev pub integers_of : {T : Type 0} → FormOf T → List ℤ
integers_of (Named kind) = []
integers_of (Dup old) = []
integers_of (Contiguous count old) = count ∷ []
integers_of (Vector count block stride old) = count ∷ block ∷ stride ∷ []
integers_of (Hvector count block stride old) = count ∷ block ∷ []
integers_of (Indexed blocks old) = number_of blocks ∷ map (λ b. b.len) blocks ++ map (λ b. b.disp) blocks
integers_of (Hindexed blocks old) = number_of blocks ∷ map (λ b. b.len) blocks
integers_of (IndexedBlock block disps old) = number_of disps ∷ block ∷ disps
integers_of (HindexedBlock block disps old) = number_of disps ∷ block ∷ []
integers_of (Struct parts) = number_of parts ∷ map (λ p. p.len) parts
integers_of (Subarray dims order old) =
    number_of dims ∷ map (λ d. d.size) dims ++ map (λ d. d.sub) dims ++ map (λ d. d.start) dims ++ order_number order ∷ []
integers_of (Darray size rank dims order old) =
    size ∷ rank ∷ number_of dims ∷ map (λ d. d.gsize) dims
    ++ map (λ d. dist_number d.dist) dims
    ++ map (λ d. darg_number d.darg) dims
    ++ map (λ d. d.psize) dims
    ++ order_number order ∷ []
integers_of (Resized lb extent old) = []

abbrev pub addresses_of : {T : Type 0} → FormOf T → List ℤ
addresses_of (Hvector count block stride old) = stride ∷ []
addresses_of (Hindexed blocks old) = map (λ b. b.disp) blocks
addresses_of (HindexedBlock block disps old) = disps
addresses_of (Struct parts) = map (λ p. p.disp) parts
addresses_of (Resized lb extent old) = lb ∷ extent ∷ []
addresses_of _ = []

-- the types are the old types, in their order
abbrev pub contents_of : {T : Type 0} → FormOf T → ContentsOf T
contents_of f = record { integers = integers_of f; addresses = addresses_of f; types = olds_of f }

abbrev pub combiner_of : {T : Type 0} → FormOf T → Combiner
combiner_of (Named kind) = combiner.Named
combiner_of (Dup old) = combiner.Dup
combiner_of (Contiguous count old) = combiner.Contiguous
combiner_of (Vector count block stride old) = combiner.Vector
combiner_of (Hvector count block stride old) = combiner.Hvector
combiner_of (Indexed blocks old) = combiner.Indexed
combiner_of (Hindexed blocks old) = combiner.Hindexed
combiner_of (IndexedBlock block disps old) = combiner.IndexedBlock
combiner_of (HindexedBlock block disps old) = combiner.HindexedBlock
combiner_of (Struct parts) = combiner.Struct
combiner_of (Subarray dims order old) = combiner.Subarray
combiner_of (Darray size rank dims order old) = combiner.Darray
combiner_of (Resized lb extent old) = combiner.Resized

-- an envelope tells the constructor and how long the three lists are
abbrev pub envelope_of : {T : Type 0} → FormOf T → Envelope
envelope_of f = record {
  combiner = combiner_of f;
  integers = length (integers_of f);
  addresses = length (addresses_of f);
  types = length (olds_of f);
}

-- old type k of a list, from 0 on
abbrev pub old_at : {T : Type 0} → List T → ℤ → Option T
old_at olds (pos k) = slice_get olds k
old_at olds (negsuc k) = None
