-- Datatypes made of what is read from bytes.
use Rattle.std.specs.Borrow.{Bor}
use Rattle.std.specs.List.{AllByRecursion, flat_map}
use Rattle.std.specs.Prelude.{◌⊎◌, IsErr, Ok, Err, slice_get, ◌≡◌, ℕ, List, Result}
use Rattle.dt_form.specs.declared.envelope.Combiner.{Combiner}
use Rattle.dt_form.specs.declared.envelope.Combiner.TheVariants as tag
use Rattle.dt_form.specs.declared.form.FormOf.{FormOf}
use Rattle.dt_form.specs.declared.form.FormOf.TheVariants as form
use Rattle.dt_form.specs.declared.form.PartOf.{PartOf}
use Rattle.dt_type.specs.Datatype.{form_of}
use Rattle.dt_type.specs.Form.{result_of}
use Rattle.dt_type.specs.declared.datatype.Seen.{Seen}
use Rattle.dt_type.specs.declared.fault.CtorFault.{CtorFault}
use Rattle.dt_type.specs.declared.fault.CtorFault.TheVariants.{NoMemory}
use Rattle.dt_wire.specs.declared.args.Arguments.{Arguments}
use Rattle.dt_wire.specs.declared.args.Arguments.TheVariants.{Dup, Contiguous, Vector, Hvector, Indexed, Hindexed, IndexedBlock, HindexedBlock, Subarray, Darray, Resized}
use Rattle.dt_wire.specs.declared.stop.Stop.{Stop}
use Rattle.dt_wire.specs.declared.stop.Stop.TheVariants.{Bad, Refused}
use Rattle.dt_wire.specs.Import.{IsFirstCause, IsTaken, calls}
use Rattle.dt_wire.specs.Reading.{Bytes, Reader, item_at, map_at, pair_at, int_at, address_at, counted_at, int_block_at, addr_block_at, sub_dim_at, dist_dim_at, form_at, orders, on_ok}

-- a form, by the arguments of its constructor and its old type
abbrev pub with_old : Arguments → Seen → FormOf Seen
with_old Dup old = form.Dup old
with_old (Contiguous count) old = form.Contiguous count old
with_old (Vector count block stride) old = form.Vector count block stride old
with_old (Hvector count block stride) old = form.Hvector count block stride old
with_old (Indexed blocks) old = form.Indexed blocks old
with_old (Hindexed blocks) old = form.Hindexed blocks old
with_old (IndexedBlock block disps) old = form.IndexedBlock block disps old
with_old (HindexedBlock block disps) old = form.HindexedBlock block disps old
with_old (Subarray dims order) old = form.Subarray dims order old
with_old (Darray size rank dims order) old = form.Darray size rank dims order old
with_old (Resized lb extent) old = form.Resized lb extent old

-- the arguments in front of an old type
abbrev pub arguments_at : Combiner → Reader Arguments
arguments_at tag.Named bytes = Err bytes
arguments_at tag.Dup bytes = Ok (Dup, bytes)
arguments_at tag.Contiguous bytes = map_at (λ count. Contiguous count) int_at bytes
arguments_at tag.Vector bytes = map_at (λ x. Vector x.0 x.1.0 x.1.1) (pair_at int_at (pair_at int_at int_at)) bytes
arguments_at tag.Hvector bytes = map_at (λ x. Hvector x.0 x.1.0 x.1.1) (pair_at int_at (pair_at int_at address_at)) bytes
arguments_at tag.Indexed bytes = map_at (λ blocks. Indexed blocks) (counted_at int_block_at) bytes
arguments_at tag.Hindexed bytes = map_at (λ blocks. Hindexed blocks) (counted_at addr_block_at) bytes
arguments_at tag.IndexedBlock bytes = map_at (λ x. IndexedBlock x.0 x.1) (pair_at int_at (counted_at int_at)) bytes
arguments_at tag.HindexedBlock bytes = map_at (λ x. HindexedBlock x.0 x.1) (pair_at int_at (counted_at address_at)) bytes
arguments_at tag.Struct bytes = Err bytes
arguments_at tag.Subarray bytes = map_at (λ x. Subarray x.1 x.0) (pair_at (item_at (slice_get orders)) (counted_at sub_dim_at)) bytes
arguments_at tag.Darray bytes =
    map_at (λ x. Darray x.0 x.1.0 x.1.1.1 x.1.1.0) (pair_at int_at (pair_at int_at (pair_at (item_at (slice_get orders)) (counted_at dist_dim_at)))) bytes
arguments_at tag.Resized bytes = map_at (λ x. Resized x.0 x.1) (pair_at address_at address_at) bytes

-- a form is read as the arguments of its constructor, and then its old type
abbrev pub in_two : Reader Arguments → Reader Seen → Reader (FormOf Seen)
in_two args old bytes = on_ok (args bytes) (λ a. map_at (with_old a) old)

-- a datatype of so many levels at most, by its form
abbrev pub type_at : ℕ → Reader Seen
type_at levels = map_at result_of (form_at levels)

-- the constructors in a datatype, and in the parts of a struct
abbrev pub calls_of : ℕ → Seen → List (FormOf Seen)
calls_of levels t = calls levels (form_of t)

abbrev pub calls_in : ℕ → PartOf Seen → List (FormOf Seen)
calls_in levels p = calls_of levels p.old

abbrev pub calls_among : ℕ → List (PartOf Seen) → List (FormOf Seen)
calls_among levels parts = flat_map (calls_in levels) parts

-- what is read, where no constructor in it refuses
pub record IsReadAs {A : Type 0} (within : A → List (FormOf Seen)) (read : Result (A × Bytes) Bytes) (x : A) (rest : Bytes) : Type 0 where
  pub is : read ≡ Ok (x, rest)
  pub taken : AllByRecursion IsTaken (within x)

-- the fault of the first one that refuses; memory may run out before all is read
abbrev pub IsFirstIn : {A : Type 0} → (A → List (FormOf Seen)) → Result (A × Bytes) Bytes → CtorFault → Type 0
IsFirstIn {A} within read fault = (fault ≡ NoMemory) ⊎ ((x : A) (rest : Bytes) → read ≡ Ok (x, rest) → IsFirstCause (within x) fault)

-- the answer of a reader that calls constructors
abbrev pub IsBuilt : {A : Type 0} → (A → List (FormOf Seen)) → Result (A × Bytes) Bytes → Result (A × Bor Bytes) Stop → Type 0
IsBuilt within read (Ok x) = IsReadAs within read x.0 x.1.now
IsBuilt within read (Err Bad) = IsErr read
IsBuilt within read (Err (Refused fault)) = IsFirstIn within read fault
