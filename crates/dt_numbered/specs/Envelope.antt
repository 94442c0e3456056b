-- Envelopes of numbered datatypes (MPI 4.1, section 5.1.13).
use Rattle.std.specs.Prelude.{◌≡◌, ℕ}
use Rattle.std.specs.Option.{IsSomeAnd}
use Rattle.dt_form.specs.Contents.{envelope_of}
use Rattle.dt_form.specs.declared.envelope.Combiner.{Combiner}
use Rattle.dt_form.specs.declared.envelope.Combiner.TheVariants.{Named, Dup, Contiguous, Vector, Hvector, Indexed, Hindexed, IndexedBlock, HindexedBlock, Struct, Subarray, Darray, Resized}
use Rattle.dt_form.specs.declared.envelope.Envelope.{Envelope}
use Rattle.dt_type.specs.Datatype.{form_of}
use Rattle.dt_space.specs.declared.number.TypeNumber.{TypeNumber}
use Rattle.dt_space.specs.Space.{Space, type_at}
use Rattle.dt_numbered.specs.declared.envelopes.TypeEnvelope.{TypeEnvelope}

-- the numbers of the constructors, in the order in which MPI describes them
abbrev pub combiner_number : Combiner → ℕ
combiner_number Named = 0
combiner_number Dup = 1
combiner_number Contiguous = 2
combiner_number Vector = 3
combiner_number Hvector = 4
combiner_number Indexed = 5
combiner_number Hindexed = 6
combiner_number IndexedBlock = 7
combiner_number HindexedBlock = 8
combiner_number Struct = 9
combiner_number Subarray = 10
combiner_number Darray = 11
combiner_number Resized = 12

abbrev pub told : Envelope → TypeEnvelope
told e = record { combiner = combiner_number e.combiner; integers = e.integers; addresses = e.addresses; types = e.types }

-- the envelope of the datatype that the number stands for
abbrev pub IsEnvelope : Space → TypeNumber → TypeEnvelope → Type 0
IsEnvelope s n envelope = IsSomeAnd (type_at s n) (λ t. envelope ≡ told (envelope_of (form_of t)))
