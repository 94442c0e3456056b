-- What two words of a kind are joined to, by each operation.
use Rattle.std.specs.Prelude.{ℕ, ◌+◌, ◌*◌, ◌%◌, cond, int_le, bit_and, bit_or, bit_xor}
use Rattle.dt_kinds.specs.declared.kind.Kind.{Kind}
use Rattle.dt_ops.specs.Word.{range_of, value_of}

-- MPI_SUM and MPI_PROD (MPI 4.1, section 6.9.2), modulo the range of the kind
abbrev pub sum_of : Kind → ℕ → ℕ → ℕ
sum_of kind a b = (a + b) % range_of kind

abbrev pub prod_of : Kind → ℕ → ℕ → ℕ
prod_of kind a b = (a * b) % range_of kind

-- MPI_MIN and MPI_MAX, by what the words stand for
abbrev pub min_of : Kind → ℕ → ℕ → ℕ
min_of kind a b = cond (int_le (value_of kind a) (value_of kind b)) a b

abbrev pub max_of : Kind → ℕ → ℕ → ℕ
max_of kind a b = cond (int_le (value_of kind a) (value_of kind b)) b a

-- MPI_BAND, MPI_BOR and MPI_BXOR, bit by bit
abbrev pub and_of : Kind → ℕ → ℕ → ℕ
and_of kind a b = bit_and a b

abbrev pub or_of : Kind → ℕ → ℕ → ℕ
or_of kind a b = bit_or a b

abbrev pub xor_of : Kind → ℕ → ℕ → ℕ
xor_of kind a b = bit_xor a b

-- the first and the last word, whatever the other one is
abbrev pub first_of : Kind → ℕ → ℕ → ℕ
first_of kind a b = a

abbrev pub last_of : Kind → ℕ → ℕ → ℕ
last_of kind a b = b
