-- Bytes passed over: what a reader leaves, whatever it reads.
use Rattle.std.specs.Borrow.{Bor}
use Rattle.std.specs.Prelude.{◌≡◌, ℕ, zero, suc, ◌&&◌, nat_le, if◌then◌else◌, [], ◌∷◌, Result, Ok, Err}
use Rattle.dt_form.specs.declared.envelope.Combiner.{Combiner}
use Rattle.dt_form.specs.declared.envelope.Combiner.TheVariants as tag
use Rattle.dt_wire.specs.Reading.{Bytes, item_at, byte_in, number_at}

abbrev pub Skip : Type 0
Skip = Bytes → Result Bytes Bytes

abbrev pub erased : {A : Type 0} → Result (A × Bytes) Bytes → Result Bytes Bytes
erased (Ok x) = Ok x.1
erased (Err left) = Err left

-- what stands behind what was passed over
abbrev pub over : Result Bytes Bytes → Skip → Result Bytes Bytes
over (Ok rest) f = f rest
over (Err left) f = Err left

-- the same, so many times
abbrev pub times : Skip → ℕ → Skip
times f zero bytes = Ok bytes
times f (suc n) bytes = over (f bytes) (times f n)

-- a byte from least to most; any byte; so many bytes
abbrev pub skip_within : ℕ → ℕ → Skip
skip_within least most [] = Err []
skip_within least most (b ∷ bytes) = if nat_le least b && nat_le b most then Ok bytes else Err (b ∷ bytes)

abbrev pub skip_byte : Skip
skip_byte bytes = erased (item_at byte_in bytes)

unfoldable pub skip : ℕ → Skip
skip n = times skip_byte n

-- a list behind its length
abbrev pub skip_items : Skip → Result (ℕ × Bytes) Bytes → Result Bytes Bytes
skip_items f (Ok x) = times f x.0 x.1
skip_items f (Err left) = Err left

unfoldable pub skip_list : Skip → Skip
skip_list f bytes = skip_items f (number_at bytes)

-- dimensions of an array
unfoldable pub skip_dist_dim : Skip
skip_dist_dim bytes = over (skip 4 bytes) (λ rest. over (skip_within 1 3 rest) (skip 8))

unfoldable pub skip_sub_dims : Skip
skip_sub_dims bytes = over (skip_within 0 1 bytes) (skip_list (skip 12))

unfoldable pub skip_dist_dims : Skip
skip_dist_dims bytes = over (skip 8 bytes) (λ rest. over (skip_within 0 1 rest) (skip_list skip_dist_dim))

-- a block length and a list of displacements of one size
unfoldable pub skip_disps : ℕ → Skip
skip_disps size bytes = over (skip 4 bytes) (skip_list (skip size))

-- the arguments in front of an old type, or of none
abbrev pub skip_arguments : Combiner → Skip
skip_arguments tag.Named bytes = skip_within 0 22 bytes
skip_arguments tag.Dup bytes = Ok bytes
skip_arguments tag.Contiguous bytes = skip 4 bytes
skip_arguments tag.Vector bytes = skip 12 bytes
skip_arguments tag.Hvector bytes = skip 16 bytes
skip_arguments tag.Indexed bytes = skip_list (skip 8) bytes
skip_arguments tag.Hindexed bytes = skip_list (skip 12) bytes
skip_arguments tag.IndexedBlock bytes = skip_disps 4 bytes
skip_arguments tag.HindexedBlock bytes = skip_disps 8 bytes
skip_arguments tag.Struct bytes = Ok bytes
skip_arguments tag.Subarray bytes = skip_sub_dims bytes
skip_arguments tag.Darray bytes = skip_dist_dims bytes
skip_arguments tag.Resized bytes = skip 16 bytes

-- the parts of a struct, by what is passed over for an old type; none where no level is left for them
unfoldable pub skip_part : Skip → Skip
skip_part old bytes = over (skip 12 bytes) old

unfoldable pub skip_zeros : Skip
skip_zeros = times (skip_within 0 0) 4

unfoldable pub skip_parts : ℕ → Skip → Skip
skip_parts zero old bytes = skip_zeros bytes
skip_parts (suc levels) old bytes = skip_list (skip_part old) bytes

-- the bytes behind a tag
abbrev pub skip_layer : ℕ → Skip → Combiner → Skip
skip_layer levels old tag.Named bytes = skip_arguments tag.Named bytes
skip_layer levels old tag.Struct bytes = skip_parts levels old bytes
skip_layer levels old c bytes = over (skip_arguments c bytes) old

-- the four bytes before a form
unfoldable pub skip_magic : Skip
skip_magic bytes = over (skip_within 100 100 bytes) (λ t. over (skip_within 116 116 t) (λ w. over (skip_within 119 119 w) (skip_within 49 49)))

-- what a function of the program left, and what it read as well
abbrev pub Leaves : Result (Bor Bytes) (Bor Bytes) → Result Bytes Bytes → Type 0
Leaves (Ok rest) read = read ≡ Ok rest.now
Leaves (Err left) read = read ≡ Err left.now

abbrev pub Gives : {A : Type 0} → Result (A × Bor Bytes) (Bor Bytes) → Result (A × Bytes) Bytes → Type 0
Gives (Ok x) read = read ≡ Ok (x.0, x.1.now)
Gives (Err left) read = read ≡ Err left.now
