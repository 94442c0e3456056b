use Rattle.std.specs.Prelude.{ℕ, ◌^◌, ◌/◌, ◌<◌, nat_le, ◌&&◌, cond, ℤ, pos, ◌-ℤ◌}
use Rattle.dt_kinds.specs.declared.kind.Kind.{Kind}
use Rattle.dt_kinds.specs.Kind.{native_size, is_signed}

-- how many numbers an element of a kind can be, by its bytes in memory
abbrev pub range_of : Kind → ℕ
range_of kind = 256 ^ native_size kind

-- a number is a word of a kind: the bytes of an element can be it
abbrev pub IsWord : Kind → ℕ → Type 0
IsWord kind x = x < range_of kind

-- what a word of a kind stands for: the two's complement where the kind has a sign, and else the plain number
abbrev pub value_of : Kind → ℕ → ℤ
value_of kind x = cond (is_signed kind && nat_le (range_of kind / 2) x) (pos x -ℤ pos (range_of kind)) (pos x)
