-- Numbers drawn one after another from a word of 64 bits.
use Rattle.std.specs.Prelude.{ℕ, ◌+◌, ◌*◌, ◌/◌, ◌%◌, ◌^◌}

-- something that is worked out from a word by draws, with the word behind them
abbrev pub Drawing : Type 0 → Type 0
Drawing A = ℕ → A × ℕ

infixl 10 ◌>>=◌
abbrev pub ◌>>=◌ : {A B : Type 0} → Drawing A → (A → Drawing B) → Drawing B
(drawing >>= f) word = f (drawing word).0 (drawing word).1

abbrev pub give : {A : Type 0} → A → Drawing A
give x word = (x, word)

-- the word behind a draw
abbrev pub next_word : ℕ → ℕ
next_word word = (word * 6364136223846793005 + 1442695040888963407) % 2 ^ 64

-- a number below m
abbrev pub draw : ℕ → Drawing ℕ
draw m word = ((next_word word / 2 ^ 33) % m, next_word word)
