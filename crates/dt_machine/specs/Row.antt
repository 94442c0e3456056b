-- Conditions of refusals in a row, by rising number.
use Rattle.std.specs.Prelude.{ℕ, ◌==◌, cond, nat_lt, Bool, true, ◌&&◌, List, [], ◌∷◌}
use Rattle.dt_reply.specs.declared.refusal.Refusal.{Refusal}
use Rattle.dt_reply.specs.Refusal.{number_of}

abbrev pub Row : Type 1
Row = List (Refusal × Type 0)

-- a refusal, and what it says
infix 80 ◌when◌
abbrev pub ◌when◌ : Refusal → Type 0 → Refusal × Type 0
refusal when A = (refusal, A)

-- the condition of a refusal, where it stands in the row; no other holds
abbrev pub condition : Row → Refusal → Type 0
condition [] refusal = ⊥
condition (entry ∷ row) refusal = cond (number_of entry.0 == number_of refusal) entry.1 (condition row refusal)

-- the condition of a refusal is the first of the row that holds
abbrev pub IsFirst : Row → Refusal → Type 0
IsFirst [] refusal = ⊥
IsFirst (entry ∷ row) refusal = cond (number_of entry.0 == number_of refusal) entry.1 ((¬ entry.1) × IsFirst row refusal)

-- no condition of the row holds
abbrev pub IsClear : Row → Type 0
IsClear [] = Unit {0}
IsClear (entry ∷ row) = (¬ entry.1) × IsClear row

-- the numbers rise from above n on
abbrev pub is_rising : ℕ → Row → Bool
is_rising n [] = true
is_rising n (entry ∷ row) = nat_lt n (number_of entry.0) && is_rising (number_of entry.0) row
