use Rattle.std.specs.Prelude.{◌≡◌, ℕ, ℤ, ◌-ℤ◌, pos, List, get_or}
use Rattle.dt_kinds.specs.declared.kind.Kind.TheVariants.{Byte}
use Rattle.dt_map.specs.declared.entry.Entry.{Entry}

-- an entry of a list; beyond its end a byte at 0
abbrev pub entry_at : List Entry → ℕ → Entry
entry_at m i = get_or m i (record { kind = Byte; disp = pos 0 })

-- how far apart two entries begin
abbrev pub step_between : List Entry → ℕ → ℕ → ℤ
step_between m from to = (entry_at m to).disp -ℤ (entry_at m from).disp

-- two entries begin as far apart as another two
abbrev pub IsOneStep : List Entry → ℕ × ℕ → ℕ × ℕ → Type 0
IsOneStep m one other = step_between m one.0 one.1 ≡ step_between m other.0 other.1
