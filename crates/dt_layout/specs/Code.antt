use Rattle.std.specs.Prelude.{ℕ, ◌+◌, ◌-◌, ◌^◌, min, List}
use Rattle.dt_layout.specs.declared.instr.Instr.{Instr}

-- a count of reads after one more: it stands still at the greatest number of 64 bits
abbrev pub once_more : ℕ → ℕ
once_more reads = min (reads + 1) (2 ^ 64 - 1)

-- a program with a count of the reads of its instructions
pub record Counted : Type 0 where
  pub code : List Instr
  pub reads : ℕ
