-- Where it shows that bytes are no wire text.
use Rattle.std.specs.Prelude.{ℕ, suc, ◌≤◌, ◌<◌, List, ◌++◌, take, length}
use Rattle.dt_form.specs.declared.form.FormOf.{FormOf}
use Rattle.dt_type.specs.declared.datatype.Seen.{Seen}
use Rattle.dt_wire.specs.Wire.{IsWire}

-- the bytes are those of some form
abbrev pub IsText : List ℕ → Type 0
IsText bytes = (form : FormOf Seen) × IsWire bytes form

-- some wire text begins so
pub record IsBegun (bytes : List ℕ) : Type 0 where
  pub rest : List ℕ
  pub form : FormOf Seen
  pub spelled : IsWire (bytes ++ rest) form

-- the bytes are no wire text, and the first byte with which none begins is at this offset; there is none where it is the length
pub record IsBadAt (bytes : List ℕ) (at : ℕ) : Type 0 where
  pub none : (form : FormOf Seen) → ¬ IsWire bytes form
  pub within : at ≤ length bytes
  pub begun : IsBegun (take at bytes)
  pub wrong : at < length bytes → ¬ IsBegun (take (suc at) bytes)
