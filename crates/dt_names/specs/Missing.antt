-- Why a type word stands for nothing.
use Rattle.std.specs.Prelude.{ℕ, List, IsTrue}
use Rattle.dt_kinds.specs.Name.{is_left_out}
use Rattle.dt_reply.specs.declared.refusal.Refusal.TheVariants.{UnknownName, UnsupportedKind}
use Rattle.dt_names.specs.declared.kept.Kept.{Kept}
use Rattle.dt_names.specs.declared.stop.Stop.{Stop}
use Rattle.dt_names.specs.declared.stop.Stop.TheVariants.{Refused, NoMemory}
use Rattle.dt_names.specs.Names.{is_unknown_in}

-- it is unknown, or left out; want of memory is tied to nothing
abbrev pub IsMissing : List (List ℕ × Kept) → List ℕ → Stop → Type 0
IsMissing types word (Refused UnknownName) = IsTrue (is_unknown_in types word)
IsMissing types word (Refused UnsupportedKind) = IsTrue (is_left_out word)
IsMissing types word NoMemory = Unit {0}
IsMissing types word stop = ⊥
