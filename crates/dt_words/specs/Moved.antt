-- What `migrate` writes for a text.
use Rattle.std.specs.Prelude.{◌≡◌, ◌≢◌, ℕ, Bool, true, false, List}
use Rattle.dt_verdict.specs.declared.verdict.NotShown.{NotShown}
use Rattle.dt_verdict.specs.declared.verdict.NotShown.TheVariants.{NoMemory}
use Rattle.dt_verdict.specs.Migrated.{IsMigrated, IsNotMigrated}
use Rattle.dt_words.specs.Checked.{text_of_reason}

-- a certificate of version 3, or why there is none
abbrev pub IsMoved : List ℕ → List ℕ → Bool → Type 0
IsMoved input text true = IsMigrated input text
IsMoved input text false = (reason : NotShown) × (reason ≢ NoMemory) × IsNotMigrated input reason × (text ≡ text_of_reason reason)
