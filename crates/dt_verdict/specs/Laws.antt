use Rattle.std.specs.Prelude.{◌≡◌, ◌≢◌, ℕ, List}
use Rattle.dt_cert.specs.Certificate.{Certificate}
use Rattle.dt_cert.specs.Shown.{IsShown}
use Rattle.dt_verdict.specs.declared.verdict.NotShown.{NotShown}
use Rattle.dt_verdict.specs.declared.verdict.NotShown.TheVariants.{NoMemory}
use Rattle.dt_verdict.specs.Fault.{IsTextOf, IsWrongLine}
use Rattle.dt_verdict.specs.Migrated.{IsMigrated, IsNotMigrated}
use Rattle.dt_verdict.specs.Verdict.{IsNotShown}

-- a text is that of one certificate at most
abbrev pub OneCertificate : Type 0
OneCertificate = (text : List ℕ) (c d : Certificate) → IsTextOf text c → IsTextOf text d → c ≡ d

-- one line at most is the first wrong one
abbrev pub OneWrongLine : Type 0
OneWrongLine = (text : List ℕ) (line other : ℕ) → IsWrongLine text line → IsWrongLine text other → line ≡ other

-- there is one reason at most
abbrev pub OneReason : Type 0
OneReason = (text : List ℕ) (reason other : NotShown) → reason ≢ NoMemory → other ≢ NoMemory → IsNotShown text reason → IsNotShown text other → reason ≡ other

-- a text for which there is a reason shows no certificate
abbrev pub NothingShown : Type 0
NothingShown = (text : List ℕ) (reason : NotShown) → reason ≢ NoMemory → IsNotShown text reason → (c : Certificate) → ¬ IsShown text c

-- what a text becomes shows a certificate by classes, and stays as it is
abbrev pub MigratedStays : Type 0
MigratedStays = (text now : List ℕ) → IsMigrated text now → IsMigrated now now

-- a text that becomes something has no reason why it becomes nothing
abbrev pub MigratedOrNot : Type 0
MigratedOrNot = (text now : List ℕ) (reason : NotShown) → reason ≢ NoMemory → IsMigrated text now → IsNotMigrated text reason → ⊥

-- and there is one such reason at most
abbrev pub OneFault : Type 0
OneFault = (text : List ℕ) (reason other : NotShown) → reason ≢ NoMemory → other ≢ NoMemory → IsNotMigrated text reason → IsNotMigrated text other → reason ≡ other
