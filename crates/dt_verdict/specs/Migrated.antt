-- What a text of any version becomes in version 3, or why it becomes nothing.
use Rattle.std.specs.Prelude.{◌≡◌, ◌⊎◌, ℕ, List}
use Rattle.dt_cert.specs.Certificate.{Certificate, BySegments, ByClasses}
use Rattle.dt_cert.specs.Shown.{IsShown}
use Rattle.dt_verdict.specs.declared.verdict.NotShown.{NotShown}
use Rattle.dt_verdict.specs.declared.verdict.NotShown.TheVariants.{Syntax, NoMemory}
use Rattle.dt_verdict.specs.Classed.{values_by_classes}
use Rattle.dt_verdict.specs.Old.{IsOld, IsOldOf, IsOldRefused}
use Rattle.dt_verdict.specs.Verdict.{IsNotShown}

-- a certificate of single segments made one of classes: each class has the greatest value of its segments, where that is above 0
abbrev pub by_classes : Certificate → Certificate
by_classes c = record {
  version = ByClasses;
  weights = c.weights;
  entries = c.entries;
  base = c.base;
  tree = c.tree;
  cost = c.cost;
  values = values_by_classes c.entries c.values;
}

-- from version 1: some certificate that is shown, with the same weights and entries
pub record IsFromFirst (text now : List ℕ) : Type 0 where
  pub certificate : Certificate
  pub shown : IsShown now certificate
  pub version : certificate.version ≡ ByClasses
  pub old : IsOldOf text certificate.weights certificate.entries

-- from version 2: what the text shows, shown by classes
pub record IsFromSecond (text now : List ℕ) : Type 0 where
  pub certificate : Certificate
  pub shown : IsShown text certificate
  pub version : certificate.version ≡ BySegments
  pub now_shown : IsShown now (by_classes certificate)

-- from version 3: the text itself, where it shows a certificate
pub record IsFromThird (text now : List ℕ) : Type 0 where
  pub certificate : Certificate
  pub shown : IsShown text certificate
  pub version : certificate.version ≡ ByClasses
  pub same : now ≡ text

abbrev pub IsMigrated : List ℕ → List ℕ → Type 0
IsMigrated text now = IsFromFirst text now ⊎ IsFromSecond text now ⊎ IsFromThird text now

-- why a text of version 1 becomes nothing: its first wrong line; want of memory tells nothing
abbrev pub IsOldFault : List ℕ → NotShown → Type 0
IsOldFault text (Syntax line) = IsOldRefused text line
IsOldFault text NoMemory = Unit {0}
IsOldFault text _ = ⊥

-- why a text becomes nothing: of version 1 that, else the reason why it shows nothing
abbrev pub IsNotMigrated : List ℕ → NotShown → Type 0
IsNotMigrated text fault = (IsOld text → IsOldFault text fault) × (¬ IsOld text → IsNotShown text fault)
