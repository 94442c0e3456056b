-- What a text shows, or why it shows nothing.
use Rattle.std.specs.Prelude.{◌≡◌, ℕ, List}
use Rattle.dt_cert.specs.declared.judging.Failing.{Failing}
use Rattle.dt_cert.specs.declared.judging.Failing.TheVariants.{WrongMap as BreaksMap, WrongCost as BreaksCost, LowFails as BreaksLow, RootBelow as BreaksRoot}
use Rattle.dt_cert.specs.Certificate.{Certificate}
use Rattle.dt_cert.specs.Judged.{IsBroken}
use Rattle.dt_cert.specs.Laws.{IsLeastIfAny}
use Rattle.dt_cert.specs.Shown.{IsShown}
use Rattle.dt_verdict.specs.declared.read.ReadFault.TheVariants.{Syntax as WrongSyntax}
use Rattle.dt_verdict.specs.declared.verdict.NotShown.{NotShown}
use Rattle.dt_verdict.specs.declared.verdict.NotShown.TheVariants.{Syntax, WrongMap, WrongCost, LowFails, RootBelow, NoMemory}
use Rattle.dt_verdict.specs.Fault.{IsTextOf, IsRefused}

-- a text shows a certificate of this cost, and its tree is least
pub record IsLeastShown (text : List ℕ) (cost : ℕ) : Type 0 where
  pub certificate : Certificate
  pub shown : IsShown text certificate
  pub costs : cost ≡ certificate.cost
  pub least : IsLeastIfAny certificate.weights certificate.entries certificate.base certificate.tree

-- it is that of a certificate that breaks a rule, and this is the first one
pub record Breaks (text : List ℕ) (failing : Failing) : Type 0 where
  pub certificate : Certificate
  pub written : IsTextOf text certificate
  pub broken : IsBroken certificate failing

-- the first reason, in this order; want of memory tells nothing
abbrev pub IsNotShown : List ℕ → NotShown → Type 0
IsNotShown text (Syntax line) = IsRefused text (WrongSyntax line)
IsNotShown text (WrongMap at) = Breaks text (BreaksMap at)
IsNotShown text (WrongCost stated found) = Breaks text (BreaksCost stated found)
IsNotShown text (LowFails start end) = Breaks text (BreaksLow start end)
IsNotShown text (RootBelow low cost) = Breaks text (BreaksRoot low cost)
IsNotShown text NoMemory = Unit {0}
