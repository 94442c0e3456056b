use Rattle.std.specs.Prelude.{◌≡◌, ℕ, ◌≤◌, ◌<◌, ◌≤ℤ◌, ◌-ℤ◌, ℤ, pos, IsTrue, Option, Some, None, List, [], length}
use Rattle.std.specs.List.{All}
use Rattle.dt_map.specs.declared.entry.Entry.{Entry}
use Rattle.dt_map.specs.Limits.{EntryFits}
use Rattle.dt_tree.specs.Cost.{cost_of}
use Rattle.dt_tree.specs.Rule.{FollowsRule}
use Rattle.dt_tree.specs.Tree.{Tree, Denotes}
use Rattle.dt_tree.specs.Weights.{Weights, AreLight}
use Rattle.dt_normal.specs.declared.low.Low.{Low}
use Rattle.dt_normal.specs.Table.{IsValid}
use Rattle.dt_check.specs.Members.{IsMember}
use Rattle.dt_cert.specs.Certificate.{Certificate, Version, BySegments, ByClasses}
use Rattle.dt_cert.specs.Classes.{AreRising, is_first, value_in}
use Rattle.dt_cert.specs.Text.{text_of}

abbrev pub FollowsRuleIfAny : Option Tree → Type 0
FollowsRuleIfAny None = Unit {0}
FollowsRuleIfAny (Some tree) = FollowsRule tree

-- values by classes are those of first segments
abbrev pub AreOfFirsts : Version → List Entry → List Low → Type 0
AreOfFirsts BySegments m values = Unit {0}
AreOfFirsts ByClasses m values = All (λ a. IsTrue (is_first m a)) values

-- the numbers, lists and trees that the text of a certificate may have
pub record IsWritable (c : Certificate) : Type 0 where
  pub light : AreLight c.weights
  pub few : length c.entries ≤ 1024
  pub fit : All EntryFits c.entries
  pub base_low : (pos 0 -ℤ pos 9223372036854775808) ≤ℤ c.base
  pub base_high : c.base ≤ℤ pos 9223372036854775807
  pub rule : FollowsRuleIfAny c.tree
  pub cost : c.cost < 18446744073709551616
  pub members : All (IsMember c.entries) c.values
  pub low : All (λ a. a.low < 18446744073709551616) c.values
  pub rising : AreRising c.values
  pub firsts : AreOfFirsts c.version c.entries c.values

-- a tree stands for entries, and none for no entries
abbrev pub StandsFor : Option Tree → ℤ → List Entry → Type 0
StandsFor None base entries = entries ≡ []
StandsFor (Some tree) base entries = Denotes tree base entries

abbrev pub cost_if_any : Weights → Option Tree → ℕ
cost_if_any w None = 0
cost_if_any w (Some tree) = cost_of w tree

-- the four rules of a certificate that holds
pub record Holds (c : Certificate) : Type 0 where
  pub stands : StandsFor c.tree c.base c.entries
  pub costs : c.cost ≡ cost_if_any c.weights c.tree
  pub valid : IsValid c.weights c.entries (value_in c.version c.entries c.values)
  pub root : c.cost ≤ value_in c.version c.entries c.values 0 (length c.entries)

-- a text shows that the tree of a certificate is least
pub record IsShown (text : List ℕ) (c : Certificate) : Type 0 where
  pub writable : IsWritable c
  pub holds : Holds c
  pub written : text ≡ text_of c
