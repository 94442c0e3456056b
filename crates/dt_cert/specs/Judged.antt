-- Why a certificate that was read doesn't hold.
use Rattle.std.specs.Prelude.{◌≡◌, ◌≢◌, ◌⊎◌, ℕ, ◌-◌, ◌≤◌, ◌<◌, ℤ, Option, Some, None, List, [], length, slice_index_or}
use Rattle.dt_map.specs.declared.entry.Entry.{Entry}
use Rattle.dt_map.specs.Typemap.{shift}
use Rattle.dt_tree.specs.Tree.{Tree, flat}
use Rattle.dt_normal.specs.Table.{IsValid}
use Rattle.dt_check.specs.Failing.{IsFirstFailing}
use Rattle.dt_cert.specs.declared.judging.Failing.{Failing}
use Rattle.dt_cert.specs.declared.judging.Failing.TheVariants.{WrongMap, WrongCost, LowFails, RootBelow, NoMemory}
use Rattle.dt_cert.specs.Certificate.{Certificate}
use Rattle.dt_cert.specs.Classes.{value_in}
use Rattle.dt_cert.specs.Shown.{StandsFor, cost_if_any}

-- what a tree places from a base on; nothing without a tree
abbrev pub placed : Option Tree → ℤ → List Entry
placed None base = []
placed (Some tree) base = shift base (flat tree)

-- the first number where two lists differ or one of them ends
pub record IsFirstDifference (es fs : List Entry) (at : ℕ) : Type 0 where
  pub inside : at ≤ length es
  pub other_inside : at ≤ length fs
  pub before : (k : ℕ) (d : Entry) → k < at → slice_index_or es k d ≡ slice_index_or fs k d
  pub here :
      ((at ≡ length es) × (at < length fs)) ⊎ ((at < length es) × (at ≡ length fs))
      ⊎ ((at < length es) × (at < length fs) × ((d : Entry) → slice_index_or es at d ≢ slice_index_or fs at d))

-- the first of the four rules that a certificate breaks
abbrev pub IsBroken : Certificate → Failing → Type 0
IsBroken c (WrongMap at) = IsFirstDifference (placed c.tree c.base) c.entries at
IsBroken c (WrongCost stated found) = StandsFor c.tree c.base c.entries × (stated ≡ c.cost) × (found ≡ cost_if_any c.weights c.tree) × (stated ≢ found)
IsBroken c (LowFails start end) =
    StandsFor c.tree c.base c.entries × (c.cost ≡ cost_if_any c.weights c.tree)
    × IsFirstFailing c.weights c.entries (value_in c.version c.entries c.values) start (end - start)
IsBroken c (RootBelow low cost) =
    StandsFor c.tree c.base c.entries × (c.cost ≡ cost_if_any c.weights c.tree) × IsValid c.weights c.entries (value_in c.version c.entries c.values)
    × (low ≡ value_in c.version c.entries c.values 0 (length c.entries)) × (cost ≡ c.cost) × (low < cost)
IsBroken c NoMemory = Unit {0}
