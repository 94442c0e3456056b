-- Least trees of numbered datatypes, as texts.
use Rattle.std.specs.Prelude.{◌≡◌, ℕ, ◌≤◌, ◌<◌, ℤ, pos, Option, Some, None, List, [], length, codes, Result, MatchResult}
use Rattle.std.specs.Option.{option_map, IsSomeAnd}
use Rattle.dt_map.specs.Alike.{first_disp}
use Rattle.dt_map.specs.declared.entry.Entry.{Entry}
use Rattle.dt_normal.specs.declared.best.Best.{Best}
use Rattle.dt_spelling.specs.Spelling as spelling
use Rattle.dt_tree.specs.Cost.{cost_of}
use Rattle.dt_tree.specs.Least.{IsLeast}
use Rattle.dt_tree.specs.Node.{tree_of}
use Rattle.dt_tree.specs.Tidy.{IsTidy}
use Rattle.dt_tree.specs.Tree.{Tree}
use Rattle.dt_tree.specs.Weights.{Weights, weights_of, AreLight}
use Rattle.dt_type.specs.Datatype.{entries_of}
use Rattle.dt_type.specs.declared.datatype.Seen.{Seen}
use Rattle.dt_space.specs.declared.fault.SpaceFault.{SpaceFault}
use Rattle.dt_space.specs.declared.fault.SpaceFault.TheVariants.{NoSuchType, BadArgument, TooMany, NoRoom, NoMemory}
use Rattle.dt_space.specs.declared.number.TypeNumber.{TypeNumber}
use Rattle.dt_space.specs.Space.{Space, kept_at, type_at}
use Rattle.dt_numbered.specs.declared.least.LeastTree.{LeastTree}
use Rattle.dt_numbered.specs.declared.least.TreeWeights.{TreeWeights}
use Rattle.dt_numbered.specs.Filling.{filled}

abbrev pub weights_by : TreeWeights → Weights
weights_by w = weights_of w.leaf w.vector w.index w.place w.group w.part

-- what may be told of some entries, with where it begins: of no entries no tree; else a tidy tree that stands for the entries from the
-- first displacement on, where no tree that does, from whatever base on, costs less
abbrev pub MayBeTold : Weights → List Entry → ℤ → Option Tree → Type 0
MayBeTold w entries base None = (entries ≡ []) × (base ≡ pos 0)
MayBeTold w entries base (Some tree) = (base ≡ first_disp entries) × IsTidy tree × IsLeast w entries base tree

-- what it costs, and its text
abbrev pub cost_told : Weights → Option Tree → ℕ
cost_told w None = 0
cost_told w (Some tree) = cost_of w tree

abbrev pub text_told : Option Tree → List ℕ
text_told None = codes "empty"
text_told (Some tree) = spelling.text_of tree

-- the tree of a best, where there is one
abbrev pub tree_in : Best → Option Tree
tree_in best = option_map tree_of best.tree

-- why there is no best: more than 1,024 entries, or memory ran out
abbrev pub IsWithout : List Entry → SpaceFault → Type 0
IsWithout entries TooMany = 1024 < length entries
IsWithout entries NoMemory = Unit {0}
IsWithout entries fault = ⊥

-- what is told of a tree that may be told of the entries
pub record IsToldOf (w : Weights) (entries : List Entry) (told : LeastTree) (tree : Option Tree) : Type 0 where
  pub least : MayBeTold w entries told.base tree
  pub costs : told.cost ≡ cost_told w tree
  pub long : told.len ≡ length (text_told tree)

-- its text stands at the front of a list that has room for it
pub record IsLeastTold (w : Weights) (t : Seen) (out out' : List ℕ) (told : LeastTree) : Type 0 where
  pub tree : Option Tree
  pub light : AreLight w
  pub few : length (entries_of t) ≤ 1024
  pub is : IsToldOf w (entries_of t) told tree
  pub fits : told.len ≤ length out
  pub put : out' ≡ filled (text_told tree) out

-- or the list is too short for it
pub record IsLeastShort (w : Weights) (t : Seen) (out : List ℕ) (told : LeastTree) : Type 0 where
  pub tree : Option Tree
  pub light : AreLight w
  pub few : length (entries_of t) ≤ 1024
  pub is : IsToldOf w (entries_of t) told tree
  pub short : length out < told.len

-- why none is told: the number stands for nothing, else a weight is too great, else there are too many entries
abbrev pub IsUntold : Space → TypeNumber → Weights → SpaceFault → Type 0
IsUntold s n w NoSuchType = kept_at s n ≡ None
IsUntold s n w BadArgument = IsSomeAnd (type_at s n) (λ t. ¬ AreLight w)
IsUntold s n w TooMany = IsSomeAnd (type_at s n) (λ t. AreLight w × (1024 < length (entries_of t)))
IsUntold s n w NoMemory = Unit {0}
IsUntold s n w fault = ⊥

-- the list is too short, and what is told is told alone; or nothing is
abbrev pub IsLeastRefusal : Space → TypeNumber → Weights → List ℕ → LeastTree → LeastTree → SpaceFault → Type 0
IsLeastRefusal s n w out told told' NoRoom = IsSomeAnd (type_at s n) (λ t. IsLeastShort w t out told')
IsLeastRefusal s n w out told told' fault = (told' ≡ told) × IsUntold s n w fault

abbrev pub IsLeastAnswer : Space → TypeNumber → TreeWeights → List ℕ → List ℕ → LeastTree → LeastTree → Result (Unit {0}) SpaceFault → Type 0
IsLeastAnswer s n weights out out' told told' answer =
    MatchResult answer
    (λ done. IsSomeAnd (type_at s n) (λ t. IsLeastTold (weights_by weights) t out out' told'))
    (λ fault. (out' ≡ out) × IsLeastRefusal s n (weights_by weights) out told told' fault)
