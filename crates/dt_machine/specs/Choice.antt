-- The weights of a script, and the trees of which one is told.
use Rattle.std.specs.Prelude.{◌≡◌, ℕ, ◌^◌, ℤ, pos, nat_abs, ◌-ℤ◌, ◌≤ℤ◌, ◌<ℤ◌, List, [], Option, Some, None, codes, ◌⊎◌}
use Rattle.dt_map.specs.declared.entry.Entry.{Entry}
use Rattle.dt_map.specs.Alike.{first_disp}
use Rattle.dt_map.specs.Bounds.{true_lb, true_ub, natural_ub}
use Rattle.dt_reply.specs.declared.reply.Reply.{Reply}
use Rattle.dt_reply.specs.declared.reply.Reply.TheVariants.{Least}
use Rattle.dt_spelling.specs.Spelling as spelling
use Rattle.dt_tree.specs.Cost.{cost_of}
use Rattle.dt_tree.specs.Least.{IsLeast}
use Rattle.dt_tree.specs.Tidy.{IsTidy}
use Rattle.dt_tree.specs.Tree.{Tree}
use Rattle.dt_tree.specs.Weights.{Weights, weights_of}

-- a number that may be a weight
abbrev pub IsWeight : ℤ → Type 0
IsWeight x = (pos 0 ≤ℤ x) × (x ≤ℤ pos 1000000)

abbrev pub AreWeights : (leaf vector index place group part : ℤ) → Type 0
AreWeights leaf vector index place group part = IsWeight leaf × IsWeight vector × IsWeight index × IsWeight place × IsWeight group × IsWeight part

-- six such numbers in the order of the words
abbrev pub weights_by : (leaf vector index place group part : ℤ) → Weights
weights_by leaf vector index place group part = weights_of (nat_abs leaf) (nat_abs vector) (nat_abs index) (nat_abs place) (nat_abs group) (nat_abs part)

-- What may be told of some entries, with where it begins: of no entries no tree; else a tidy tree that stands for the entries from the
-- first displacement on, where no tree that does, from whatever base on, costs less.
abbrev pub MayBeTold : Weights → List Entry → ℤ → Option Tree → Type 0
MayBeTold w entries base None = (entries ≡ []) × (base ≡ pos 0)
MayBeTold w entries base (Some tree) = (base ≡ first_disp entries) × IsTidy tree × IsLeast w entries base tree

-- what it costs, and its text
abbrev pub cost_told : Weights → Option Tree → ℕ
cost_told w None = 0
cost_told w (Some tree) = cost_of w tree

abbrev pub text_told : Option Tree → List ℕ
text_told None = codes "empty"
text_told (Some tree) = spelling.text_of tree

abbrev pub tells : Weights → ℤ → Option Tree → Reply
tells w base tree = Least (cost_told w tree) base (text_told tree)

-- entries too far apart, or too far on, for a datatype of their tree: the true extent is above 2^59, or the upper bound that they have without marks is above 2^60
abbrev pub AreTooWide : List Entry → Type 0
AreTooWide entries = (pos (2 ^ 59) <ℤ (true_ub entries -ℤ true_lb entries)) ⊎ (pos (2 ^ 60) <ℤ natural_ub entries)
