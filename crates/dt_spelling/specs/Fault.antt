-- Why a text is no spelling of a tree, and where that shows.
use Rattle.std.specs.Prelude.{◌≡◌, ◌≢◌, ◌⊎◌, ℕ, ◌+◌, ◌≤◌, List, [], ◌∷◌, ◌++◌, length, IsTrue}
use Rattle.dt_tree.specs.Rule.{FollowsRule, numbers_fit, depth_of, words_of as size_of}
use Rattle.dt_tree.specs.Tree.{Tree}
use Rattle.dt_spelling.specs.declared.fault.TreeFault.{TreeFault}
use Rattle.dt_spelling.specs.declared.fault.TreeFault.TheVariants.{Syntax, NoMemory}
use Rattle.dt_spelling.specs.Spelling.{Word, Words, words_of, words_in, text_of, IsSpelling}

-- the rule of programs' trees without its bound on the true bounds of what nodes place, which no single word breaks
pub record IsLoose (tree : Tree) : Type 0 where
  pub numbers : IsTrue (numbers_fit tree)
  pub shallow : depth_of tree ≤ 64
  pub small : size_of tree ≤ 131072

-- the words of some such tree begin so
pub record IsBegun (words : Words) : Type 0 where
  pub tree : Tree
  pub behind : Words
  pub loose : IsLoose tree
  pub spelled : words_of tree ≡ words ++ behind

-- the offset of a word behind others
abbrev pub offset_behind : Words → ℕ
offset_behind [] = 0
offset_behind (word ∷ words) = length word + 1 + offset_behind words

-- at this offset stands the first word with which, behind those before it, no such tree's words begin
pub record HasWrongWord (text : List ℕ) (at : ℕ) : Type 0 where
  pub before : Words
  pub word : Word
  pub after : Words
  pub whole : words_in text ≡ before ++ word ∷ after
  pub begun : IsBegun before
  pub wrong : ¬ IsBegun (before ++ word ∷ [])
  pub place : at ≡ offset_behind before

-- no word is wrong, but the words are those of no such tree
pub record LacksWords (text : List ℕ) : Type 0 where
  pub begun : IsBegun (words_in text)
  pub none : (tree : Tree) → IsLoose tree → text ≢ text_of tree

-- the text is that of such a tree, and the bound on true bounds alone is broken
pub record ReachesTooFar (text : List ℕ) : Type 0 where
  pub tree : Tree
  pub loose : IsLoose tree
  pub spelled : text ≡ text_of tree
  pub far : ¬ FollowsRule tree

-- where the fault of a text shows: at the first wrong word, and at the end where there is none
abbrev pub IsFaultAt : List ℕ → ℕ → Type 0
IsFaultAt text at = HasWrongWord text at ⊎ ((at ≡ length text) × (LacksWords text ⊎ ReachesTooFar text))

-- a text is no spelling of any tree, and this is where that shows; want of memory tells nothing
abbrev pub IsRefused : List ℕ → TreeFault → Type 0
IsRefused text (Syntax at) = ((tree : Tree) → ¬ IsSpelling text tree) × IsFaultAt text at
IsRefused text NoMemory = Unit {0}
