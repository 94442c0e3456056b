use Rattle.std.specs.Prelude.{◌≡◌, ◌↔◌, List, ◌++◌, ℕ, IsTrue}
use Rattle.dt_tree.specs.Rule.{numbers_fit}
use Rattle.dt_tree.specs.Tree.{Tree}
use Rattle.dt_spelling.specs.Fault.{IsFaultAt}
use Rattle.dt_spelling.specs.Spelling.{Words, IsSpelling, words_of, words_in, text_of}

-- the spelling of a tree is cut into the tree's words again
abbrev pub CutsIntoWords : Type 0
CutsIntoWords = (tree : Tree) → IsTrue (numbers_fit tree) → words_in (text_of tree) ≡ words_of tree

-- the words of one tree begin the words of no other, whatever stands behind them
abbrev pub NoSpellingBeginsAnother : Type 0
NoSpellingBeginsAnother =
    (tree other : Tree) (behind behind_other : Words) → IsTrue (numbers_fit tree) → IsTrue (numbers_fit other)
    → words_of tree ++ behind ≡ words_of other ++ behind_other → (tree ≡ other) × (behind ≡ behind_other)

-- each tree has one spelling, and each spelling is that of one tree
abbrev pub OneSpelling : Type 0
OneSpelling = (text text' : List ℕ) (tree tree' : Tree) → IsSpelling text tree → IsSpelling text' tree' → (text ≡ text') ↔ (tree ≡ tree')

-- the fault of a text that is no spelling shows at one place
abbrev pub OneFault : Type 0
OneFault = (text : List ℕ) (at at' : ℕ) → IsFaultAt text at → IsFaultAt text at' → at ≡ at'
