-- The text of trees.
use Rattle.std.specs.Prelude.{◌≡◌, ℕ, ◌==◌, List, [], ◌∷◌, ◌++◌, map, length, codes, decimal}
use Rattle.std.specs.Fmt.{signed_decimal}
use Rattle.std.specs.List.{join_with_byte, slice_split}
use Rattle.dt_kinds.specs.Kind.{name_of}
use Rattle.dt_tree.specs.Rule.{FollowsRule, part_count}
use Rattle.dt_tree.specs.Tree.{Tree, leaf, vector, index, group, Parts, no_parts, part}

abbrev pub Word : Type 0
Word = List ℕ

abbrev pub Words : Type 0
Words = List Word

-- The words that spell a tree. Each node's stand before those of the nodes below it, and say how many of these follow. Numbers are decimal
-- without leading zeros; a `-` stands only before a number that isn't 0.
abbrev mutual
  pub words_of : Tree → Words
  words_of (leaf kind) = codes "leaf" ∷ name_of kind ∷ []
  words_of (vector count block stride child) = codes "vector" ∷ decimal count ∷ decimal block ∷ signed_decimal stride ∷ words_of child
  words_of (index block places child) = codes "index" ∷ decimal (length places) ∷ decimal block ∷ (map signed_decimal places ++ words_of child)
  words_of (group parts) = codes "struct" ∷ decimal (part_count parts) ∷ words_of_parts parts

  pub words_of_parts : Parts → Words
  words_of_parts no_parts = []
  words_of_parts (part block disp child rest) = decimal block ∷ signed_decimal disp ∷ (words_of child ++ words_of_parts rest)

abbrev pub space : ℕ
space = 32

-- the words of a text: it is cut at every space, so that a word may be empty
abbrev pub words_in : List ℕ → Words
words_in text = slice_split (λ b. b == space) text

-- one space between any two words, none before or after
abbrev pub text_of : Tree → List ℕ
text_of tree = join_with_byte space (words_of tree)

-- a text spells a tree that follows the rule of programs' trees
abbrev pub IsSpelling : List ℕ → Tree → Type 0
IsSpelling text tree = FollowsRule tree × (text ≡ text_of tree)

-- a word and the space behind it
abbrev pub ended : Word → List ℕ
ended word = word ++ codes " "
