-- The text of a certificate: lines of words, with one space between any two words and a line feed behind each line.
use Rattle.std.specs.Prelude.{ℕ, Option, Some, None, List, [], ◌∷◌, ◌++◌, map, length, codes, decimal}
use Rattle.std.specs.Fmt.{signed_decimal}
use Rattle.std.specs.List.{flat_map, join_with_byte}
use Rattle.dt_kinds.specs.Kind.{name_of}
use Rattle.dt_map.specs.declared.entry.Entry.{Entry}
use Rattle.dt_tree.specs.Tree.{Tree}
use Rattle.dt_tree.specs.Weights.{Weights}
use Rattle.dt_normal.specs.declared.low.Low.{Low}
use Rattle.dt_spelling.specs.Spelling.{Words, words_of, space}
use Rattle.dt_cert.specs.Certificate.{Certificate, Version, BySegments, ByClasses}

abbrev pub line_feed : ℕ
line_feed = 10

abbrev pub text_of_line : Words → List ℕ
text_of_line words = join_with_byte space words ++ line_feed ∷ []

abbrev pub version_line : Version → Words
version_line BySegments = codes "dtcert" ∷ codes "2" ∷ []
version_line ByClasses = codes "dtcert" ∷ codes "3" ∷ []

abbrev pub weights_line : Weights → Words
weights_line w =
    codes "weights" ∷ decimal w.leaf ∷ decimal w.vector ∷ decimal w.index ∷ decimal w.place ∷ decimal w.group ∷ decimal w.part ∷ []

abbrev pub entry_line : Entry → Words
entry_line e = codes "entry" ∷ name_of e.kind ∷ signed_decimal e.disp ∷ []

abbrev pub tree_line : Option Tree → Words
tree_line None = codes "tree" ∷ codes "empty" ∷ []
tree_line (Some tree) = codes "tree" ∷ words_of tree

-- the value of the segment of the entries numbered `from` and on, without `to`
abbrev pub value_line : Version → Low → Words
value_line BySegments a = codes "low" ∷ decimal a.from ∷ decimal a.to ∷ decimal a.low ∷ []
value_line ByClasses a = codes "class" ∷ decimal a.from ∷ decimal a.to ∷ decimal a.low ∷ []

-- the lines up to the tree's, and from there on
abbrev pub map_lines : List Entry → List Words
map_lines entries = (codes "map" ∷ decimal (length entries) ∷ []) ∷ map entry_line entries

abbrev pub lines_of : Certificate → List Words
lines_of c =
    version_line c.version ∷ weights_line c.weights
    ∷ (map_lines c.entries ++ (codes "base" ∷ signed_decimal c.base ∷ []) ∷ tree_line c.tree ∷ (codes "cost" ∷ decimal c.cost ∷ [])
    ∷ (map (value_line c.version) c.values ++ (codes "end" ∷ []) ∷ []))

abbrev pub text_of : Certificate → List ℕ
text_of c = flat_map text_of_line (lines_of c)
