use Rattle.std.proofs.Common.{◌≡◌, ◌++◌, Some, length}
use Rattle.dt_script.specs.Words.{words_of}
use Rattle.dt_script.specs.Reading.{◌>>=◌, items_at}
use Rattle.dt_script.proofs.reading.items.Given as goal

-- what all the words spell: the items so far, and those of the rest
abbrev pub invariant-words : goal.invariant-words
invariant-words g l =
    items_at g.T.Item.item_of (words_of l.line) ≡ (items_at g.T.Item.item_of (words_of l.rest) >>= λ more. Some (l.items ++ more))

abbrev pub decreases-words : goal.decreases-words
decreases-words g l = length (words_of l.rest)
