-- What `check` writes for a text.
use Rattle.std.specs.Prelude.{◌≡◌, ◌≢◌, ℕ, Bool, true, false, List, [], ◌∷◌, ◌++◌, flat_map, codes, decimal}
use Rattle.dt_verdict.specs.declared.verdict.NotShown.{NotShown}
use Rattle.dt_verdict.specs.declared.verdict.NotShown.TheVariants.{Syntax, WrongMap, WrongCost, LowFails, RootBelow, NoMemory}
use Rattle.dt_verdict.specs.Verdict.{IsLeastShown, IsNotShown}

-- a number behind a space
abbrev pub spaced_number : ℕ → List ℕ
spaced_number n = codes " " ++ decimal n

-- the line of some words and the numbers behind them
abbrev pub line_with : List ℕ → List ℕ → List ℕ
line_with words numbers = words ++ flat_map spaced_number numbers ++ codes "\n"

abbrev pub text_of_cost : ℕ → List ℕ
text_of_cost cost = line_with (codes "least") (cost ∷ [])

abbrev pub text_of_reason : NotShown → List ℕ
text_of_reason (Syntax line) = line_with (codes "not shown syntax") (line ∷ [])
text_of_reason (WrongMap at) = line_with (codes "not shown map") (at ∷ [])
text_of_reason (WrongCost stated found) = line_with (codes "not shown cost") (stated ∷ found ∷ [])
text_of_reason (LowFails from to) = line_with (codes "not shown low") (from ∷ to ∷ [])
text_of_reason (RootBelow low cost) = line_with (codes "not shown root") (low ∷ cost ∷ [])
text_of_reason NoMemory = []

-- the least cost that the text shows, or the first reason why it shows none
abbrev pub IsChecked : List ℕ → List ℕ → Bool → Type 0
IsChecked input text true = (cost : ℕ) × IsLeastShown input cost × (text ≡ text_of_cost cost)
IsChecked input text false = (reason : NotShown) × (reason ≢ NoMemory) × IsNotShown input reason × (text ≡ text_of_reason reason)
