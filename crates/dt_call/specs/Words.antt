-- The words of the command line, and what they ask for.
use Rattle.std.specs.Prelude.{◌≡◌, ℕ, ◌<◌, ◌^◌, Bool, true, false, IsTrue, List, [], ◌∷◌, Option, Some, None, codes, decimal, bytes_eq, if◌then◌else◌}
use Rattle.std.specs.Option.{option_map, option_map_or}
use Rattle.dt_script.specs.Name.{is_name, name_of}
use Rattle.dt_verdict.specs.Number.{natural_in}
use Rattle.dt_call.specs.declared.words.Asked.{Asked}
use Rattle.dt_call.specs.declared.words.Asked.TheVariants.{Run, Certify, Check, Migrate, Gen}

-- the words of each form
abbrev pub words_for : Asked → List (List ℕ)
words_for Run = codes "run" ∷ []
words_for (Certify name) = codes "certify" ∷ name ∷ []
words_for Check = codes "check" ∷ []
words_for Migrate = codes "migrate" ∷ []
words_for (Gen n) = codes "gen" ∷ decimal n ∷ []

-- a name is spelled as a script's names are, and a number has 32 bits
abbrev pub IsSpelled : Asked → Type 0
IsSpelled Run = Unit {0}
IsSpelled (Certify name) = IsTrue (is_name name)
IsSpelled Check = Unit {0}
IsSpelled Migrate = Unit {0}
IsSpelled (Gen n) = n < 2 ^ 32

-- the words ask for this
pub record Ask (words : List (List ℕ)) (asked : Asked) : Type 0 where
  pub spelled : IsSpelled asked
  pub written : words ≡ words_for asked

-- the words are of none of the forms
abbrev pub AreOther : List (List ℕ) → Type 0
AreOther words = (asked : Asked) → ¬ Ask words asked

-- whether the source is read for what is asked
abbrev pub reads : Asked → Bool
reads Run = true
reads (Certify name) = true
reads Check = true
reads Migrate = true
reads (Gen n) = false

-- what words ask for, if they are of one of the forms, found word by word
abbrev pub number_of : List ℕ → Option ℕ
number_of word = natural_in 4294967295 word

abbrev pub alone : List ℕ → Option Asked
alone word =
    if bytes_eq word (codes "run") then Some Run
    else if bytes_eq word (codes "check") then Some Check
    else if bytes_eq word (codes "migrate") then Some Migrate
    else None

abbrev pub asked_with : List ℕ → List ℕ → Option Asked
asked_with word other =
    if bytes_eq word (codes "certify") then option_map Certify (name_of other)
    else if bytes_eq word (codes "gen") then option_map Gen (number_of other)
    else None

abbrev pub asked_by : List (List ℕ) → Option Asked
asked_by [] = None
asked_by (word ∷ []) = alone word
asked_by (word ∷ other ∷ []) = asked_with word other
asked_by (word ∷ other ∷ more ∷ words) = None

-- whether the source is read for what the words ask for
abbrev pub reads_for : List (List ℕ) → Bool
reads_for words = option_map_or reads (asked_by words) false
