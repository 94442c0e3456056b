-- A certificate's lines, read one after another.
use Rattle.std.specs.Prelude.{◌≡◌, ℕ, zero, suc, ◌&&◌, int_le, ℤ, pos, negsuc, Bool, List, [], ◌∷◌, Option, Some, None, Result, Ok, Err, codes, bytes_eq, if◌then◌else◌}
use Rattle.std.specs.Option.{option_and_then}
use Rattle.std.specs.Result.{result_ok}
use Rattle.dt_map.specs.declared.entry.Entry.{Entry}
use Rattle.dt_map.specs.Bounds.{end_of}
use Rattle.dt_spelling.specs.Reading.{Reader, ◌>>=◌, give, item_at, where_true, words_from}
use Rattle.dt_spelling.specs.Spelling.{Word, Words}
use Rattle.dt_cert.specs.Certificate.{Version, BySegments, ByClasses}
use Rattle.dt_verdict.specs.declared.stop.Stop.{Stop}
use Rattle.dt_verdict.specs.declared.stop.Stop.TheVariants.{At, NoMemory}
use Rattle.dt_verdict.specs.Cut.{lines_from}
use Rattle.dt_verdict.specs.Reading.{whole_of, entry_at}

-- what a whole line spells
abbrev pub line_as : {A : Type 0} → Reader A → Word → Option A
line_as reader line = result_ok (whole_of (reader (words_from line 0)))

-- the first line, which says the version
abbrev pub version_in : Word → Option Version
version_in line =
    if bytes_eq line (codes "dtcert 2") then Some BySegments
    else if bytes_eq line (codes "dtcert 3") then Some ByClasses
    else None

-- at most 2^60 in absolute value
abbrev pub is_near : ℤ → Bool
is_near x = int_le (negsuc 1152921504606846975) x && int_le x (pos 1152921504606846976)

-- an entry that begins and ends in range
unfoldable pub entry_in : Word → Option Entry
entry_in line = option_and_then (λ e. where_true (is_near e.disp && is_near (end_of e)) e) (line_as entry_at line)

-- so many entries
abbrev pub entries_at : ℕ → Reader (List Entry)
entries_at zero = give []
entries_at (suc n) = do
  first ← item_at entry_in
  more ← entries_at n
  give (first ∷ more)

-- What a function of a text returned, seen by view, is what reading its lines gives. Want of memory tells nothing.
abbrev pub Stops : {Y : Type 0} → List ℕ → Stop → Result Y Words → Type 0
Stops text NoMemory read = Unit {0}
Stops text (At at) read = read ≡ Err (lines_from text at)

abbrev pub Gives : {X Y : Type 0} → List ℕ → (X → Y) → Result X Stop → Result Y Words → Type 0
Gives text view (Ok x) read = read ≡ Ok (view x)
Gives text view (Err stop) read = Stops text stop read
