use Rattle.std.specs.Prelude.{◌≡◌, ◌≢◌, ◌⊎◌, ◌↔◌, ℕ, List, [], ◌++◌, Result, Ok, Err}
use Rattle.dt_form.specs.declared.form.FormOf.{FormOf}
use Rattle.dt_type.specs.declared.datatype.Seen.{Seen}
use Rattle.dt_type.specs.Datatype.{form_of}
use Rattle.dt_type.specs.Whole.{IsWhole}
use Rattle.dt_wire.specs.Fault.{IsBadAt, IsText}
use Rattle.dt_wire.specs.Import.{IsRead}
use Rattle.dt_wire.specs.Spelling.{spelling, text_of}
use Rattle.dt_wire.specs.Wire.{AreWritten, IsForm, IsWire}
use Rattle.dt_wire.specs.declared.fault.WireFault.{WireFault}
use Rattle.dt_wire.specs.declared.fault.WireFault.TheVariants.{NoMemory}

-- no spelling of a form begins that of another, whatever stands behind them
abbrev pub NoSpellingBeginsAnother : Type 0
NoSpellingBeginsAnother =
    (levels : ℕ) (form other : FormOf Seen) (behind behind_other : List ℕ) → IsForm levels form → IsForm levels other
    → spelling levels form ++ behind ≡ spelling levels other ++ behind_other → (form ≡ other) × (behind ≡ behind_other)

-- each form has one spelling, and each text is that of one form
abbrev pub OneSpelling : Type 0
OneSpelling = (text text' : List ℕ) (form form' : FormOf Seen) → IsWire text form → IsWire text' form' → (text ≡ text') ↔ (form ≡ form')

-- no text begins another
abbrev pub NoTextBeginsAnother : Type 0
NoTextBeginsAnother = (text text' behind : List ℕ) (form form' : FormOf Seen) → IsWire text form → IsWire text' form' → text ++ behind ≡ text' → behind ≡ []

-- any bytes are a text, or no text from some place on
abbrev pub EachTextIsReadOrBad : Type 0
EachTextIsReadOrBad = (bytes : List ℕ) → IsText bytes ⊎ ((at : ℕ) × IsBadAt bytes at)

-- which is one place
abbrev pub OneBadPlace : Type 0
OneBadPlace = (bytes : List ℕ) (at at' : ℕ) → IsBadAt bytes at → IsBadAt bytes at' → at ≡ at'

-- the form of every datatype has a spelling
abbrev pub EachTypeHasASpelling : Type 0
EachTypeHasASpelling = (t : Seen) → IsWhole t → AreWritten 64 t → IsWire (text_of (form_of t)) (form_of t)

-- bytes are read with one answer, as long as memory lasts
abbrev pub OneAnswer : Type 0
OneAnswer =
    (bytes : List ℕ) (answer answer' : Result Seen WireFault) → IsRead bytes answer → IsRead bytes answer'
    → answer ≢ Err NoMemory → answer' ≢ Err NoMemory → answer ≡ answer'

-- the text of a datatype is read as that datatype, or memory runs out
abbrev pub TextIsReadBack : Type 0
TextIsReadBack = (t : Seen) (answer : Result Seen WireFault) → IsWhole t → AreWritten 64 t → IsRead (text_of (form_of t)) answer → (answer ≡ Ok t) ⊎ (answer ≡ Err NoMemory)
