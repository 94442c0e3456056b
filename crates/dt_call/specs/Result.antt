-- What the program answers.
use Rattle.std.specs.Prelude.{◌≡◌, ◌≢◌, ℕ, ◌≤◌, Bool, true, false, List, [], ◌++◌, length, Option, Some, IfSome, MatchOption, if◌then◌else◌}
use Rattle.dt_base.specs.declared.source.TheConstants.{READ_MAX}
use Rattle.dt_base.specs.Counter.{counted}
use Rattle.dt_machine.specs.Answers.{Run, Answers, text_of_all}
use Rattle.dt_script.specs.Lines.{script_lines}
use Rattle.dt_reply.specs.declared.reply.Reply.{Reply}
use Rattle.dt_machine.specs.State.{State, first_state}
use Rattle.dt_words.specs.Certified.{IsCertified}
use Rattle.dt_words.specs.Checked.{IsChecked}
use Rattle.dt_words.specs.Moved.{IsMoved}
use Rattle.dt_words.specs.Generated.{IsGenerated}
use Rattle.dt_call.specs.declared.words.Asked.{Asked}
use Rattle.dt_call.specs.declared.words.Asked.TheVariants as form
use Rattle.dt_call.specs.declared.status.Status.{Status}
use Rattle.dt_call.specs.declared.status.Status.TheVariants.{Done, Refused, Usage, ReadFault, WriteFault, NoMemory, TooLong}
use Rattle.dt_call.specs.Words.{Ask, reads_for, words_for}

-- the call was answered
abbrev pub IsAnswer : Status → Type 0
IsAnswer Done = Unit {0}
IsAnswer Refused = Unit {0}
IsAnswer Usage = ⊥
IsAnswer ReadFault = ⊥
IsAnswer WriteFault = ⊥
IsAnswer NoMemory = ⊥
IsAnswer TooLong = ⊥

-- the call was cut short while it ran
abbrev pub IsCutShort : Status → Type 0
IsCutShort Done = ⊥
IsCutShort Refused = ⊥
IsCutShort Usage = ⊥
IsCutShort ReadFault = ⊥
IsCutShort WriteFault = Unit {0}
IsCutShort NoMemory = Unit {0}
IsCutShort TooLong = ⊥

-- the call ended before anything was written; for `run` memory may run out later
abbrev pub IsUnwritten : List (List ℕ) → Status → Type 0
IsUnwritten words Done = ⊥
IsUnwritten words Refused = ⊥
IsUnwritten words Usage = Unit {0}
IsUnwritten words ReadFault = Unit {0}
IsUnwritten words WriteFault = ⊥
IsUnwritten words NoMemory = words ≢ words_for form.Run
IsUnwritten words TooLong = Unit {0}

-- What is asked, an input and a text belong together, with whether nothing is refused: the replies to the lines of the input; a
-- certificate, or the first refusal; what a certificate shows, or why it shows nothing; a certificate in version 3, or why there is none;
-- what was counted in the script of a number, whatever the input is.
abbrev pub Says : Asked → List ℕ → List ℕ → Bool → Type 0
Says form.Run input text accepted = Answers input text accepted
Says (form.Certify name) input text accepted = IsCertified input name text accepted
Says form.Check input text accepted = IsChecked input text accepted
Says form.Migrate input text accepted = IsMoved input text accepted
Says (form.Gen n) input text accepted = IsGenerated n text accepted

-- these words, this input, this text and this status belong together
abbrev pub IsResult : List (List ℕ) → List ℕ → List ℕ → Status → Type 0
IsResult words input text Done = (asked : Asked) × Ask words asked × Says asked input text true
IsResult words input text Refused = (asked : Asked) × Ask words asked × Says asked input text false
IsResult words input text Usage = ⊥
IsResult words input text ReadFault = ⊥
IsResult words input text WriteFault = ⊥
IsResult words input text NoMemory = ⊥
IsResult words input text TooLong = ⊥

-- a text is a front of the replies to the first lines of an input
pub record IsFront (input text : List ℕ) : Type 0 where
  pub lines : List (List ℕ)
  pub later : List (List ℕ)
  pub split : script_lines input ≡ lines ++ later
  pub replies : List Reply
  pub last : State
  pub run : Run first_state lines replies last
  pub unwritten : List ℕ
  pub written : text_of_all replies ≡ text ++ unwritten

-- a text is a front of one that belongs to what is asked and an input
pub record IsFrontOf (asked : Asked) (input text : List ℕ) : Type 0 where
  pub accepted : Bool
  pub unwritten : List ℕ
  pub says : Says asked input (text ++ unwritten) accepted

-- What was written where the call was cut short: by a write that failed a front of an answer; where memory ran out nothing, but for
-- `run`, which writes each reply as soon as it is known.
abbrev pub IsShortFor : Asked → List ℕ → List ℕ → Status → Type 0
IsShortFor form.Run input text status = IsFront input text
IsShortFor asked input text WriteFault = IsFrontOf asked input text
IsShortFor asked input text NoMemory = text ≡ []
IsShortFor asked input text _ = ⊥

abbrev pub IsShort : List (List ℕ) → List ℕ → List ℕ → Status → Type 0
IsShort words input text status = (asked : Asked) × Ask words asked × IsShortFor asked input text status

-- the input that is answered, where the source tells its bytes; where it isn't read, any input will do
abbrev pub input_of : List (List ℕ) → Option (List ℕ) → Option (List ℕ)
input_of words left = if reads_for words then left else Some []

-- a fact of the bytes of a source and of what a sink held, where both tell them
abbrev pub WhereTold : Option (List ℕ) → Option (List ℕ) → (List ℕ → List ℕ → Type 0) → Type 0
WhereTold left held P = IfSome left (λ input. IfSome held (λ before. P input before))

-- more bytes than the limit were taken: the count rose by one more than it, or stands at its last value
abbrev pub TookTooMany : ℕ → ℕ → Type 0
TookTooMany before now = now ≡ counted before 16777217

-- a source ends within the limit, by its bytes where it tells them, and else by its count of bytes taken
abbrev pub EndsWithinLimit : Option (List ℕ) → ℕ → ℕ → Type 0
EndsWithinLimit left before now = MatchOption left (¬ TookTooMany before now) (λ input. length input ≤ READ_MAX)

-- the answers that are left where nothing fails outside
abbrev pub IsAnswerOrNoMemory : Status → Type 0
IsAnswerOrNoMemory Done = Unit {0}
IsAnswerOrNoMemory Refused = Unit {0}
IsAnswerOrNoMemory Usage = ⊥
IsAnswerOrNoMemory ReadFault = ⊥
IsAnswerOrNoMemory WriteFault = ⊥
IsAnswerOrNoMemory NoMemory = Unit {0}
IsAnswerOrNoMemory TooLong = ⊥

-- what the sink holds is what it held before and a text
abbrev pub Gained : Option (List ℕ) → List ℕ → (List ℕ → Type 0) → Type 0
Gained new before P = (text : List ℕ) × (new ≡ Some (before ++ text)) × P text
