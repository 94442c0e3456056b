-- What a line of a script means.
use Rattle.std.specs.Prelude.{ℕ, Bool, true, false, ◌&&◌, ◌||◌, ◌==◌, nat_le, List, [], ◌∷◌, IsTrue, IsFalse, Option, Some, None, Result, Ok, Err}
use Rattle.std.specs.List.{list_all}
use Rattle.dt_script.specs.declared.command.Command.{Command}
use Rattle.dt_script.specs.declared.line.LineFault.{LineFault}
use Rattle.dt_script.specs.declared.line.LineFault.TheVariants.{Syntax, NoMemory}
use Rattle.dt_script.specs.Words.{is_blank, words_of}
use Rattle.dt_script.specs.Command.{IsCommand}

-- nothing, as a blank or a comment line does; a fault; or a command
pub data Meaning : Type 0 where
  Blank : Meaning
  Fault : Meaning
  Does : Command → Meaning

-- a space, a tab or a printable byte of ASCII
abbrev pub is_text_byte : ℕ → Bool
is_text_byte b = is_blank b || (nat_le 33 b && nat_le b 126)

abbrev pub is_text : List ℕ → Bool
is_text line = list_all is_text_byte line

abbrev pub begins_with_hash : List ℕ → Bool
begins_with_hash [] = false
begins_with_hash (b ∷ bytes) = b == 35

-- no words, or a first word that begins with `#`
abbrev pub is_passed_over : List (List ℕ) → Bool
is_passed_over [] = true
is_passed_over (word ∷ words) = begins_with_hash word

-- A blank or comment line does nothing, whatever its bytes. Every other line is text in one of the line forms, or a fault.
abbrev pub IsLine : List ℕ → Meaning → Type 0
IsLine line Blank = IsTrue (is_passed_over (words_of line))
IsLine line (Does command) = IsFalse (is_passed_over (words_of line)) × IsTrue (is_text line) × IsCommand (words_of line) command
IsLine line Fault =
    IsFalse (is_passed_over (words_of line)) × (IsTrue (is_text line) → (command : Command) → ¬ IsCommand (words_of line) command)

-- What reading a line may answer: what the line means, or want of memory for a line that may be a command.
abbrev pub IsRead : List ℕ → Result (Option Command) LineFault → Type 0
IsRead line (Ok None) = IsLine line Blank
IsRead line (Ok (Some command)) = IsLine line (Does command)
IsRead line (Err Syntax) = IsLine line Fault
IsRead line (Err NoMemory) = IsFalse (is_passed_over (words_of line)) × IsTrue (is_text line)
