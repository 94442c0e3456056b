-- A line means one thing alone.
use Rattle.std.proofs.Common.{◌≡◌, ℕ, Bool, List, true, false, Option, Some, None, Err, refl, ap, sym, ◌∙◌}
use Rattle.dt_script.specs.declared.command.Command.{Command}
use Rattle.dt_script.specs.Words.{words_of}
use Rattle.dt_script.specs.Command.{IsCommand}
use Rattle.dt_script.specs.declared.line.LineFault.{LineFault}
use Rattle.dt_script.specs.declared.line.LineFault.TheVariants.{Syntax, NoMemory}
use Rattle.dt_script.specs.Line.{Meaning, Blank, Fault, Does, IsLine, IsRead, is_passed_over, is_text}
use Rattle.dt_script.specs.Reading.{Gives}
use Rattle.dt_script.specs.Forms.{command_of}
use Rattle.dt_script.proofs.CommandLemmas.{command_sound, command_complete}

apart : (b : _) → b ≡ true → b ≡ false → ⊥
apart b t f = let e : true ≡ false = sym t ∙ f in cc

-- words are in the form of one command
one_command : (ws : List (List ℕ)) (c d : Command) → IsCommand ws c → IsCommand ws d → c ≡ d
one_command ws c d p q = let e : Some c ≡ Some d = sym (command_complete ws c p) ∙ command_complete ws d q in cc

-- words that give no command are in no form
pub no_command : (ws : List (List ℕ)) (c : Command) → command_of ws ≡ None → ¬ IsCommand ws c
no_command ws c e p = let apart : None ≡ Some c = sym e ∙ command_complete ws c p in cc

pub one_meaning : (line : List ℕ) (m n : Meaning) → IsLine line m → IsLine line n → m ≡ n
one_meaning line Blank Blank p q = refl
one_meaning line Blank Fault p q = absurd (apart _ p q.0)
one_meaning line Blank (Does d) p q = absurd (apart _ p q.0)
one_meaning line Fault Blank p q = absurd (apart _ q p.0)
one_meaning line Fault Fault p q = refl
one_meaning line Fault (Does d) p q = absurd (p.1 q.1 d q.2)
one_meaning line (Does c) Blank p q = absurd (apart _ q p.0)
one_meaning line (Does c) Fault p q = absurd (q.1 p.1 c p.2)
one_meaning line (Does c) (Does d) p q = ap Does (one_command (words_of line) c d p.2 q.2)

-- a line that isn't passed over, by whether it is text and what its words are read as
text_meaning : (line : List ℕ) → is_passed_over (words_of line) ≡ false → (text : Bool) → is_text line ≡ text → (found : Option Command)
    → command_of (words_of line) ≡ found → (m : Meaning) × IsLine line m
text_meaning line not false text found e = (Fault, (not, λ is. absurd (apart (is_text line) is text)))
text_meaning line not true text (Some c) e = (Does c, (not, text, command_sound (words_of line) c e))
text_meaning line not true text None e = (Fault, (not, λ _ c. no_command (words_of line) c e))

-- each line has a meaning
pub some_meaning : (line : List ℕ) → (m : Meaning) × IsLine line m
some_meaning line = by (is_passed_over (words_of line)) refl
  where
    by : (over : Bool) → is_passed_over (words_of line) ≡ over → (m : Meaning) × IsLine line m
    by true is = (Blank, is)
    by false is = text_meaning line is (is_text line) refl (command_of (words_of line)) refl

-- where reading gives no command, the line is a fault
pub fault_line : (line : List ℕ) (fault : LineFault) → is_passed_over (words_of line) ≡ false → is_text line ≡ true
    → Gives {X = Command} (λ c. c) (Err fault) (command_of (words_of line)) → IsRead line (Err fault)
fault_line line Syntax p t g = (p, λ _ c. no_command (words_of line) c (g refl))
fault_line line NoMemory p t g = (p, t)
