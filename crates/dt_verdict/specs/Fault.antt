-- Why a text is that of no certificate, and at which line that shows.
use Rattle.std.specs.Prelude.{◌≡◌, ℕ, ◌+◌, List, [], ◌∷◌, ◌++◌, length}
use Rattle.dt_spelling.specs.Spelling.{Word, Words}
use Rattle.dt_cert.specs.Certificate.{Certificate}
use Rattle.dt_cert.specs.Shown.{IsWritable}
use Rattle.dt_cert.specs.Text.{text_of}
use Rattle.dt_verdict.specs.Cut.{lines_in}
use Rattle.dt_verdict.specs.declared.read.ReadFault.{ReadFault}
use Rattle.dt_verdict.specs.declared.read.ReadFault.TheVariants.{Syntax, NoMemory}

-- a text is that of a certificate whose numbers, lists and tree are within their limits
abbrev pub IsTextOf : List ℕ → Certificate → Type 0
IsTextOf text c = IsWritable c × (text ≡ text_of c)

-- the lines of some such certificate's text begin so
pub record IsBegun (lines : Words) : Type 0 where
  pub certificate : Certificate
  pub behind : Words
  pub writable : IsWritable certificate
  pub written : lines_in (text_of certificate) ≡ lines ++ behind

-- The lines before this one, from 1, begin texts that are wanted. With this one they don't, or no line of the text has this number: it is
-- missing, or has no line feed.
pub record IsFirstWrong (Begin : Words → Type 0) (text : List ℕ) (line : ℕ) : Type 0 where
  pub before : Words
  pub left : Words
  pub whole : lines_in text ≡ before ++ left
  pub place : line ≡ length before + 1
  pub begun : Begin before
  pub wrong : (next : Word) (after : Words) → left ≡ next ∷ after → ¬ Begin (before ++ next ∷ [])

-- the first line with which a text isn't that of such a certificate
abbrev pub IsWrongLine : List ℕ → ℕ → Type 0
IsWrongLine text line = IsFirstWrong IsBegun text line

-- a text is that of no such certificate, and this is the first wrong line; want of memory tells nothing
abbrev pub IsRefused : List ℕ → ReadFault → Type 0
IsRefused text (Syntax line) = ((c : Certificate) → ¬ IsTextOf text c) × IsWrongLine text line
IsRefused text NoMemory = Unit {0}
