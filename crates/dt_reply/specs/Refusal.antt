-- The number and the word of each refusal.
use Rattle.std.specs.Prelude.{ℕ, List, codes}
use Rattle.dt_reply.specs.declared.refusal.Refusal.{Refusal}
use Rattle.dt_reply.specs.declared.refusal.Refusal.TheVariants.{Syntax, UnknownName, NameTaken, UnsupportedKind, NotCommitted, BasicType, NamedType, NoSuchChild, BadArgument, Overflow, TooDeep, TooHeavy, TooManyNames, TooManyEntries, Outside, Overlap, TooLarge, WrongDirection, Truncated, SignatureDiffers, SameBuffer, BadWire}

abbrev pub number_of : Refusal → ℕ
number_of Syntax = 1
number_of UnknownName = 2
number_of NameTaken = 3
number_of UnsupportedKind = 4
number_of NotCommitted = 5
number_of BasicType = 6
number_of NamedType = 7
number_of NoSuchChild = 8
number_of BadArgument = 9
number_of Overflow = 10
number_of TooDeep = 11
number_of TooHeavy = 12
number_of TooManyNames = 13
number_of TooManyEntries = 14
number_of Outside = 15
number_of Overlap = 16
number_of TooLarge = 17
number_of WrongDirection = 18
number_of Truncated = 19
number_of SignatureDiffers = 20
number_of SameBuffer = 21
number_of BadWire = 22

abbrev pub word_of : Refusal → List ℕ
word_of Syntax = codes "syntax"
word_of UnknownName = codes "unknown name"
word_of NameTaken = codes "name taken"
word_of UnsupportedKind = codes "unsupported kind"
word_of NotCommitted = codes "not committed"
word_of BasicType = codes "basic type"
word_of NamedType = codes "named type"
word_of NoSuchChild = codes "no such child"
word_of BadArgument = codes "bad argument"
word_of Overflow = codes "overflow"
word_of TooDeep = codes "too deep"
word_of TooHeavy = codes "too heavy"
word_of TooManyNames = codes "too many names"
word_of TooManyEntries = codes "too many entries"
word_of Outside = codes "outside"
word_of Overlap = codes "overlap"
word_of TooLarge = codes "too large"
word_of WrongDirection = codes "wrong direction"
word_of Truncated = codes "truncated"
word_of SignatureDiffers = codes "signature differs"
word_of SameBuffer = codes "same buffer"
word_of BadWire = codes "bad wire"
