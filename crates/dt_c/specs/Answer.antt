-- What a call of the library answers.
use Rattle.std.specs.Prelude.{◌≡◌, ℕ, ℤ, pos, Bool, true, false, Option, Some, None, Result, Ok, Err, ◌⊎◌}
use Rattle.dt_kinds.specs.declared.kind.Rep.{Rep}
use Rattle.dt_kinds.specs.declared.kind.Rep.TheVariants.{Native, External32}
use Rattle.dt_space.specs.declared.fault.SpaceFault.{SpaceFault}
use Rattle.dt_space.specs.declared.fault.SpaceFault.TheVariants.{NoSuchType, NoSuchSession, BadArgument, Uncommitted, Basic, Overflow, TooDeep, TooHeavy, Outside, Overlap, TooLarge, NoRoom, Spent, Longer, Differs, BadText, TooMany, NoMemory}
use Rattle.dt_space.specs.declared.number.Operation.{Operation}
use Rattle.dt_space.specs.declared.number.TypeNumber.{TypeNumber}
use Rattle.dt_space.specs.Space.{Space, first_space}

-- the number of each refusal, of a library that is closed, and of one that is open where it must not be
abbrev pub number_of : SpaceFault → ℕ
number_of NoMemory = 1
number_of BadArgument = 2
number_of NoSuchType = 3
number_of NoSuchSession = 4
number_of Uncommitted = 5
number_of Basic = 6
number_of Overflow = 7
number_of TooDeep = 8
number_of TooHeavy = 9
number_of Outside = 10
number_of Overlap = 11
number_of TooLarge = 12
number_of NoRoom = 13
number_of Spent = 14
number_of Longer = 15
number_of Differs = 16
number_of BadText = 17
number_of TooMany = 18

abbrev pub closed : ℕ
closed = 20

abbrev pub standing : ℕ
standing = 21

-- 0 where a call is performed, else the number of the refusal
abbrev pub number_for : {A : Type 0} → Result A SpaceFault → ℤ
number_for (Ok x) = pos 0
number_for (Err fault) = pos (number_of fault)

-- a call on the space of a library: where there is none, that is answered, nothing happens, and what the call would put stays the same; else
-- the space becomes another, and the number is that of an answer, as the call says of the two
abbrev pub Calls : {A : Type 0} → Option Space → Option Space → ℤ → Type 0 → (Space → Space → Result A SpaceFault → Type 0) → Type 0
Calls None new number Same Call = (new ≡ None) × (number ≡ pos closed) × Same
Calls {A} (Some s) new number Same Call = (t : Space) × (r : Result A SpaceFault) × (new ≡ Some t) × (number ≡ number_for r) × Call s t r

-- the representation that a flag tells
abbrev pub rep_of : Bool → Rep
rep_of true = External32
rep_of false = Native

-- so many copies of a datatype from an origin on, and a flag that tells how their packed bytes represent them
abbrev pub operation : TypeNumber → ℤ → ℤ → Bool → Operation
operation datatype count origin external32 = record { ty = datatype; count = count; origin = origin; rep = rep_of external32 }

-- a library that was closed is open with the first space, or memory ran out; one that was open stays, and that is answered
abbrev pub IsNewAnswer : Option Space → Option Space → ℤ → Type 0
IsNewAnswer None new number = ((number ≡ pos 0) × (new ≡ Some first_space)) ⊎ ((number ≡ pos 1) × (new ≡ None))
IsNewAnswer (Some s) new number = (number ≡ pos standing) × (new ≡ Some s)
