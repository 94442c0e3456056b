-- No two refusals have one number.
use Rattle.std.proofs.Common.{◌≡◌, ℕ, ◌==◌, cond, refl, sym, ap, ◌∙◌}
use Rattle.dt_reply.specs.declared.refusal.Refusal.{Refusal}
use Rattle.dt_reply.specs.declared.refusal.Refusal.TheVariants.{Syntax, UnknownName, NameTaken, UnsupportedKind, NotCommitted, BasicType, NamedType, NoSuchChild, BadArgument, Overflow, TooDeep, TooHeavy, TooManyNames, TooManyEntries, Outside, Overlap, TooLarge, WrongDirection, Truncated, SignatureDiffers, SameBuffer, BadWire}
use Rattle.dt_reply.specs.Refusal.{number_of}

-- the refusal of a number
abbrev of_number : ℕ → Refusal
of_number n =
    cond (n == 1) Syntax (cond (n == 2) UnknownName (cond (n == 3) NameTaken (cond (n == 4) UnsupportedKind
    (cond (n == 5) NotCommitted (cond (n == 6) BasicType (cond (n == 7) NamedType (cond (n == 8) NoSuchChild (cond (n == 9) BadArgument
    (cond (n == 10) Overflow (cond (n == 11) TooDeep (cond (n == 12) TooHeavy (cond (n == 13) TooManyNames
    (cond (n == 14) TooManyEntries (cond (n == 15) Outside (cond (n == 16) Overlap (cond (n == 17) TooLarge
    (cond (n == 18) WrongDirection (cond (n == 19) Truncated (cond (n == 20) SignatureDiffers (cond (n == 21) SameBuffer BadWire))))))))))))))))))))

back : (refusal : Refusal) → of_number (number_of refusal) ≡ refusal
back Syntax = refl
back UnknownName = refl
back NameTaken = refl
back UnsupportedKind = refl
back NotCommitted = refl
back BasicType = refl
back NamedType = refl
back NoSuchChild = refl
back BadArgument = refl
back Overflow = refl
back TooDeep = refl
back TooHeavy = refl
back TooManyNames = refl
back TooManyEntries = refl
back Outside = refl
back Overlap = refl
back TooLarge = refl
back WrongDirection = refl
back Truncated = refl
back SignatureDiffers = refl
back SameBuffer = refl
back BadWire = refl

pub one_refusal : (a b : Refusal) → number_of a ≡ number_of b → a ≡ b
one_refusal a b same = sym (back a) ∙ ap of_number same ∙ back b
