-- Contents of numbered datatypes (MPI 4.1, section 5.1.13).
use Rattle.std.specs.Prelude.{◌≡◌, ℕ, ◌≤◌, ℤ, true, false, None, List, length, Result, MatchResult}
use Rattle.std.specs.Option.{IsSomeAnd}
use Rattle.dt_form.specs.declared.contents.ContentsOf.{ContentsOf}
use Rattle.dt_form.specs.Contents.{contents_of}
use Rattle.dt_type.specs.Basic.{is_basic}
use Rattle.dt_type.specs.Datatype.{form_of}
use Rattle.dt_type.specs.declared.datatype.Seen.{Seen}
use Rattle.dt_space.specs.declared.fault.SpaceFault.{SpaceFault}
use Rattle.dt_space.specs.declared.fault.SpaceFault.TheVariants.{NoSuchType, Basic, NoRoom, Spent, NoMemory}
use Rattle.dt_space.specs.declared.number.TypeNumber.{TypeNumber}
use Rattle.dt_space.specs.Space.{Space, kept_at, type_at}
use Rattle.dt_numbered.specs.declared.listing.ContentsLengths.{ContentsLengths}
use Rattle.dt_numbered.specs.Filling.{filled}
use Rattle.dt_numbered.specs.Olds.{AreNumbered, StandsAs, IsOut}

-- how long the three lists of contents are
abbrev pub lengths_in : ContentsOf Seen → ContentsLengths
lengths_in lists = record { integers = length lists.integers; addresses = length lists.addresses; types = length lists.types }

abbrev pub contents_in : Seen → ContentsOf Seen
contents_in t = contents_of (form_of t)

-- lists of so many members have room for them
abbrev pub Fit : ContentsLengths → ℕ → ℕ → ℕ → Type 0
Fit lengths integers addresses types = (lengths.integers ≤ integers) × (lengths.addresses ≤ addresses) × (lengths.types ≤ types)

-- why a datatype has no contents: it is basic; want of memory is tied to nothing
abbrev pub IsUnlisted : Seen → SpaceFault → Type 0
IsUnlisted t Basic = is_basic t ≡ true
IsUnlisted t NoMemory = Unit {0}
IsUnlisted t fault = ⊥

-- three lists of a caller
pub record Lists : Type 0 where
  pub integers : List ℤ
  pub addresses : List ℤ
  pub types : List TypeNumber

abbrev pub lists_of : List ℤ → List ℤ → List TypeNumber → Lists
lists_of integers addresses types = record { integers = integers; addresses = addresses; types = types }

-- the contents of a datatype stand at the front of three lists that have room for them, the old types by their numbers
pub record AreListed (old new : Space) (t : Seen) (lists lists' : Lists) (lengths' : ContentsLengths) : Type 0 where
  pub derived : is_basic t ≡ false
  pub told : lengths' ≡ lengths_in (contents_in t)
  pub fit : Fit lengths' (length lists.integers) (length lists.addresses) (length lists.types)
  pub numbers : List TypeNumber
  pub numbered : AreNumbered old new (contents_in t).types numbers
  pub integers : lists'.integers ≡ filled (contents_in t).integers lists.integers
  pub addresses : lists'.addresses ≡ filled (contents_in t).addresses lists.addresses
  pub types : lists'.types ≡ filled numbers lists.types

-- a list is too short, and their lengths are told alone
pub record AreShort (t : Seen) (lists : Lists) (lengths' : ContentsLengths) : Type 0 where
  pub derived : is_basic t ≡ false
  pub told : lengths' ≡ lengths_in (contents_in t)
  pub short : ¬ Fit lengths' (length lists.integers) (length lists.addresses) (length lists.types)

-- the lists have room, but too few numbers are left for the old types
pub record AreUnnumbered (s : Space) (t : Seen) (lists : Lists) : Type 0 where
  pub derived : is_basic t ≡ false
  pub fit : Fit (lengths_in (contents_in t)) (length lists.integers) (length lists.addresses) (length lists.types)
  pub out : IsOut s (contents_in t).types Spent

-- why there are none: the number stands for nothing, or for a basic datatype, or for one whose old types get no numbers
abbrev pub IsBare : Space → TypeNumber → Lists → SpaceFault → Type 0
IsBare s n lists NoSuchType = kept_at s n ≡ None
IsBare s n lists Basic = IsSomeAnd (type_at s n) (λ t. is_basic t ≡ true)
IsBare s n lists Spent = IsSomeAnd (type_at s n) (λ t. AreUnnumbered s t lists)
IsBare s n lists NoMemory = Unit {0}
IsBare s n lists fault = ⊥

abbrev pub IsContentsRefusal : Space → TypeNumber → Lists → ContentsLengths → ContentsLengths → SpaceFault → Type 0
IsContentsRefusal s n lists lengths lengths' NoRoom = IsSomeAnd (type_at s n) (λ t. AreShort t lists lengths')
IsContentsRefusal s n lists lengths lengths' fault = (lengths' ≡ lengths) × IsBare s n lists fault

-- the answer; a refusal leaves the lists, and what each number stands for
abbrev pub IsContentsAnswer : Space → Space → TypeNumber → Lists → Lists → ContentsLengths → ContentsLengths → Result (Unit {0}) SpaceFault → Type 0
IsContentsAnswer old new n lists lists' lengths lengths' answer =
    MatchResult answer
    (λ done. IsSomeAnd (type_at old n) (λ t. AreListed old new t lists lists' lengths'))
    (λ fault. StandsAs old new × (lists' ≡ lists) × IsContentsRefusal old n lists lengths lengths' fault)
