-- Elements copied from one buffer to another.
use Rattle.std.specs.Prelude.{◌≡◌, ℕ, ◌<◌, ◌≤◌, ◌⊎◌, List, length, Result, MatchResult}
use Rattle.dt_copy.specs.Copied.{copied}
use Rattle.dt_copy.specs.declared.fault.CopyFault.TheVariants as why
use Rattle.dt_copy.specs.Plan.{Copy, copy_of, CanCopy, IsRefused}
use Rattle.dt_type.specs.Datatype.{typemap_of}
use Rattle.dt_type.specs.declared.datatype.Seen.{Seen}
use Rattle.dt_space.specs.declared.fault.SpaceFault.{SpaceFault}
use Rattle.dt_space.specs.declared.fault.SpaceFault.TheVariants.{Outside, Overlap, TooLarge, Longer, Differs, NoMemory}
use Rattle.dt_space.specs.declared.number.Operation.{Operation}
use Rattle.dt_space.specs.Packing.{IsReady, IsUnready, count_of}
use Rattle.dt_space.specs.Space.{Space}

-- two operations are ready, and this holds of their datatypes
abbrev pub AreReady : Space → Operation → Operation → (Seen → Seen → Type 0) → Type 0
AreReady s from onto Are = IsReady s from (λ t. IsReady s onto (λ u. Are t u))

-- one of them isn't: the first, or else the second
abbrev pub AreUnready : Space → Operation → Operation → SpaceFault → Type 0
AreUnready s from onto fault = IsUnready s from fault ⊎ IsReady s from (λ t. IsUnready s onto fault)

-- the copy from one operation to another, over datatypes, in buffers of so many bytes
abbrev pub copy_between : Operation → Seen → ℕ → Operation → Seen → ℕ → Copy
copy_between from t source_len onto u target_len =
    copy_of (typemap_of t) (count_of from) from.origin source_len (typemap_of u) (count_of onto) onto.origin target_len

-- two buffers of so many bytes have at most 16 MiB each
pub record AreSmall (source_len target_len : ℕ) : Type 0 where
  pub source : source_len ≤ 16777216
  pub target : target_len ≤ 16777216

-- why it can't be made: a buffer is too large, or else as its plan is refused
abbrev pub IsHindered : Copy → SpaceFault → Type 0
IsHindered c TooLarge = (16777216 < c.source_len) ⊎ (16777216 < c.target_len)
IsHindered c Outside = AreSmall c.source_len c.target_len × IsRefused c why.Outside
IsHindered c Overlap = AreSmall c.source_len c.target_len × IsRefused c why.Overlap
IsHindered c Longer = AreSmall c.source_len c.target_len × IsRefused c why.Longer
IsHindered c Differs = AreSmall c.source_len c.target_len × ((at : ℕ) × IsRefused c (why.Differs at))
IsHindered c NoMemory = Unit {0}
IsHindered c fault = ⊥

-- so many elements are copied, which are all of the source's
pub record IsCopied (c : Copy) (source target target' : List ℕ) (elements : ℕ) : Type 0 where
  pub small : AreSmall c.source_len c.target_len
  pub can : CanCopy c
  pub many : elements ≡ length c.source
  pub put : target' ≡ copied c.source c.target source target

abbrev pub IsUncopied : Space → Operation → ℕ → Operation → ℕ → SpaceFault → Type 0
IsUncopied s from source_len onto target_len fault =
    AreUnready s from onto fault ⊎ AreReady s from onto (λ t u. IsHindered (copy_between from t source_len onto u target_len) fault)

-- the answer; a refusal leaves the target as it was
abbrev pub IsCopyAnswer : Space → Operation → List ℕ → Operation → List ℕ → List ℕ → Result ℕ SpaceFault → Type 0
IsCopyAnswer s from source onto target target' answer =
    MatchResult answer
    (λ elements. AreReady s from onto (λ t u. IsCopied (copy_between from t (length source) onto u (length target)) source target target' elements))
    (λ fault. (target' ≡ target) × IsUncopied s from (length source) onto (length target) fault)
