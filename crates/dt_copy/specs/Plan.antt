-- Plans of copies, and why there is none.
use Rattle.std.specs.Prelude.{◌≡◌, ℕ, ◌<◌, ◌≤◌, ⊤, ℤ, IsTrue, List, take, length, slice_get}
use Rattle.dt_copy.specs.declared.fault.CopyFault.{CopyFault}
use Rattle.dt_copy.specs.declared.fault.CopyFault.TheVariants.{Outside, Overlap, Longer, Differs, NoMemory}
use Rattle.dt_copy.specs.Copied.{signature}
use Rattle.dt_map.specs.declared.entry.Entry.{Entry}
use Rattle.dt_map.specs.Elements.{elements, are_inside, Overlaps}
use Rattle.dt_map.specs.Typemap.{Marked}

-- a copy: the elements of the source and of the target, and how many bytes the two buffers have
pub record Copy : Type 0 where
  pub source : List Entry
  pub source_len : ℕ
  pub target : List Entry
  pub target_len : ℕ

-- the copy of one operation to another
abbrev pub copy_of : Marked → ℕ → ℤ → ℕ → Marked → ℕ → ℤ → ℕ → Copy
copy_of source source_count source_origin source_len target target_count target_origin target_len =
    record {
      source = elements source source_count source_origin;
      source_len = source_len;
      target = elements target target_count target_origin;
      target_len = target_len;
    }

-- every element lies in its buffer
pub record AreInside (c : Copy) : Type 0 where
  pub source : IsTrue (are_inside c.source_len c.source)
  pub target : IsTrue (are_inside c.target_len c.target)

-- then, no two elements of the target have a common byte
pub record AreSettable (c : Copy) : Type 0 where
  pub inside : AreInside c
  pub apart : ¬ Overlaps c.target

-- then, the source has no more elements than the target
pub record AreEnough (c : Copy) : Type 0 where
  pub settable : AreSettable c
  pub enough : length c.source ≤ length c.target

-- then, each element of the source has the kind of the target's with the same number: it can be copied
pub record CanCopy (c : Copy) : Type 0 where
  pub enough : AreEnough c
  pub alike : signature c.source ≡ take (length c.source) (signature c.target)

-- the kinds differ first at a number
pub record DifferFirst (c : Copy) (at : ℕ) : Type 0 where
  pub enough : AreEnough c
  pub within : at < length c.source
  pub before : take at (signature c.source) ≡ take at (signature c.target)
  pub here : ¬ (slice_get (signature c.source) at ≡ slice_get (signature c.target) at)

-- why elements can't be copied; want of memory is free
abbrev pub IsRefused : Copy → CopyFault → Type 0
IsRefused c Outside = ¬ AreInside c
IsRefused c Overlap = AreInside c × Overlaps c.target
IsRefused c Longer = AreSettable c × (length c.target < length c.source)
IsRefused c (Differs at) = DifferFirst c at
IsRefused c NoMemory = ⊤

-- so many elements of the source are copied
pub record IsPlan (c : Copy) (elements : ℕ) : Type 0 where
  pub can : CanCopy c
  pub all : elements ≡ length c.source
