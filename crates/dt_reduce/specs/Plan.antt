-- Plans of reductions, and why there is none.
use Rattle.std.specs.Prelude.{ℕ, ⊤, ℤ, IsTrue, List}
use Rattle.dt_map.specs.declared.entry.Entry.{Entry}
use Rattle.dt_map.specs.Elements.{elements, are_inside, Overlaps}
use Rattle.dt_map.specs.Typemap.{Marked}
use Rattle.dt_reduce.specs.declared.fault.ReduceFault.{ReduceFault}
use Rattle.dt_reduce.specs.declared.fault.ReduceFault.TheVariants.{Outside, Overlap, NoMemory}

-- a reduction: the elements of the source and of the target, and how many bytes the two buffers have
pub record Reduction : Type 0 where
  pub source : List Entry
  pub source_len : ℕ
  pub target : List Entry
  pub target_len : ℕ

-- the reduction of so many copies of a datatype, which begin at an origin in the source and at another in the target
abbrev pub reduction_of : Marked → ℕ → ℤ → ℕ → ℤ → ℕ → Reduction
reduction_of m count source_origin source_len target_origin target_len =
    record { source = elements m count source_origin; source_len = source_len; target = elements m count target_origin; target_len = target_len }

-- every element lies in its buffer
pub record AreInside (r : Reduction) : Type 0 where
  pub source : IsTrue (are_inside r.source_len r.source)
  pub target : IsTrue (are_inside r.target_len r.target)

-- then, no two elements have a common byte: they can be reduced
pub record CanReduce (r : Reduction) : Type 0 where
  pub inside : AreInside r
  pub apart : ¬ Overlaps r.target

-- why elements can't be reduced; want of memory is free
abbrev pub IsRefused : Reduction → ReduceFault → Type 0
IsRefused r Outside = ¬ AreInside r
IsRefused r Overlap = AreInside r × Overlaps r.target
IsRefused r NoMemory = ⊤
