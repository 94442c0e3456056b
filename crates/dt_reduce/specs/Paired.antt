-- The elements of both sides, of which the first ones were joined.
use Rattle.std.specs.Prelude.{◌≡◌, ℕ, ◌+◌, ◌*◌, ◌≤◌, ℤ, IsTrue, List, take, drop, length}
use Rattle.dt_kinds.specs.declared.kind.Rep.{Rep}
use Rattle.dt_kinds.specs.declared.kind.Rep.TheVariants.{Native}
use Rattle.dt_map.specs.declared.entry.Entry.{Entry}
use Rattle.dt_map.specs.Elements.{are_inside, Overlaps}
use Rattle.dt_map.specs.Packed.{total}
use Rattle.dt_map.specs.Typemap.{shift}
use Rattle.dt_rows.specs.declared.rows.Rows.{Rows}
use Rattle.dt_rows.specs.Rows.{elements_of_rows, AreRows}
use Rattle.dt_rows.specs.Storing.{IsWhole}

-- elements as they would begin at 0, where they begin in the source and in the target, how many bytes these have, and how many of the
-- elements were joined
pub record Paired : Type 0 where
  pub elements : List Entry
  pub source_origin : ℤ
  pub source_len : ℕ
  pub target_origin : ℤ
  pub target_len : ℕ
  pub done : ℕ

-- the elements in the source, and in the target
abbrev pub source_of : Paired → List Entry
source_of p = shift p.source_origin p.elements

abbrev pub target_of : Paired → List Entry
target_of p = shift p.target_origin p.elements

-- so many elements were joined; and so many more
abbrev pub at_count : Paired → ℕ → Paired
at_count p n = record p { done = n }

abbrev pub after : Paired → ℕ → Paired
after p n = at_count p (p.done + n)

-- the next n elements of a list of which some were joined
abbrev pub next_of : Paired → ℕ → List Entry → List Entry
next_of p n es = take n (drop p.done es)

-- what holds of the elements: they lie in their buffers, of at most 16 MiB, and don't overlap
pub record ArePaired (p : Paired) : Type 0 where
  pub source : IsTrue (are_inside p.source_len (source_of p))
  pub target : IsTrue (are_inside p.target_len (target_of p))
  pub apart : ¬ Overlaps (target_of p)
  pub source_small : p.source_len ≤ 16777216
  pub target_small : p.target_len ≤ 16777216
  pub within : p.done ≤ length p.elements

-- a walk stands behind the elements that were joined
pub record StandsBehind (p : Paired) (rep : Rep) (position : ℕ) : Type 0 where
  pub native : rep ≡ Native
  pub place : position ≡ total Native (take p.done p.elements)

-- rows are the next elements, whole
pub record AreNextRows (p : Paired) (r : Rows) : Type 0 where
  pub shape : AreRows Native r
  pub whole : IsWhole Native r.run
  pub all : elements_of_rows r ≡ next_of p (r.rows * r.run.elements) p.elements
  pub within : p.done + r.rows * r.run.elements ≤ length p.elements
