use Rattle.std.specs.Prelude.{◌≡◌, ℕ, ◌≤◌, Option, Some, nat_abs, List, MatchOption}
use Rattle.dt_map.specs.declared.entry.Entry.{Entry}
use Rattle.dt_offsets.specs.declared.marks.Marks.{Marks}
use Rattle.dt_map.specs.Bounds.{alignment}
use Rattle.dt_map.specs.Span.{span_of}
use Rattle.dt_tree.specs.declared.measure.Measure.{Measure}
use Rattle.dt_tree.specs.Rule.{IsShort, AreShort}
use Rattle.dt_tree.specs.Tree.{Tree, flat}

-- the ends of a span are at most 2^100 in absolute value, so that two of them can be added
abbrev pub IsNear : Marks → Type 0
IsNear span = (nat_abs span.lb ≤ 1267650600228229401496703205376) × (nat_abs span.ub ≤ 1267650600228229401496703205376)

-- at most 2^80, as the rule of trees wants it of true bounds
abbrev pub IsClose : Marks → Type 0
IsClose span = (nat_abs span.lb ≤ 1208925819614629174706176) × (nat_abs span.ub ≤ 1208925819614629174706176)

-- a span and an alignment are those of entries
abbrev pub IsMeasure : List Entry → Marks → ℕ → Type 0
IsMeasure es span align = (span_of es ≡ Some span) × (alignment es ≡ align)

-- the measure of some entries, within the rule of trees
abbrev pub IsWhole : Measure → Type 0
IsWhole m = (es : List Entry) × IsMeasure es m.span m.align × IsClose m.span

-- the measure of short entries, or nothing of others
abbrev pub IsShortMeasure : List Entry → Option Measure → Type 0
IsShortMeasure es result = MatchOption result (¬ IsShort es) (λ m. IsShort es × IsMeasure es m.span m.align × IsClose m.span)

-- the measure of a tree, where it and each subtree are short
abbrev pub IsMeasured : Tree → Option Measure → Type 0
IsMeasured tree result = MatchOption result (¬ AreShort tree) (λ m. AreShort tree × IsMeasure (flat tree) m.span m.align × IsClose m.span)
