use Rattle.std.specs.Prelude.{ℕ, ◌+◌, ◌*◌, ◌/◌, List}
use Rattle.std.specs.Global.{Vec}
use Rattle.dt_map.specs.declared.entry.Entry.{Entry}
use Rattle.dt_alike.specs.Blocks.{AreAlike, AreEven, AreStacked}
use Rattle.dt_tree.specs.Weights.{Weights}
use Rattle.dt_normal.specs.Splits.{IsBlockLength}
use Rattle.dt_check.specs.declared.blocks.Split.{Split}
use Rattle.dt_check.specs.declared.blocks.Split.TheVariants.{Alike, Even, Stacked}
use Rattle.dt_check.specs.Rows.{table_in}

-- how so many blocks of one length stand, from a place on
abbrev pub Stand : Split → List Entry → ℕ → ℕ → ℕ → Type 0
Stand Alike m start block count = AreAlike m start block count
Stand Even m start block count = AreEven m start block count
Stand Stacked m start block count = AreStacked m start block count

-- a segment is two or more blocks that stand so
abbrev pub IsSplit : Split → List Entry → ℕ → ℕ → ℕ → Type 0
IsSplit split m start len block = IsBlockLength len block × Stand split m start block (len / block)

-- what a node over so many blocks costs, where a block costs so much
abbrev pub node_cost : Weights → Split → ℕ → ℕ → ℕ
node_cost w Alike count block = w.index + w.place * count + block
node_cost w Even count block = w.vector + block
node_cost w Stacked count block = block

-- the cost of a node over the blocks that a segment is split into
abbrev pub split_cost : Weights → Split → List (Vec ℕ) → ℕ → ℕ → ℕ → ℕ
split_cost w split costs start len block = node_cost w split (len / block) (table_in costs start block)
