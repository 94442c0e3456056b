-- worked examples of trees, costs and tables
use Rattle.std.proofs.Common.{◌≡◌, ℕ, pos, List, [], ◌∷◌, refl, arith}
use Rattle.dt_kinds.specs.declared.kind.Kind.TheVariants.{Byte, Int}
use Rattle.dt_map.specs.declared.entry.Entry.{Entry}
use Rattle.dt_tree.specs.Tree.{Tree, leaf, vector, group, no_parts, part, flat}
use Rattle.dt_tree.specs.Cost.{cost_of}
use Rattle.dt_tree.specs.Weights.{Weights, default_weights}
use Rattle.dt_normal.specs.Table.{Table, IsValid, least_run}
use Rattle.dt_normal.proofs.Bounds.{too_high_is_not_valid}

abbrev int_at : ℕ → Entry
int_at x = record { kind = Int; disp = pos x }

abbrev byte_at : ℕ → Entry
byte_at x = record { kind = Byte; disp = pos x }

-- two integers and a byte behind them: a block of two and one of one
abbrev pairs_and_byte : Tree
pairs_and_byte = group (part 2 (pos 0) (leaf Int) (part 1 (pos 20) (leaf Byte) no_parts))

struct_places : flat pairs_and_byte ≡ int_at 0 ∷ int_at 4 ∷ byte_at 20 ∷ []
struct_places = refl

struct_costs : cost_of default_weights pairs_and_byte ≡ 8
struct_costs = refl

-- three blocks of two integers, 100 bytes apart: one vector, by its block length
abbrev blocks : Tree
blocks = vector 3 2 (pos 100) (leaf Int)

blocks_place : flat blocks ≡ int_at 0 ∷ int_at 4 ∷ int_at 100 ∷ int_at 104 ∷ int_at 200 ∷ int_at 204 ∷ []
blocks_place = refl

blocks_cost : cost_of default_weights blocks ≡ 4
blocks_cost = refl

-- a table that says 0 of each segment is valid
abbrev nothing : Table
nothing start len = 0

zeros_are_valid : (w : Weights) (m : List Entry) → IsValid w m nothing
zeros_are_valid w m = record {
  leaf = λ start inside. omega arith;
  cuts = λ start len cut inside some whole. omega arith;
  alike = λ start len block count inside whole same. omega arith;
  even = λ start len block count step inside whole same rise. omega arith;
}

-- three integers, 8 bytes apart. A tree for the first two costs 4, so a table that says 5 of them isn't valid, and likewise of all three
abbrev column : List Entry
column = int_at 0 ∷ int_at 8 ∷ int_at 16 ∷ []

two_too_high : (low : Table) → low 0 2 ≡ 5 → IsValid default_weights column low → ⊥
two_too_high low high = too_high_is_not_valid default_weights column low 0 2 (pos 0) (vector 2 1 (pos 8) (leaf Int)) (omega arith, omega arith) ((omega arith, omega arith, tt), refl) (omega (arith, high))

three_too_high : (low : Table) → low 0 3 ≡ 5 → IsValid default_weights column low → ⊥
three_too_high low high = too_high_is_not_valid default_weights column low 0 3 (pos 0) (vector 3 1 (pos 8) (leaf Int)) (omega arith, omega arith) ((omega arith, omega arith, tt), refl) (omega (arith, high))

-- the least run of two integers side by side is the value of one of them, and of two further apart their own
abbrev by_length : Table
by_length start len = len

side_by_side : least_run (int_at 0 ∷ int_at 4 ∷ []) by_length 0 2 ≡ 1
side_by_side = refl

apart : least_run (int_at 0 ∷ int_at 8 ∷ []) by_length 0 2 ≡ 2
apart = refl
