use Rattle.std.specs.Prelude.{◌≡◌, ◌⊎◌, ℕ, ◌<◌, ℤ, pos, List, [], ◌∷◌, ◌++◌, length}
use Rattle.dt_kinds.specs.declared.kind.Kind.{Kind}
use Rattle.dt_map.specs.declared.entry.Entry.{Entry}
use Rattle.dt_map.specs.Typemap.{shift}
use Rattle.dt_map.specs.Runs.{placed_at, even, run}

-- Datatype trees, in the language of MPI's constructors with block lengths (MPI 4.1, section 5.1.2). Their numbers have no limits.
mutual
  pub data Tree : Type 0 where
    leaf : Kind → Tree
    vector : (count block : ℕ) (stride : ℤ) → Tree → Tree
    index : (block : ℕ) (places : List ℤ) → Tree → Tree
    group : Parts → Tree

  -- a struct's parts, each a block of copies at a displacement
  pub data Parts : Type 0 where
    no_parts : Parts
    part : (block : ℕ) (disp : ℤ) → Tree → Parts → Parts

-- the entries that a tree places: a vector places blocks of its child's with one stride in bytes (MPI_Type_create_hvector), an index at each
-- of its places (MPI_Type_create_hindexed_block), a group each part's at its displacement (MPI_Type_create_struct)
abbrev mutual
  pub flat : Tree → List Entry
  flat (leaf kind) = (record { kind = kind; disp = pos 0 }) ∷ []
  flat (vector count block stride child) = placed_at (even count stride) (run block (flat child))
  flat (index block places child) = placed_at places (run block (flat child))
  flat (group parts) = flat_parts parts

  pub flat_parts : Parts → List Entry
  flat_parts no_parts = []
  flat_parts (part block disp child rest) = shift disp (run block (flat child)) ++ flat_parts rest

abbrev pub has_part : Parts → Type 0
has_part no_parts = ⊥
has_part (part block disp child rest) = Unit {0}

-- counts and block lengths are at least 1, and lists have at least one member
abbrev mutual
  pub IsTree : Tree → Type 0
  IsTree (leaf kind) = Unit {0}
  IsTree (vector count block stride child) = (0 < count) × (0 < block) × IsTree child
  IsTree (index block places child) = (0 < block) × (0 < length places) × IsTree child
  IsTree (group parts) = has_part parts × AreTrees parts

  pub AreTrees : Parts → Type 0
  AreTrees no_parts = Unit {0}
  AreTrees (part block disp child rest) = (0 < block) × IsTree child × AreTrees rest

-- a tree stands for entries from a base on
abbrev pub Denotes : Tree → ℤ → List Entry → Type 0
Denotes tree base entries = IsTree tree × (shift base (flat tree) ≡ entries)

-- somewhere in a tree a node stands in a block of so many copies
abbrev mutual
  pub IsBlockIn : ℕ → Tree → Tree → Type 0
  IsBlockIn n node (leaf kind) = ⊥
  IsBlockIn n node (vector count block stride child) = ((n ≡ block) × (node ≡ child)) ⊎ IsBlockIn n node child
  IsBlockIn n node (index block places child) = ((n ≡ block) × (node ≡ child)) ⊎ IsBlockIn n node child
  IsBlockIn n node (group parts) = IsBlockAmong n node parts

  pub IsBlockAmong : ℕ → Tree → Parts → Type 0
  IsBlockAmong n node no_parts = ⊥
  IsBlockAmong n node (part block disp child rest) = (((n ≡ block) × (node ≡ child)) ⊎ IsBlockIn n node child) ⊎ IsBlockAmong n node rest

-- a subtree: the tree, or a node somewhere in it
abbrev pub IsWithin : Tree → Tree → Type 0
IsWithin node tree = (node ≡ tree) ⊎ ((n : ℕ) × IsBlockIn n node tree)
