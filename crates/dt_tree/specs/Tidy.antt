use Rattle.std.specs.Prelude.{◌≡◌, ◌*◌, ◌≤◌, ℤ, pos, List, [], ◌∷◌, length}
use Rattle.dt_tree.specs.Tree.{Tree, leaf, vector, index, group, Parts, no_parts, part}

-- the first of some places, 0 without places
abbrev pub first_place : List ℤ → ℤ
first_place [] = pos 0
first_place (x ∷ places) = x

-- the displacement of the first part
abbrev pub first_part : Parts → ℤ
first_part no_parts = pos 0
first_part (part block disp child rest) = disp

abbrev pub IsGroup : Tree → Type 0
IsGroup (leaf kind) = ⊥
IsGroup (vector count block stride child) = ⊥
IsGroup (index block places child) = ⊥
IsGroup (group parts) = Unit {0}

-- more than one copy: a part beside others, or a block of at least two
abbrev pub ArePlural : Parts → Type 0
ArePlural no_parts = ⊥
ArePlural (part block disp child no_parts) = 2 ≤ block
ArePlural (part block disp child (part _ _ _ _)) = Unit {0}

-- a tree without needless nodes: each node places at least two copies, and the first one at 0; a vector of one block has no stride; and a
-- struct whose block length is 1 is no part of a struct, since its parts could be
abbrev mutual
  pub IsTidy : Tree → Type 0
  IsTidy (leaf kind) = Unit {0}
  IsTidy (vector count block stride child) = (2 ≤ count * block) × (count ≡ 1 → stride ≡ pos 0) × IsTidy child
  IsTidy (index block places child) = (2 ≤ length places * block) × (first_place places ≡ pos 0) × IsTidy child
  IsTidy (group parts) = ArePlural parts × (first_part parts ≡ pos 0) × AreTidy parts

  pub AreTidy : Parts → Type 0
  AreTidy no_parts = Unit {0}
  AreTidy (part block disp child rest) = (block ≡ 1 → IsGroup child → ⊥) × IsTidy child × AreTidy rest
