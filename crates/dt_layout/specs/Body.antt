use Rattle.std.specs.Prelude.{ℕ, ◌+◌, ◌*◌, max, ◌+ℤ◌, ℤ, List, [], ◌∷◌, ◌++◌, length}
use Rattle.std.specs.List.{flat_map}
use Rattle.dt_kinds.specs.declared.kind.Kind.{Kind}
use Rattle.dt_kinds.specs.declared.kind.Rep.{Rep}
use Rattle.dt_kinds.specs.declared.kind.Rep.TheVariants.{Native, External32}
use Rattle.dt_kinds.specs.Kind.{packed_size}
use Rattle.dt_layout.specs.declared.instr.Sizes.{Sizes}
use Rattle.dt_map.specs.declared.entry.Entry.{Entry}
use Rattle.dt_offsets.specs.declared.turns.Spot.{Spot}
use Rattle.dt_offsets.specs.declared.turns.Turns.{Turns}
use Rattle.dt_offsets.specs.Offsets.{turn_offsets, spot_offsets}

-- The body of a loop program, as a tree: a kind; a body at each of some turns; a body at each copy of some spots; parts in order.
mutual
  pub data Body : Type 0 where
    one : Kind → Body
    loop : Turns → Body → Body
    each : List Spot → Body → Body
    seq : Parts → Body

  -- parts, each a loop
  pub data Parts : Type 0 where
    no_parts : Parts
    part : Turns → Body → Parts → Parts

-- the elements that a body means with an offset
abbrev mutual
  pub meaning : Body → ℤ → List Entry
  meaning (one kind) x = (record { kind = kind; disp = x }) ∷ []
  meaning (loop turns body) x = flat_map (λ y. meaning body (x +ℤ y)) (turn_offsets turns)
  meaning (each spots body) x = flat_map (λ y. meaning body (x +ℤ y)) (spot_offsets spots)
  meaning (seq parts) x = meanings parts x

  pub meanings : Parts → ℤ → List Entry
  meanings no_parts x = []
  meanings (part turns body parts) x = flat_map (λ y. meaning body (x +ℤ y)) (turn_offsets turns) ++ meanings parts x

-- the packed bytes of one run of a body in a representation (law `sizes_are_totals`)
abbrev mutual
  pub size : Rep → Body → ℕ
  size rep (one kind) = packed_size rep kind
  size rep (loop turns body) = turns.count * size rep body
  size rep (each spots body) = length (spot_offsets spots) * size rep body
  size rep (seq parts) = sizes rep parts

  pub sizes : Rep → Parts → ℕ
  sizes rep no_parts = 0
  sizes rep (part turns body parts) = turns.count * size rep body + sizes rep parts

abbrev pub sizes_of : Body → Sizes
sizes_of body = record { native = size Native body; ext = size External32 body }

-- how many instructions spell a body
abbrev mutual
  pub width : Body → ℕ
  width (one kind) = 1
  width (loop turns body) = width body + 2
  width (each spots body) = length spots + width body + 2
  width (seq parts) = widths parts + 2

  pub widths : Parts → ℕ
  widths no_parts = 0
  widths (part turns body parts) = (width body + 2) + widths parts

-- how many loops, rows of spots and sequences are open at once at most
abbrev mutual
  pub opened : Body → ℕ
  opened (one kind) = 0
  opened (loop turns body) = 1 + opened body
  opened (each spots body) = 1 + opened body
  opened (seq parts) = 1 + most_opened parts

  pub most_opened : Parts → ℕ
  most_opened no_parts = 0
  most_opened (part turns body parts) = max (1 + opened body) (most_opened parts)

abbrev pub number_of : Parts → ℕ
number_of no_parts = 0
number_of (part turns body parts) = 1 + number_of parts
