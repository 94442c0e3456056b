use Rattle.std.specs.Prelude.{◌≡◌, ℕ, ◌+◌, ◌^◌, ◌<◌, ◌≤◌, ◌+ℤ◌, ℤ, pos, nat_abs, List, [], ◌∷◌, ◌++◌, map, length}
use Rattle.std.specs.List.{AllByRecursion}
use Rattle.dt_kinds.specs.declared.kind.Rep.TheVariants.{Native}
use Rattle.dt_layout.specs.Body.{Body, one, loop, each, seq, Parts, no_parts, part, meaning, size, sizes_of, width, widths, opened, number_of}
use Rattle.dt_layout.specs.declared.instr.Instr.{Instr}
use Rattle.dt_layout.specs.declared.instr.Instr.TheVariants.{One, Loop, Each, Spot, Seq, End}
use Rattle.dt_map.specs.declared.entry.Entry.{Entry}
use Rattle.dt_offsets.specs.Near.{AreTurns, IsSpot}
use Rattle.dt_offsets.specs.Offsets.{turn_offsets, spot_offsets}

-- the instructions that spell a body from a place on. `next` is the place after the `End` of the body that it goes with
abbrev mutual
  pub spelling : ℕ → Body → List Instr
  spelling at (one kind) = One kind ∷ []
  spelling at (loop turns body) = Loop turns (sizes_of body) (at + (width body + 2)) ∷ (spelling (at + 1) body ++ End ∷ [])
  spelling at (each spots body) =
      Each (length spots) (sizes_of body) (at + (length spots + width body + 2))
      ∷ (map Spot spots ++ (spelling (at + 1 + length spots) body ++ End ∷ []))
  spelling at (seq parts) = Seq (number_of parts) (at + (widths parts + 2)) ∷ (spellings (at + 1) parts ++ End ∷ [])

  pub spellings : ℕ → Parts → List Instr
  spellings at no_parts = []
  spellings at (part turns body parts) =
      (Loop turns (sizes_of body) (at + (width body + 2)) ∷ (spelling (at + 1) body ++ End ∷ []))
      ++ spellings (at + (width body + 2)) parts

-- an offset that a body may be given: any, where the body has no elements
abbrev pub IsOffset : Body → ℤ → Type 0
IsOffset body x = 0 < size Native body → nat_abs x < 2 ^ 63

-- the numbers of a body with an offset, and the offsets that it gives to the bodies in it, are in range
abbrev mutual
  pub IsLawful : Body → ℤ → Type 0
  IsLawful (one kind) x = Unit {0}
  IsLawful (loop turns body) x =
      AreTurns turns × AllByRecursion (λ y. IsOffset body (x +ℤ y) × IsLawful body (x +ℤ y)) (turn_offsets turns)
  IsLawful (each spots body) x =
      AllByRecursion IsSpot spots × AllByRecursion (λ y. IsOffset body (x +ℤ y) × IsLawful body (x +ℤ y)) (spot_offsets spots)
  IsLawful (seq parts) x = AreLawful parts x

  pub AreLawful : Parts → ℤ → Type 0
  AreLawful no_parts x = Unit {0}
  AreLawful (part turns body parts) x =
      (AreTurns turns × AllByRecursion (λ y. IsOffset body (x +ℤ y) × IsLawful body (x +ℤ y)) (turn_offsets turns)) × AreLawful parts x

-- instructions that are the lawful program of a body: they spell it, at most 128 bodies are open at once, numbers and offsets are in
-- range, and so is the number of packed bytes
pub record IsProgram (code : List Instr) (body : Body) : Type 0 where
  pub spelled : code ≡ spelling 0 body
  pub shallow : opened body ≤ 128
  pub lawful : IsLawful body (pos 0)
  pub small : size Native body ≤ 2 ^ 62

-- instructions that are a lawful program
abbrev pub AreProgram : List Instr → Type 0
AreProgram code = (body : Body) × IsProgram code body

-- a program stands for the elements that its body means with offset 0
abbrev pub StandsFor : List Instr → List Entry → Type 0
StandsFor code es = (body : Body) × IsProgram code body × (meaning body (pos 0) ≡ es)
