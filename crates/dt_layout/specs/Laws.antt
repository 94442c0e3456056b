use Rattle.std.specs.Prelude.{◌≡◌, ℕ, ◌^◌, ◌≤◌, ℤ, pos, nat_abs, IsTrue, List}
use Rattle.std.specs.List.{All}
use Rattle.dt_kinds.specs.declared.kind.Rep.{Rep}
use Rattle.dt_layout.specs.Body.{Body, meaning, size}
use Rattle.dt_layout.specs.declared.instr.Instr.{Instr}
use Rattle.dt_layout.specs.Program.{StandsFor}
use Rattle.dt_map.specs.declared.entry.Entry.{Entry}
use Rattle.dt_map.specs.Elements.{elements, are_inside}
use Rattle.dt_map.specs.Limits.{IsInRange}
use Rattle.dt_map.specs.Packed.{total}
use Rattle.dt_map.specs.Typemap.{Marked}

-- the sizes of a body are the packed bytes of its elements, whatever its offset
abbrev pub SizesAreTotals : Type 0
SizesAreTotals = (rep : Rep) (body : Body) (x : ℤ) → total rep (meaning body x) ≡ size rep body

-- elements that lie inside a buffer, from some origin on, are close to 0 without it
abbrev pub InsideIsClose : Type 0
InsideIsClose =
    (m : Marked) (count len : ℕ) (origin : ℤ) → IsInRange m → len ≤ 2 ^ 59 → IsTrue (are_inside len (elements m count origin))
    → All (λ e. nat_abs e.disp ≤ 2 ^ 61) (elements m count (pos 0))

-- a program stands for one list of elements
abbrev pub StandsForOne : Type 0
StandsForOne = (code : List Instr) (es fs : List Entry) → StandsFor code es → StandsFor code fs → es ≡ fs
