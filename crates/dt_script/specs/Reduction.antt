-- The words that only reductions have.
use Rattle.std.specs.Prelude.{ℕ, if◌then◌else◌, List, Option, Some, None, codes}
use Rattle.std.specs.Str.{bytes_eq}
use Rattle.dt_script.specs.declared.command.How.{How}
use Rattle.dt_script.specs.declared.command.How.TheVariants.{Halves, Left}
use Rattle.dt_script.specs.declared.command.Op.{Op}
use Rattle.dt_script.specs.declared.command.Op.TheVariants.{Sum, Prod, Min, Max, And, Or, Xor, First, Last}

-- the operation that a word names
abbrev pub op_of : List ℕ → Option Op
op_of word =
    if bytes_eq word (codes "sum") then Some Sum
    else if bytes_eq word (codes "prod") then Some Prod
    else if bytes_eq word (codes "min") then Some Min
    else if bytes_eq word (codes "max") then Some Max
    else if bytes_eq word (codes "and") then Some And
    else if bytes_eq word (codes "or") then Some Or
    else if bytes_eq word (codes "xor") then Some Xor
    else if bytes_eq word (codes "first") then Some First
    else if bytes_eq word (codes "last") then Some Last
    else None

-- the sequence of joins that a word names
abbrev pub how_of : List ℕ → Option How
how_of word =
    if bytes_eq word (codes "halves") then Some Halves
    else if bytes_eq word (codes "left") then Some Left
    else None
