-- The words that only arrays have.
use Rattle.std.specs.Prelude.{ℕ, ℤ, if◌then◌else◌, List, Option, Some, None, codes}
use Rattle.std.specs.Option.{option_map}
use Rattle.std.specs.Str.{bytes_eq}
use Rattle.dt_form.specs.declared.form.Dist.{Dist}
use Rattle.dt_form.specs.declared.form.Dist.TheVariants.{Block, Cyclic, Whole}
use Rattle.dt_form.specs.declared.form.Order.{Order}
use Rattle.dt_form.specs.declared.form.Order.TheVariants.{C, Fortran}
use Rattle.dt_script.specs.Number.{int_of}

-- the order of indices that a word spells
abbrev pub order_of : List ℕ → Option Order
order_of word =
    if bytes_eq word (codes "c") then Some C
    else if bytes_eq word (codes "fortran") then Some Fortran
    else None

-- how a word has a dimension dealt out
abbrev pub dist_of : List ℕ → Option Dist
dist_of word =
    if bytes_eq word (codes "block") then Some Block
    else if bytes_eq word (codes "cyclic") then Some Cyclic
    else if bytes_eq word (codes "none") then Some Whole
    else None

-- the length of the blocks dealt out, where `-` leaves it to the default
unfoldable pub darg_of : List ℕ → Option (Option ℤ)
darg_of word = if bytes_eq word (codes "-") then Some None else option_map Some (int_of word)
