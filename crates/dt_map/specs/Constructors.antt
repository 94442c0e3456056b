use Rattle.std.specs.Prelude.{ℤ, List, map}
use Rattle.dt_map.specs.Typemap.{Marked}
use Rattle.dt_map.specs.Placing.{place}

-- copies of one typemap at offsets
abbrev pub copies_at : List ℤ → Marked → Marked
copies_at offsets old = place (map (λ x. (x, old)) offsets)
