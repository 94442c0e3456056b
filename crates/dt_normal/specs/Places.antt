use Rattle.std.specs.Prelude.{ℕ, ◌+◌, ◌*◌, ℤ, List, map}
use Rattle.dt_alike.specs.Step.{step_between}
use Rattle.dt_offsets.specs.Offsets.{below}
use Rattle.dt_map.specs.declared.entry.Entry.{Entry}

-- how far so many blocks of one length begin from the first one
abbrev pub places_of : List Entry → ℕ → ℕ → ℕ → List ℤ
places_of m start len count = map (λ k. step_between m start (start + k * len)) (below count)
