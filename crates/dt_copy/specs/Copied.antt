-- Elements that are copied from one buffer to another.
use Rattle.std.specs.Prelude.{ℕ, nat_abs, List, [], ◌∷◌, map}
use Rattle.dt_kinds.specs.declared.kind.Kind.{Kind}
use Rattle.dt_map.specs.declared.entry.Entry.{Entry}
use Rattle.dt_map.specs.Packed.{bytes_at}
use Rattle.dt_map.specs.Setting.{written}

-- the target in which the bytes of each element of es, as they are in the source, are written to the place of the element of fs that
-- has the same number, in the order of the lists; every other byte is as before
abbrev pub copied : List Entry → List Entry → List ℕ → List ℕ → List ℕ
copied [] fs source target = target
copied (e ∷ es) [] source target = target
copied (e ∷ es) (f ∷ fs) source target = copied es fs source (written target (nat_abs f.disp) (bytes_at source e))

-- the type signature of elements: their kinds, in their order (MPI 4.1, section 5.1)
abbrev pub signature : List Entry → List Kind
signature es = map (λ e. e.kind) es
