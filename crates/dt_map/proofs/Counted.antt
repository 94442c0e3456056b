-- Each element has 1 to 8 bytes.
use Rattle.std.specs.Prelude.{◌≤◌, List, [], ◌∷◌, length}
use Rattle.std.proofs.Common.{arith}
use Rattle.std.proofs.lemmas.List.Sums.{sum_by-cons}
use Rattle.dt_kinds.specs.Kind.{native_size, external_size}
use Rattle.dt_kinds.proofs.Table.{native_size-pos, external_is_no_larger}
use Rattle.dt_map.specs.declared.entry.Entry.{Entry}
use Rattle.dt_map.specs.Bounds.{size_of, external_size_of}

pub external_fits : (entries : List Entry) → external_size_of entries ≤ size_of entries
external_fits [] = omega arith
external_fits (e ∷ entries) =
    let native = sum_by-cons (λ (x : Entry). native_size x.kind) e entries in
    let external = sum_by-cons (λ (x : Entry). external_size x.kind) e entries in
    omega (arith, external_is_no_larger e.kind, external_fits entries, native, external)

pub elements_fit : (entries : List Entry) → length entries ≤ size_of entries
elements_fit [] = omega arith
elements_fit (e ∷ entries) = omega (arith, native_size-pos e.kind, elements_fit entries, sum_by-cons (λ (x : Entry). native_size x.kind) e entries)
