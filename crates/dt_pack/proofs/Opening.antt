-- What holds of a session as it is opened.
use Rattle.std.proofs.Common.{◌*◌, ◌^◌, ◌≤◌, List, [], ◌∷◌, arith, lit≤}
use Rattle.std.proofs.lemmas.List.Sums.{sum_by-cons}
use Rattle.dt_kinds.specs.declared.kind.Kind.{Kind}
use Rattle.dt_kinds.specs.declared.kind.Kind.TheVariants.{Byte}
use Rattle.dt_kinds.specs.declared.kind.Rep.{Rep}
use Rattle.dt_kinds.specs.declared.kind.Rep.TheVariants.{Native, External32}
use Rattle.dt_kinds.specs.Kind.{native_size, external_size, packed_size}
use Rattle.dt_map.specs.declared.entry.Entry.{Entry}
use Rattle.dt_map.specs.Packed.{total}

-- an element has at most twice as many bytes in memory as in external32
twice_external : (kind : Kind) → native_size kind ≤ 2 * external_size kind
twice_external Byte = lit≤ tt
twice_external _ = lit≤ tt

twice_packed : (rep : Rep) (kind : Kind) → native_size kind ≤ 2 * packed_size rep kind
twice_packed Native kind = omega arith
twice_packed External32 kind = twice_external kind

twice_total : (rep : Rep) (es : List Entry) → total Native es ≤ 2 * total rep es
twice_total rep [] = omega arith
twice_total rep (e ∷ es) =
    let rest = twice_total rep es in
    let here = twice_packed rep e.kind in
    omega (arith, rest, here, sum_by-cons (λ (f : Entry). packed_size Native f.kind) e es, sum_by-cons (λ (f : Entry). packed_size rep f.kind) e es)

pub small_in_memory : (rep : Rep) (es : List Entry) → total rep es ≤ 16777216 → total Native es ≤ 2 ^ 62
small_in_memory rep es few = let most = twice_total rep es in omega (arith, most, few)
