use Rattle.std.proofs.Common.{length, refl, ap, arith}
use Rattle.dt_numbered.proofs.Standing.{numbered_long}
use Rattle.dt_numbered.proofs.listing.contents.Goals as goal

pub put_front-requires-3 : goal.put_front-requires-3
put_front-requires-3 c =
    let slice = ap length c.deref.ensures.value in
    let long = numbered_long _ _ _ _ c.in-Ok-number_all.ensures in
    let olds = ap length c.as_slice.ensures in
    let told = ap (λ l. l.types) c.lengths_of-needed.ensures in
    let fits = (c.if-not-fit.ensures.0 refl).2 in
    omega (arith, slice, long, olds, told, fits)
