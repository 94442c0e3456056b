use Rattle.std.proofs.Common.{◌+◌, ◌*◌, ◌-◌, ◌≡◌, ◌+ℤ◌, ◌*ℤ◌, pos, take, drop, sym, ap, ◌∙◌, arith}
use Rattle.std.specs.Prelude.{nat_abs}
use Rattle.std.proofs.lemmas.Int.{to_z-of_z}
use Rattle.std.specs.Int.{w64}
use mir.Val.{to_z, of_z}
use Rattle.dt_map.specs.Setting.{written}
use Rattle.dt_rows.proofs.Stored.{put_more}
use Rattle.dt_rows.proofs.stores.scatter_stores.Goals as goal

pub places-preserved : goal.places-preserved
places-preserved g c =
    let s = g.S.Store in
    let r = s.restored c.args.store.now in
    let w = s.packed c.args.store.now in
    let i = c.places.i in
    let start = to_z w64 (of_z w64 c.args.start) in
    let step = to_z w64 (of_z w64 c.args.step) in
    let at = to_z-of_z w64 c.place.result (record { sfits = c.place.type_inv }) ∙ c.place.ensures in
    let n = c.packed-width.result in
    let bytes = c.args.packed.now in
    let cut : (i * n + n) - i * n ≡ n = omega arith in
    c.store_at.ensures.value
    ∙ ap (λ x. written c.places.buffer (nat_abs x) (r (take ((i * n + n) - i * n) (drop (i * n) bytes)))) at
    ∙ ap (λ k. written c.places.buffer (nat_abs (start +ℤ (pos i *ℤ step))) (r (take k (drop (i * n) bytes)))) cut
    ∙ ap (λ m. written c.places.buffer (nat_abs (start +ℤ (pos i *ℤ step))) (r (take m (drop (i * m) bytes)))) c.packed-width.ensures
    ∙ ap (λ b. written b (nat_abs (start +ℤ (pos i *ℤ step))) (r (take w (drop (i * w) bytes)))) c.places.invariant
    ∙ sym (put_more (λ x b images. written b (nat_abs x) (r (take w images))) w start step i c.args.buffer.now bytes)
