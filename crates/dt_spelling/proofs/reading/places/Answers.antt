use Rattle.std.proofs.Common.{◌+◌, ◌-◌, ◌∷◌, [], ◌++◌, ℤ, sym, ap, ◌∙◌, arith}
use Rattle.dt_spelling.specs.Reading.{places_at, with_front, words_from}
use Rattle.dt_spelling.proofs.Steps.{places_step, step_again}
use Rattle.dt_spelling.proofs.reading.places.Goals as goal

pub places-preserved : goal.places-preserved
places-preserved c =
    let step = places_step c.places.places (c.args.number - c.places.counter) (c.args.number - (c.places.counter + 1)) (words_from c.args.text.now c.places.next) (words_from c.args.text.now c.in_ok-place.after) c.in_ok-place.place (omega arith) c.in_ok-place.ensures in
    c.places.invariant ∙ (step ∙ ap (λ ps. with_front ps (places_at (c.args.number - (c.places.counter + 1)) (words_from c.args.text.now c.in_ok-place.after)))
    (ap (λ (y : ℤ). c.places.places ++ y ∷ []) (sym (step_again (words_from c.args.text.now c.places.next) (words_from c.args.text.now c.in_ok-place.after) c.in_ok-place.place c.in_ok-place.ensures)) ∙ sym c.in_ok-push.ensures.ok))
