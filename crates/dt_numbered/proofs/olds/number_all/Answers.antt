use Rattle.std.proofs.Common.{◌≡◌, arith, length, length-set, refl, subst, sym, ap, take, ◌∙◌}
use Rattle.std.proofs.lemmas.List.{take_more_set}
use Rattle.std.proofs.Math.Seq.{take-length}
use Rattle.dt_numbered.specs.Numbering.{Numbers, IsUnnumbered}
use Rattle.dt_numbered.specs.Olds.{AreNumbered}
use Rattle.dt_numbered.proofs.Standing.{numbered_more, out_of}
use Rattle.dt_numbered.proofs.olds.number_all.Goals as goal

pub olds-init : goal.olds-init
olds-init c = let long = c.in-Ok.ensures.len in (omega (arith, long), refl)

pub olds-preserved : goal.olds-preserved
olds-preserved c =
    let olds = c.args.olds.now in
    let ns = c.olds.numbers.items in
    let long = c.olds.invariant.0 in
    let inside = c.olds-test.true in
    let n = c.in-Ok-number_one.number in
    let d = c.index-olds-k.result in (
      length-set ns c.olds.k n ∙ long,
      numbered_more c.args.space.now c.olds.space c.number_one.new.space olds ns _ c.olds.k d n inside c.olds.invariant.1
          (subst (λ t. Numbers c.olds.space c.number_one.new.space n t) c.index-olds-k.is c.in-Ok-number_one.ensures) (take_more_set ns c.olds.k n (omega (arith, inside, long))),
    )

pub returns-in-Err-number_one : goal.returns-in-Err-number_one
returns-in-Err-number_one c =
    let olds = c.args.olds.now in
    let inside = c.olds-test.true in
    let k = c.olds.k in
    let refused = c.in-Err-number_one.ensures in
    let all = c.olds.invariant.1 in (
      c.take_back.ensures c.args.space.now (take k olds)
          (subst (λ s. AreNumbered c.args.space.now s (take k olds) (take k c.deref.result.now)) (sym refused.0)
          (subst (λ ns. AreNumbered c.args.space.now c.olds.space (take k olds) (take k ns)) (sym c.deref.ensures.value) all)),
      out_of c.args.space.now c.olds.space olds (take k c.olds.numbers.items) k c.index-olds-k.result c.in-Err-number_one.fault inside all
          (subst (λ t. IsUnnumbered c.olds.space t c.in-Err-number_one.fault) c.index-olds-k.is refused.1),
    )

pub returns : goal.returns
returns c =
    let olds = c.args.olds.now in
    let ns = c.olds.numbers.items in
    let long = c.olds.invariant.0 in
    let end : c.olds.k ≡ length olds = omega (arith, c.olds-test.false) in
    let ended : c.olds.k ≡ length ns = omega (arith, end, long) in
    subst (λ us. AreNumbered c.args.space.now c.olds.space us ns) (ap (λ i. take i olds) end ∙ take-length olds)
    (subst (λ ms. AreNumbered c.args.space.now c.olds.space (take c.olds.k olds) ms) (ap (λ i. take i ns) ended ∙ take-length ns) c.olds.invariant.1)
