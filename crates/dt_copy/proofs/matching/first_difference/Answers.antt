use Rattle.std.proofs.Common.{drop, replicate, subst, ap, ◌∙◌, arith}
use Rattle.dt_copy.specs.Matching.{Begins, DifferAt}
use Rattle.dt_copy.specs.Side.{Reader, IsNextStretch, onward, kinds_of}
use Rattle.dt_copy.proofs.Alike.{stretch_same, stretch_differs}
use Rattle.dt_copy.proofs.matching.first_difference.Goals as goal

pub returns-in-Some-first_other-clause-first : goal.returns-in-Some-first_other-clause-first
returns-in-Some-first_other-clause-first c =
    let i = c.stretches.invariant in
    let n = c.stretches.done in
    let stretch = c.in-Some.stretch in
    let next = subst (λ (r : Reader). IsNextStretch r stretch) i.from c.in-Some.ensures.next in
    let xs = kinds_of c.args.from.now.elements in
    let ys = kinds_of c.args.to.now.elements in
    let differ = subst (λ (r : Reader). DifferAt (replicate stretch.bytes stretch.kind) (drop r.position (kinds_of r.elements)) c.in-Some-first_other.same) i.to c.in-Some-first_other.ensures.first in
    stretch_differs xs ys stretch.kind n stretch.bytes i.same next.kinds c.in-Some-first_other.same next.within differ

pub stretches-preserved : goal.stretches-preserved
stretches-preserved c =
    let i = c.stretches.invariant in
    let n = c.stretches.done in
    let stretch = c.in-Some.stretch in
    let next = subst (λ (r : Reader). IsNextStretch r stretch) i.from c.in-Some.ensures.next in
    let within = next.within in
    let xs = kinds_of c.args.from.now.elements in
    let ys = kinds_of c.args.to.now.elements in
    let begins = subst (λ (r : Reader). Begins (replicate stretch.bytes stretch.kind) (drop r.position (kinds_of r.elements))) i.to c.in_default-first_other.ensures.first in
    record {
      within = omega (arith, within);
      from = c.in-Some.ensures.passed ∙ ap (λ (r : Reader). onward r stretch.bytes) i.from;
      to = c.in_default-first_other.ensures.moved ∙ ap (λ (r : Reader). onward r stretch.bytes) i.to;
      same = stretch_same xs ys stretch.kind n stretch.bytes i.same next.kinds begins;
    }
