use Rattle.std.proofs.Common.{refl, ap}
use Rattle.dt_type.specs.Datatype.{entries_of}
use Rattle.dt_machine.proofs.Widths.{by_span, by_end, end_of}
use Rattle.dt_machine.proofs.trees.is_too_wide.Goals as goal

pub returns-then-span-clause-wide : goal.returns-then-span-clause-wide
returns-then-span-clause-wide c =
    let b = c.bounds-bounds.result in
    let is = c.bounds-bounds.ensures.value in
    let r = c.bounds-bounds.ensures.in_range in (
      λ _. by_span (entries_of c.args.ty.now) b (ap (λ b. b.true_lb) is) (ap (λ b. b.true_ub) is) (ap (λ b. b.align) is) r.true_lb r.true_ub c.from.result c.from-2.result
          c.from.ensures c.from-2.ensures c.if-span.true,
      λ _. refl,
    )

pub returns-clause-wide : goal.returns-clause-wide
returns-clause-wide c =
    let b = c.bounds-bounds.result in
    let is = c.bounds-bounds.ensures.value in
    let r = c.bounds-bounds.ensures.in_range in
    let low = ap (λ b. b.true_lb) is in
    let high = ap (λ b. b.true_ub) is in
    let align = ap (λ b. b.align) is in
    let es = entries_of c.args.ty.now in (
      by_end es b low high align r.true_lb r.true_ub c.from.result c.from-2.result c.from.ensures c.from-2.ensures c.if-span.false c.natural_end.result c.natural_end.ensures,
      end_of es b low high align r.true_lb r.true_ub c.from.result c.from-2.result c.from.ensures c.from-2.ensures c.if-span.false c.natural_end.result c.natural_end.ensures,
    )
