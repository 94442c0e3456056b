use Rattle.std.specs.Prelude.{◌⊎◌}
use Rattle.std.proofs.Common.{◌≡◌, ◌*◌, ◌<◌, ◌≤◌, Some, arith, ap, subst, ◌∙◌, sym}
use Rattle.std.proofs.Math.Nat.{mul-pos}
use Rattle.dt_cursor.specs.Onward.{AreParts, HaveNoElements}
use Rattle.dt_cursor.proofs.Halfway.{part_passed}
use Rattle.dt_cursor.proofs.NextRounds.{loop_part, parts_within, part_skipped, none_skipped, parts_end, product_none}
use Rattle.dt_kinds.specs.declared.kind.Rep.TheVariants.{Native}
use Rattle.dt_layout.specs.Body.{size}
use Rattle.dt_layout.specs.declared.instr.Sizes.{Sizes}
use Rattle.dt_cursor.proofs.onward.some_part.Goals as goal

pub parts-init : goal.parts-init
parts-init c = λ parts are. (parts, are, none_skipped c.args.from parts)

pub at-requires : goal.at-requires
at-requires c =
    let r = c.requires in
    let is = c.parts.invariant r.0 r.1 in
    parts_within c.args.program.now c.parts.place is.0 is.1

pub returns-then-sizes-gt0-clause-some : goal.returns-then-sizes-gt0-clause-some
returns-then-sizes-gt0-clause-some c parts are =
    let is = c.parts.invariant parts are in
    let there = loop_part c.args.program.now c.parts.place is.0 is.1 c.in-Loop.turns c.in-Loop.sizes c.in-Loop.next (c.at.ensures ∙ ap Some c.in-Loop.is) in
    let bytes : c.in-Loop.sizes.native ≡ size Native there.0 = ap (λ (s : Sizes). s.native) there.3 in
    record {
      turns = c.in-Loop.turns;
      body = there.0;
      rest = there.1;
      skipped = subst (HaveNoElements c.args.from parts c.parts.place) there.2 is.2;
      some = mul-pos c.if-turns-gt0.true (subst (λ n. 0 < n) bytes c.if-sizes-gt0.true);
    }

pub parts-smaller : goal.parts-smaller
parts-smaller c =
    let r = c.requires in
    let is = c.parts.invariant r.0 r.1 in
    let within = parts_within c.args.program.now c.parts.place is.0 is.1 in
    let there = loop_part c.args.program.now c.parts.place is.0 is.1 c.in-Loop.turns c.in-Loop.sizes c.in-Loop.next (c.at.ensures ∙ ap Some c.in-Loop.is) in
    let next = there.4 in
    omega (arith, within, next)

pub parts-preserved : goal.parts-preserved
parts-preserved c = λ parts are.
    let is = c.parts.invariant parts are in
    let there = loop_part c.args.program.now c.parts.place is.0 is.1 c.in-Loop.turns c.in-Loop.sizes c.in-Loop.next (c.at.ensures ∙ ap Some c.in-Loop.is) in
    let bytes : c.in-Loop.sizes.native ≡ size Native there.0 = ap (λ (s : Sizes). s.native) there.3 in
    let none : c.in-Loop.turns.count * size Native there.0 ≡ 0 = product_none c.in-Loop.turns.count (size Native there.0) (subst (λ n. (0 < c.in-Loop.turns.count × (n ≤ 0)) ⊎ (c.in-Loop.turns.count ≤ 0)) bytes c.else-turns-gt0.either) in (
      there.1,
      subst (λ k. AreParts c.args.program.now k there.1) (sym there.4) (part_passed c.args.program.now c.parts.place c.in-Loop.turns there.0 there.1 (subst (AreParts c.args.program.now c.parts.place) there.2 is.1)),
      subst (λ k. HaveNoElements c.args.from parts k there.1) (sym there.4)
          (part_skipped c.args.from parts c.parts.place c.in-Loop.turns there.0 there.1 (subst (HaveNoElements c.args.from parts c.parts.place) there.2 is.2) none),
    )

pub returns-clause-none : goal.returns-clause-none
returns-clause-none c parts are =
    let is = c.parts.invariant parts are in
    let end = parts_end c.args.program.now c.parts.place is.0 is.1 c.at.result c.at.ensures (λ u sizes next e. c.in_default.not-Loop u sizes next e) in
    (c.parts.place, subst (HaveNoElements c.args.from parts c.parts.place) end is.2)
