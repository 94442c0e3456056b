use Rattle.std.proofs.Common.{◌≡◌, ◌+◌, length, take, drop, replicate, refl, length-drop, subst, sym, ap, ◌∙◌, arith}
use Rattle.std.proofs.lemmas.Bool.{false≢true}
use Rattle.std.proofs.lemmas.List.{drop-drop}
use Rattle.dt_copy.specs.Side.{Reader, IsNextStretch, at_byte, onward, kinds_of}
use Rattle.dt_copy.proofs.Alike.{same_more, other_next, next_kind, some_same, none_is_other}
use Rattle.dt_copy.proofs.matching.first_other.Goals as goal

pub stretches-preserved : goal.stretches-preserved
stretches-preserved c =
    let i = c.stretches.invariant in
    let within = i.within in
    let side = c.args.side.now in
    let stretch = c.in-Some.stretch in
    let most = c.in-Some.ensures.most in
    let kind = c.is_same.ensures.0 c.if-is_same.true in
    let sum : (side.position + c.stretches.done) + stretch.bytes ≡ side.position + (c.stretches.done + stretch.bytes) = omega arith in
    let next = subst (λ (r : Reader). IsNextStretch r stretch) i.moved c.in-Some.ensures.next in
    record {
      within = omega (arith, within, most);
      moved = c.in-Some.ensures.passed ∙ ap (λ (r : Reader). onward r stretch.bytes) i.moved ∙ ap (at_byte side) sum;
      same =
          same_more (drop side.position (kinds_of side.elements)) c.args.of.kind c.stretches.done stretch.bytes i.same
          (ap (take stretch.bytes) (drop-drop c.stretches.done side.position (kinds_of side.elements)) ∙ next.kinds ∙ ap (replicate stretch.bytes) kind);
    }

pub returns-in_default-clause-first : goal.returns-in_default-clause-first
returns-in_default-clause-first c =
    let i = c.stretches.invariant in
    let side = c.args.side.now in
    let stretch = c.in-Some.stretch in
    let next = subst (λ (r : Reader). IsNextStretch r stretch) i.moved c.in-Some.ensures.next in
    let ks = drop side.position (kinds_of side.elements) in
    let here = next_kind ks stretch.kind c.stretches.done stretch.bytes next.some (ap (take stretch.bytes) (drop-drop c.stretches.done side.position (kinds_of side.elements)) ∙ next.kinds) in
    other_next ks c.args.of.kind c.stretches.done c.args.of.bytes c.stretches-test.true i.same
    (λ same. false≢true (sym c.if-is_same.false ∙ c.is_same.ensures.1 (some_same stretch.kind c.args.of.kind (sym here ∙ same))))

pub returns-in_default-2-clause-first : goal.returns-in_default-2-clause-first
returns-in_default-2-clause-first c =
    let i = c.stretches.invariant in
    let side = c.args.side.now in
    let ended = sym (ap (λ (r : Reader). r.position) i.moved) ∙ c.in_default.ensures.end.0 refl ∙ ap (λ (r : Reader). length (kinds_of r.elements)) i.moved in
    let ks = drop side.position (kinds_of side.elements) in
    other_next ks c.args.of.kind c.stretches.done c.args.of.bytes c.stretches-test.true i.same
    (none_is_other ks c.stretches.done c.args.of.kind (omega (arith, ended, length-drop side.position (kinds_of side.elements))))
