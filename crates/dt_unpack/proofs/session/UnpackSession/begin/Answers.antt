use Rattle.std.proofs.Common.{ℕ, ℤ, pos, List, [], length, refl, ap, sym, subst, ◌∙◌, arith}
use Rattle.std.proofs.lemmas.Bool.{false≢true}
use Rattle.std.proofs.lemmas.Int.{to_z-of_z}
use Rattle.std.specs.Int.{w64}
use mir.Val.{to_z, of_z}
use Rattle.dt_map.specs.Elements.{elements, are_inside, Overlaps}
use Rattle.dt_map.specs.Packed.{total}
use Rattle.dt_map.specs.Typemap.{shift}
use Rattle.dt_type.specs.Datatype.{typemap_of}
use Rattle.dt_rows.proofs.Operation.{placed_elements}
use Rattle.dt_cursor.specs.Search.{AreHeld}
use Rattle.dt_cursor.specs.Walk.{Walk}
use Rattle.dt_unpack.specs.Session.{Session, opened, walk_of}
use Rattle.dt_unpack.proofs.Opening.{none_held}
use Rattle.dt_unpack.proofs.session.UnpackSession.begin.Goals as goal

pub invariant_of-result : goal.invariant_of-result
invariant_of-result c =
    let m = typemap_of c.args.ty.now in
    let x : ℤ = to_z w64 (of_z w64 c.args.origin) in
    let first = c.in_ok-first_cursor.ensures.value in
    let placed = ap (λ w. shift x w.elements) first ∙ placed_elements m c.args.count x in
    record {
      inside = ap (are_inside c.args.buf_len) placed ∙ sym c.span_inside.ensures ∙ c.if-not-span_inside.false;
      small = c.requires;
      apart = λ over. false≢true (sym c.if-branch.false ∙ c.in_ok-overlaps.ensures.1 (subst Overlaps placed over));
      before = [];
      rest = elements m c.args.count (pos 0);
      between = record {
        all = ap (λ w. w.elements) first;
        place = (let begun = ap (λ w. w.position) first in let none = ap length c.new.ensures in omega (arith, begun, none));
        within = subst (λ h. AreHeld c.in_ok-first_cursor.field-0.rep (length h) (elements m c.args.count (pos 0))) (sym c.new.ensures) (none_held c.in_ok-first_cursor.field-0.rep (elements m c.args.count (pos 0)));
      };
      many = refl;
    }

pub returns-clause-session : goal.returns-clause-session
returns-clause-session c =
    let m = typemap_of c.args.ty.now in
    let x : ℤ = to_z w64 (of_z w64 c.args.origin) in
    let told : Walk → ℤ → ℕ → List ℕ → Session = λ w o one held. record { rep = w.rep; elements = w.elements; origin = o; buf_len = c.args.buf_len; one = one; given = w.position; held = held } in
    let origin = to_z-of_z w64 c.args.origin c.ranges.origin in
    let w : Walk = walk_of (opened m c.args.count c.args.rep c.args.origin c.args.buf_len) in
    ap (λ v. told v x c.copy_size-one.result c.new.result.items) c.in_ok-first_cursor.ensures.value
    ∙ ap (told w x c.copy_size-one.result) c.new.ensures
    ∙ ap (λ n. told w x n []) c.copy_size-one.ensures
    ∙ ap (λ o. told w o (total c.args.rep m.entries) []) origin

pub returns-clause-elements : goal.returns-clause-elements
returns-clause-elements c =
    let m = typemap_of c.args.ty.now in
    let x : ℤ = to_z w64 (of_z w64 c.args.origin) in
    ap (λ w. shift x w.elements) c.in_ok-first_cursor.ensures.value
    ∙ placed_elements m c.args.count x ∙ ap (elements m c.args.count) (to_z-of_z w64 c.args.origin c.ranges.origin)

pub returns-clause-apart : goal.returns-clause-apart
returns-clause-apart c over =
    let m = typemap_of c.args.ty.now in
    let x : ℤ = to_z w64 (of_z w64 c.args.origin) in
    let placed = ap (λ w. shift x w.elements) c.in_ok-first_cursor.ensures.value ∙ placed_elements m c.args.count x in
    false≢true (sym c.if-branch.false ∙ c.in_ok-overlaps.ensures.1 (subst Overlaps placed over))
