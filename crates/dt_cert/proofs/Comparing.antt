-- what a tree places, compared with entries
use Rattle.std.proofs.Common.{◌≡◌, inl, inr, ℕ, ◌+◌, ◌≤◌, ◌<◌, ℤ, ◌+ℤ◌, ◌-ℤ◌, nat_abs, Option, Some, None, IsTrue, ◌↔◌, Bool, List, [], ◌∷◌, length, get_or, slice_get, SFits, to_z, of_z, refl, sym, ap, ◌∙◌, subst, arith, below_more}
use mir.Syntax.{w64}
use Rattle.std.specs.Option.{option_map}
use Rattle.std.proofs.lemmas.Bool.{cases_lt}
use Rattle.std.proofs.lemmas.Int.{ints, to_z-of_z}
use Rattle.std.proofs.lemmas.List.{ext_get_or}
use Rattle.std.proofs.lemmas.Option.{slice_get-map, get_or_from_slice_get, slice_get-get_or, slice_get_within}
use Rattle.dt_kinds.specs.declared.kind.Kind.{Kind}
use Rattle.dt_map.specs.declared.entry.Entry.{Entry}
use Rattle.dt_map.specs.Typemap.{shift, shift_entry}
use Rattle.dt_tree.specs.declared.place.Place.{Place}
use Rattle.dt_tree.specs.Place.{place_of}
use Rattle.dt_tree.specs.Rule.{FollowsRule}
use Rattle.dt_tree.specs.Tree.{Tree, flat}
use Rattle.dt_tree.proofs.Entries.{short_entry}
use Rattle.dt_cert.specs.Judged.{IsFirstDifference}

found : (o : Option Entry) (place : Place) → option_map place_of o ≡ Some place → (e : Entry) × (o ≡ Some e) × (place ≡ place_of e)
found None place h = cc
found (Some e) place h = (e, refl, cc)

pub place_near : (tree : Tree) (k : ℕ) (place : Place) → FollowsRule tree → option_map place_of (slice_get (flat tree) k) ≡ Some place → nat_abs place.disp ≤ 1208925819614629174706176
place_near tree k place rule h =
    let e = found (slice_get (flat tree) k) place h in
    let near = short_entry (flat tree) k e.0 (rule.short tree (inl refl)) (slice_get_within (flat tree) k e.0 e.1) in
    subst (λ (p : Place). nat_abs p.disp ≤ 1208925819614629174706176) (sym e.2) (subst (λ (x : Entry). nat_abs x.disp ≤ 1208925819614629174706176) (get_or_from_slice_get (flat tree) k e.0 e.0 e.1) near)

same_entry_is : (k l : Kind) (d g : ℤ) → k ≡ l → d ≡ g → (let e : Entry = record { kind = k; disp = d } in e) ≡ record { kind = l; disp = g }
same_entry_is k l d g same_kind same_disp = cc

some_is : (e f : Entry) → (let o : Option Entry = Some e in o ≡ Some f) → e ≡ f
some_is e f h = cc

pub entry_found : (b : Bool) (es : List Entry) (base : ℤ) (k : ℕ) (place : Place) (entry : Entry) → option_map place_of (slice_get es k) ≡ Some place
    → IsTrue b ↔ ((place.kind ≡ entry.kind) × (place.disp ≡ entry.disp -ℤ base)) → IsTrue b ↔ (slice_get (shift base es) k ≡ Some entry)
entry_found b es base k place entry h test =
    let e = found (slice_get es k) place h in
    let here : slice_get (shift base es) k ≡ Some (shift_entry base e.0) = slice_get-map (shift_entry base) es k ∙ ap (option_map (shift_entry base)) e.1 in
    let kind : place.kind ≡ e.0.kind = ap (λ (p : Place). p.kind) e.2 in
    let disp : place.disp ≡ e.0.disp = ap (λ (p : Place). p.disp) e.2 in (
      λ yes.
          let is = test.0 yes in
          here ∙ ap (λ (x : Entry). let o : Option Entry = Some x in o) (same_entry_is e.0.kind entry.kind (e.0.disp +ℤ base) entry.disp (sym kind ∙ is.0) (moved e.0.disp place.disp entry.disp base disp is.1)),
      λ at.
          let same : shift_entry base e.0 ≡ entry = some_is (shift_entry base e.0) entry (sym here ∙ at) in
          test.1 (kind ∙ ap (λ (x : Entry). x.kind) same, disp ∙ back_to e.0.disp entry.disp base (ap (λ (x : Entry). x.disp) same)),
    )
  where
    moved : (d p g z : ℤ) → p ≡ d → p ≡ g -ℤ z → d +ℤ z ≡ g
    moved d p g z e f = omega (arith, ints)

    back_to : (d g z : ℤ) → d +ℤ z ≡ g → d ≡ g -ℤ z
    back_to d g z e = omega (arith, ints)

-- the first ones are the same
pub record AreSame (es fs : List Entry) (k : ℕ) : Type 0 where
  pub inside : k ≤ length es
  pub same : (j : ℕ) (d : Entry) → j < k → get_or es j d ≡ get_or fs j d

pub none_same : (es fs : List Entry) → AreSame es fs 0
none_same es fs = record { inside = omega arith; same = λ j d lt. absurd (omega arith) }

pub one_same : (es fs : List Entry) (k : ℕ) (entry : Entry) → AreSame es fs k → k < length fs → entry ≡ get_or fs k entry → slice_get es k ≡ Some entry → AreSame es fs (k + 1)
one_same es fs k entry were lt is at = record {
  inside = omega (arith, slice_get_within es k entry at);
  same = λ j d less. below_more (λ i. get_or es i d ≡ get_or fs i d) k (λ i below. were.same i d below)
      (get_or_from_slice_get es k entry d at ∙ (is ∙ default_of fs k entry d lt)) j less;
}
  where
    default_of : (xs : List Entry) (i : ℕ) (a b : Entry) → i < length xs → get_or xs i a ≡ get_or xs i b
    default_of xs i a b within = some_is (get_or xs i a) (get_or xs i b) (sym (slice_get-get_or xs i a within) ∙ slice_get-get_or xs i b within)

pub differ_here : (es fs : List Entry) (k : ℕ) (entry : Entry) → AreSame es fs k → k < length fs → entry ≡ get_or fs k entry → (slice_get es k ≡ Some entry → ⊥) → IsFirstDifference es fs k
differ_here es fs k entry were lt is not_at = record {
  inside = were.inside;
  other_inside = omega arith;
  before = were.same;
  here = elim (cases_lt k (length es)) [
    | inr from ↦ inl (omega (arith, were.inside), lt)
    | inl within ↦ inr (inr (
      within,
      lt,
      λ d same.
          not_at (slice_get-get_or es k d within ∙ (ap (λ (x : Entry). let o : Option Entry = Some x in o) same ∙ (sym (slice_get-get_or fs k d lt) ∙ (slice_get-get_or fs k entry lt ∙ ap (λ (x : Entry). let o : Option Entry = Some x in o) (sym is))))),
    ))
  ];
}

pub differ_behind : (es fs : List Entry) (k : ℕ) → AreSame es fs k → k ≡ length fs → length fs < length es → IsFirstDifference es fs k
differ_behind es fs k were end more = record {
  inside = were.inside;
  other_inside = omega (arith, end);
  before = were.same;
  here = inr (inl (omega (arith, end), end));
}

pub all_same : (es fs : List Entry) (k : ℕ) → AreSame es fs k → k ≡ length fs → length es ≤ length fs → es ≡ fs
all_same [] [] k were end short = refl
all_same [] (f ∷ fs) k were end short = absurd (omega (arith, end, were.inside))
all_same (e ∷ es) fs k were end short = ext_get_or e (e ∷ es) fs (omega (arith, were.inside, end)) (λ i lt. were.same i e (omega (arith, end, lt)))

-- a base read back from its bits
pub base_again : (base : ℤ) → SFits w64 base → to_z w64 (of_z w64 base) ≡ base
base_again base fits = to_z-of_z w64 base fits
