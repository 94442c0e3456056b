-- Rows that follow one another, and what they place.
use Rattle.std.proofs.Common.{◌≡◌, ℕ, ◌+◌, ◌≤◌, ◌<◌, ◌⊎◌, true, Option, Some, None, ℤ, pos, ◌+ℤ◌, ◌-ℤ◌, ◌≤ℤ◌, List, [], ◌∷◌, ◌++◌, take, length, get_or, sym, ap, ◌∙◌, subst, arith, append-nil}
use Rattle.std.specs.List.{AllByRecursion, flat_map}
use Rattle.std.specs.Option.{SomeIff, IfSome, is_some}
use Rattle.std.proofs.lemmas.Grind.{flat_map-append}
use Rattle.std.proofs.lemmas.Int.{ints}
use Rattle.std.proofs.lemmas.List.{take_more}
use Rattle.dt_map.specs.declared.entry.Entry.{Entry}
use Rattle.dt_map.specs.Bounds.{end_of, true_lb, true_ub}
use Rattle.dt_map.specs.Constructors.{copies_at}
use Rattle.dt_map.specs.Typemap.{Marked, shift, shift_entry}
use Rattle.dt_offsets.specs.Offsets.{row_offsets}
use Rattle.dt_offsets.specs.Span.{reach_of}
use Rattle.dt_offsets.proofs.NearNumbers.{all_append}
use Rattle.dt_type.proofs.ShapeNumbers.{all_more}
use Rattle.dt_elems.specs.Apart.{AreApart, AreSpread, Follow, FollowApart}
use Rattle.dt_elems.proofs.Cuts.{entries-copies}
use Rattle.dt_elems.proofs.Spreading.{IsLong, IsBetween, IsWithin, spread_row, between_reach, ordered_reach, reach_none, within_true, apart_placed, apart_behind, spread_behind, all_joined, all_map}

-- answers that may be missing
pub if_some : {X : Type 0} (o : Option X) (P : Type 0) (x : X) (Q : X → Type 0) → SomeIff o P x → Q x → IfSome o Q
if_some None P x Q is q = tt
if_some (Some y) P x Q is q = subst Q (sym is.1) q

pub if_always : {X : Type 0} (o : Option X) (P : Type 0) → P → IfSome o (λ x. P)
if_always None P p = tt
if_always (Some x) P p = p

pub if_more : {X : Type 0} (o : Option X) (P Q : X → Type 0) → ((x : X) → P x → Q x) → IfSome o P → IfSome o Q
if_more None P Q f h = tt
if_more (Some x) P Q f h = f x h

pub if_is : {X : Type 0} (o : Option X) (P : Type 0) → is_some o ≡ true → IfSome o (λ x. P) → P
if_is None P some h = cc
if_is (Some x) P some h = h

-- a row behind a place
pub follow_none : (room next : ℤ) (xs : List ℤ) → reach_of xs ≡ None → Follow room next xs next
follow_none room next xs none = subst (λ ys. Follow room next ys next) (sym (reach_none xs none)) (tt, tt, omega (arith, ints))

pub follow_row : (first step next room low high : ℤ) (n : ℕ) → pos 0 ≤ℤ room → (n ≤ 1) ⊎ IsLong room step → reach_of (row_offsets first n step) ≡ Some (record { lb = low; ub = high }) → next ≤ℤ low
    → Follow room next (row_offsets first n step) (high +ℤ room)
follow_row first step next room low high n some long is behind =
    let ordered = ordered_reach (row_offsets first n step) low high is in (
      spread_row first step n room some long,
      all_more (IsBetween low high) (λ x. (next ≤ℤ x) × ((x +ℤ room) ≤ℤ (high +ℤ room))) (λ x at. let above = at.0 in let below = at.1 in (omega (arith, ints), omega (arith, ints))) (row_offsets first n step) (between_reach (row_offsets first n step) low high is),
      omega (arith, ints),
    )

-- one more row
record Spread (room : ℤ) (xs : List ℤ) (next : ℤ) : Type 0 where
  pub spread : AreSpread room xs
  pub ends : AllByRecursion (λ x. (x +ℤ room) ≤ℤ next) xs

module _ {X : Type 0} (f : X → List ℤ) (rows : List X) (i : ℕ) (x d : X) (lt : i < length rows) (is : x ≡ get_or rows i d) where
  one_more : flat_map f (take (i + 1) rows) ≡ flat_map f (take i rows) ++ f x
  one_more =
      ap (flat_map f) (take_more rows i d lt) ∙ flat_map-append f (take i rows) (get_or rows i d ∷ []) ∙ ap (λ ys. flat_map f (take i rows) ++ ys) (append-nil (f (get_or rows i d)) ∙ ap f (sym is))

  pub spread_more : (room next end : ℤ) → AreSpread room (flat_map f (take i rows)) → AllByRecursion (λ x. (x +ℤ room) ≤ℤ next) (flat_map f (take i rows)) → Follow room next (f x) end
      → AreSpread room (flat_map f (take (i + 1) rows)) × AllByRecursion (λ x. (x +ℤ room) ≤ℤ end) (flat_map f (take (i + 1) rows))
  spread_more room next end spread ends row =
      let before = flat_map f (take i rows) in
      let later = row.2 in (
        subst (AreSpread room) (sym one_more) (spread_behind room next before (f x) spread ends row.0 (all_more (λ y. (next ≤ℤ y) × ((y +ℤ room) ≤ℤ end)) (λ y. next ≤ℤ y) (λ y h. h.0) (f x) row.1)),
        subst (AllByRecursion (λ y. (y +ℤ room) ≤ℤ end)) (sym one_more)
            (all_append (λ y. (y +ℤ room) ≤ℤ end) before (f x) (all_more (λ y. (y +ℤ room) ≤ℤ next) (λ y. (y +ℤ room) ≤ℤ end) (λ y h. omega (arith, ints)) before ends)
            (all_more (λ y. (next ≤ℤ y) × ((y +ℤ room) ≤ℤ end)) (λ y. (y +ℤ room) ≤ℤ end) (λ y h. h.1) (f x) row.1)),
      )

module _ {X : Type 0} (f : X → List Entry) (parts : List X) (i : ℕ) (x d : X) (lt : i < length parts) (is : x ≡ get_or parts i d) where
  one_part : flat_map f (take (i + 1) parts) ≡ flat_map f (take i parts) ++ f x
  one_part =
      ap (flat_map f) (take_more parts i d lt) ∙ flat_map-append f (take i parts) (get_or parts i d ∷ []) ∙ ap (λ ys. flat_map f (take i parts) ++ ys) (append-nil (f (get_or parts i d)) ∙ ap f (sym is))

  pub apart_more : (next end : ℤ) → AreApart (flat_map f (take i parts)) → AllByRecursion (λ (e : Entry). end_of e ≤ℤ next) (flat_map f (take i parts)) → FollowApart next (f x) end
      → AreApart (flat_map f (take (i + 1) parts)) × AllByRecursion (λ (e : Entry). end_of e ≤ℤ end) (flat_map f (take (i + 1) parts))
  apart_more next end apart ends part =
      let before = flat_map f (take i parts) in
      let later = part.2 in (
        subst AreApart (sym one_part) (apart_behind next before (f x) apart ends part.0 (all_more (λ (e : Entry). (next ≤ℤ e.disp) × (end_of e ≤ℤ end)) (λ (e : Entry). next ≤ℤ e.disp) (λ e h. h.0) (f x) part.1)),
        subst (AllByRecursion (λ (e : Entry). end_of e ≤ℤ end)) (sym one_part)
            (all_append (λ (e : Entry). end_of e ≤ℤ end) before (f x) (all_more (λ (e : Entry). end_of e ≤ℤ next) (λ (e : Entry). end_of e ≤ℤ end) (λ e h. omega (arith, ints)) before ends)
            (all_more (λ (e : Entry). (next ≤ℤ e.disp) × (end_of e ≤ℤ end)) (λ (e : Entry). end_of e ≤ℤ end) (λ e h. h.1) (f x) part.1)),
      )

-- what copies place that follow a place
pub follow_placed : (xs : List ℤ) (m : Marked) (next end : ℤ) → let low = true_lb m.entries in let room = true_ub m.entries -ℤ low in
    Follow room (next -ℤ low) xs end → AreApart m.entries → FollowApart next (copies_at xs m).entries (end +ℤ low)
follow_placed xs m next end rows apart =
    let low = true_lb m.entries in
    let high = true_ub m.entries in
    let later = rows.2 in (
      apart_placed xs m apart rows.0,
      subst (AllByRecursion (λ (e : Entry). (next ≤ℤ e.disp) × (end_of e ≤ℤ (end +ℤ low)))) (sym (entries-copies xs m))
          (all_joined (λ (e : Entry). (next ≤ℤ e.disp) × (end_of e ≤ℤ (end +ℤ low))) (λ x. shift x m.entries) xs
          (all_more (λ x. ((next -ℤ low) ≤ℤ x) × ((x +ℤ (high -ℤ low)) ≤ℤ end)) (λ x. AllByRecursion (λ (e : Entry). (next ≤ℤ e.disp) × (end_of e ≤ℤ (end +ℤ low))) (shift x m.entries)) (λ x at.
          all_map (λ (e : Entry). (next ≤ℤ e.disp) × (end_of e ≤ℤ (end +ℤ low))) (shift_entry x) m.entries
          (all_more (IsWithin low high) (λ e. (next ≤ℤ (e.disp +ℤ x)) × (end_of (shift_entry x e) ≤ℤ (end +ℤ low))) (λ e in_bounds.
          placed_at low high next end x e at in_bounds) m.entries (within_true m.entries))) xs rows.1)),
      omega (arith, ints),
    )
  where
    placed_at : (low high next end x : ℤ) (e : Entry) → ((next -ℤ low) ≤ℤ x) × ((x +ℤ (high -ℤ low)) ≤ℤ end) → IsWithin low high e → (next ≤ℤ (e.disp +ℤ x)) × (end_of (shift_entry x e) ≤ℤ (end +ℤ low))
    placed_at low high next end x e at in_bounds = let a = at.0 in let b = at.1 in let c = in_bounds.0 in let d = in_bounds.1 in (omega (arith, ints), omega (arith, ints))
