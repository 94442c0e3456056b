-- Levels that stand in for others.
use Rattle.std.specs.Prelude.{◌≡◌, ℕ, ◌+◌, ◌^◌, ◌<◌, ℤ, pos, ◌+ℤ◌, ◌*ℤ◌, nat_abs, List, [], ◌∷◌, ◌++◌, map, length, take, get_or}
use Rattle.std.specs.List.{AllByRecursion}
use Rattle.std.proofs.Common.{refl, sym, ap, subst, ◌∙◌, arith, append_assoc, append-nil, length-append}
use Rattle.std.proofs.lemmas.Int.{ints}
use Rattle.std.proofs.lemmas.List.{take_more}
use Rattle.dt_map.specs.declared.entry.Entry.{Entry}
use Rattle.dt_offsets.specs.declared.turns.Turns.{Turns}
use Rattle.dt_offsets.specs.Near.{AreTurns}
use Rattle.dt_offsets.specs.Offsets.{below, sums, turn_offset, turn_offsets, grid_offsets}
use Rattle.dt_offsets.proofs.Lookups.{sums-zero}
use Rattle.dt_offsets.proofs.NearNumbers.{all_append}
use Rattle.dt_type.specs.Listing.{entries_at}
use Rattle.dt_type.proofs.ShapeNumbers.{all_more}
use Rattle.dt_layout.specs.Merging.{AreSame, AreJoined, StandIn}
use Rattle.dt_layout.specs.Written.{GiveOffsets}
use Rattle.dt_layout.proofs.All.{all_split}
use Rattle.dt_layout.proofs.Copies.{copies_of_copies, grid_of_grids}
use Rattle.dt_layout.proofs.Steps.{in_first}

pub stand_same : (ts : List Turns) → AllByRecursion AreTurns ts → StandIn ts ts
stand_same ts are = record { turns = are; same = λ es. refl; few = omega arith; gives = λ us x h. h }

pub stand_more : (a b c : List Turns) → StandIn a b → StandIn b c → StandIn a c
stand_more a b c first second = record {
  turns = second.turns;
  same = λ es. second.same es ∙ first.same es;
  few = let x = first.few in let y = second.few in omega (arith, x, y);
  gives = λ us x h. second.gives us x (first.gives us x h);
}

-- inside of others
gives_inside : (front a b : List Turns) → ((x : ℤ) → GiveOffsets a x → GiveOffsets b x) → (x : ℤ) → GiveOffsets (front ++ a) x → GiveOffsets (front ++ b) x
gives_inside [] a b gives x h = gives x h
gives_inside (t ∷ front) a b gives x h =
    all_more (λ y. nat_abs (x +ℤ y) < 2 ^ 63 × GiveOffsets (front ++ a) (x +ℤ y)) (λ y. nat_abs (x +ℤ y) < 2 ^ 63 × GiveOffsets (front ++ b) (x +ℤ y))
    (λ y given. (given.0, gives_inside front a b gives (x +ℤ y) given.1)) (turn_offsets t) h

pub stand_inside : (front a b : List Turns) → AllByRecursion AreTurns front → StandIn a b → StandIn (front ++ a) (front ++ b)
stand_inside front a b are stand = record {
  turns = all_append AreTurns front b are stand.turns;
  same = λ es. grid_of_grids front b es ∙ ap (entries_at (grid_offsets front)) (stand.same es) ∙ sym (grid_of_grids front a es);
  few = let few = stand.few in omega (arith, few, length-append front a, length-append front b);
  gives = λ us x h. subst (λ ts. GiveOffsets ts x) (sym (append_assoc front b us))
      (gives_inside front (a ++ us) (b ++ us) (stand.gives us) x (subst (λ ts. GiveOffsets ts x) (append_assoc front a us) h));
}

-- around others
pub stand_around : (a b us : List Turns) → StandIn a b → AllByRecursion AreTurns us → StandIn (a ++ us) (b ++ us)
stand_around a b us stand are = record {
  turns = all_append AreTurns b us stand.turns are;
  same = λ es. grid_of_grids b us es ∙ stand.same (entries_at (grid_offsets us) es) ∙ sym (grid_of_grids a us es);
  few = let few = stand.few in omega (arith, few, length-append a us, length-append b us);
  gives = λ vs x h. subst (λ ts. GiveOffsets ts x) (sym (append_assoc b us vs)) (stand.gives (us ++ vs) x (subst (λ ts. GiveOffsets ts x) (append_assoc a us vs) h));
}

-- the same turns
copies_of_one : (t : Turns) (es : List Entry) → entries_at (grid_offsets (t ∷ [])) es ≡ entries_at (turn_offsets t) es
copies_of_one t es = ap (λ ys. entries_at ys es) (sums-zero (turn_offsets t))

pub stand_evened : (t u : Turns) → AreSame t u → StandIn (t ∷ []) (u ∷ [])
stand_evened t u are = record {
  turns = (are.turns, tt);
  same = λ es. copies_of_one u es ∙ ap (λ ys. entries_at ys es) are.same ∙ sym (copies_of_one t es);
  few = omega arith;
  gives = λ us x h. subst (AllByRecursion (λ y. nat_abs (x +ℤ y) < 2 ^ 63 × GiveOffsets us (x +ℤ y))) (sym are.same) h;
}

-- one turn that goes nowhere
pub stand_idle : (t : Turns) → turn_offsets t ≡ pos 0 ∷ [] → StandIn (t ∷ []) []
stand_idle t is = record {
  turns = tt;
  same = λ es. sym (copies_of_one t es ∙ ap (λ ys. entries_at ys es) is);
  few = omega arith;
  gives = λ us x h.
      let all = subst (AllByRecursion (λ y. nat_abs (x +ℤ y) < 2 ^ 63 × GiveOffsets us (x +ℤ y))) is h in
      let same : x +ℤ pos 0 ≡ x = omega (arith, ints) in
      subst (GiveOffsets us) same all.0.1;
}

pub idle_turns : (t : Turns) → AreTurns t → t.count ≡ 1 → t.first ≡ pos 0 → turn_offsets t ≡ pos 0 ∷ []
idle_turns t are count first =
    let least = are.least in
    let still : t.first +ℤ (pos 0 *ℤ t.step) ≡ t.first = omega (arith, ints) in
    ap (λ n. map (turn_offset t) (below n)) count ∙ ap (λ z. z ∷ []) (in_first t 0 (omega (arith, least)) ∙ still ∙ first)

-- one level for two
all_of_sums : (P : ℤ → Type 0) (xs ys : List ℤ) → AllByRecursion (λ x. AllByRecursion (λ y. P (x +ℤ y)) ys) xs → AllByRecursion P (sums xs ys)
all_of_sums P [] ys h = tt
all_of_sums P (x ∷ xs) ys h = all_append P (map (λ y. x +ℤ y) ys) (sums xs ys) (moved ys h.0) (all_of_sums P xs ys h.1)
  where
    moved : (ys : List ℤ) → AllByRecursion (λ y. P (x +ℤ y)) ys → AllByRecursion P (map (λ y. x +ℤ y) ys)
    moved [] h = tt
    moved (y ∷ ys) h = (h.0, moved ys h.1)

pub stand_joined : (o u t : Turns) → AreJoined o u t → StandIn (o ∷ u ∷ []) (t ∷ [])
stand_joined o u t are = record {
  turns = (are.turns, tt);
  same = λ es.
      copies_of_one t es ∙ ap (λ ys. entries_at ys es) are.sums ∙ sym (copies_of_copies (turn_offsets o) (turn_offsets u) es)
      ∙ ap (entries_at (turn_offsets o)) (sym (copies_of_one u es)) ∙ copies_of_copies (turn_offsets o) (grid_offsets (u ∷ [])) es;
  few = omega arith;
  gives = λ us x h.
      subst (AllByRecursion (λ y. nat_abs (x +ℤ y) < 2 ^ 63 × GiveOffsets us (x +ℤ y))) (sym are.sums)
      (all_of_sums (λ y. nat_abs (x +ℤ y) < 2 ^ 63 × GiveOffsets us (x +ℤ y)) (turn_offsets o) (turn_offsets u)
      (all_more (λ y. nat_abs (x +ℤ y) < 2 ^ 63 × AllByRecursion (λ z. nat_abs ((x +ℤ y) +ℤ z) < 2 ^ 63 × GiveOffsets us ((x +ℤ y) +ℤ z)) (turn_offsets u))
      (λ y. AllByRecursion (λ z. nat_abs (x +ℤ (y +ℤ z)) < 2 ^ 63 × GiveOffsets us (x +ℤ (y +ℤ z))) (turn_offsets u))
      (λ y given. all_more (λ z. nat_abs ((x +ℤ y) +ℤ z) < 2 ^ 63 × GiveOffsets us ((x +ℤ y) +ℤ z)) (λ z. nat_abs (x +ℤ (y +ℤ z)) < 2 ^ 63 × GiveOffsets us (x +ℤ (y +ℤ z)))
      (λ z k. let same : (x +ℤ y) +ℤ z ≡ x +ℤ (y +ℤ z) = omega (arith, ints) in subst (λ w. nat_abs w < 2 ^ 63 × GiveOffsets us w) same k) (turn_offsets u) given.1)
      (turn_offsets o) h));
}

-- one level more after others that end in a last one
module _ (levels front : List Turns) (last t u : Turns) (is : levels ≡ front ++ last ∷ []) (are : AllByRecursion AreTurns levels) (same : AreSame t u) where
  pub stand_pushed : StandIn (levels ++ t ∷ []) ((front ++ last ∷ []) ++ u ∷ [])
  stand_pushed = subst (λ ls. StandIn (levels ++ t ∷ []) (ls ++ u ∷ [])) is (stand_inside levels (t ∷ []) (u ∷ []) are (stand_evened t u same))

  pub stand_one : (one : Turns) → AreJoined last u one → StandIn (levels ++ t ∷ []) (front ++ one ∷ [])
  stand_one one joined =
      let fronts = (all_split AreTurns front (last ∷ []) (subst (AllByRecursion AreTurns) is are)).0 in
      stand_more (levels ++ t ∷ []) ((front ++ last ∷ []) ++ u ∷ []) (front ++ one ∷ []) stand_pushed
      (subst (λ ls. StandIn ls (front ++ one ∷ [])) (sym (append_assoc front (last ∷ []) (u ∷ []))) (stand_inside front (last ∷ u ∷ []) (one ∷ []) fronts (stand_joined last u one joined)))

-- one more of many
pub stand_next : (levels now next turns : List Turns) (i : ℕ) (d : Turns) → i < length turns → AllByRecursion AreTurns turns → AreTurns (get_or turns i d) → StandIn (levels ++ take i turns) now
    → StandIn (now ++ get_or turns i d ∷ []) next → StandIn (levels ++ take (i + 1) turns) next
stand_next levels now next turns i d lt are one before after =
    let more : levels ++ take (i + 1) turns ≡ (levels ++ take i turns) ++ get_or turns i d ∷ [] =
    ap (λ ts. levels ++ ts) (take_more turns i d lt) ∙ sym (append_assoc levels (take i turns) (get_or turns i d ∷ [])) in
    subst (λ ls. StandIn ls next) (sym more)
    (stand_more ((levels ++ take i turns) ++ get_or turns i d ∷ []) (now ++ get_or turns i d ∷ []) next (stand_around (levels ++ take i turns) now (get_or turns i d ∷ []) before (one, tt)) after)

-- a turn that goes nowhere isn't needed
pub stand_none : (levels now : List Turns) (t u : Turns) → levels ≡ now ++ [] → AllByRecursion AreTurns levels → AreSame t u → u.count ≡ 1 → u.first ≡ pos 0 → StandIn (levels ++ t ∷ []) now
stand_none levels now t u is are same count first =
    let all : levels ≡ now = is ∙ append-nil now in
    let here = subst (AllByRecursion AreTurns) all are in
    stand_more (levels ++ t ∷ []) (levels ++ u ∷ []) now (stand_inside levels (t ∷ []) (u ∷ []) are (stand_evened t u same))
    (subst (λ ls. StandIn (ls ++ u ∷ []) now) (sym all)
    (subst (StandIn (now ++ u ∷ [])) (append-nil now) (stand_inside now (u ∷ []) [] here (stand_idle u (idle_turns u same.turns count first)))))

-- the last two as one
pub stand_pair : (levels front now new : List Turns) (outer inner pair : Turns) → levels ≡ front ++ inner ∷ [] → front ≡ now ++ outer ∷ [] → new ≡ now ++ pair ∷ [] → AllByRecursion AreTurns levels → AreJoined outer inner pair
    → StandIn levels new
stand_pair levels front now new outer inner pair is there made are joined =
    let whole : levels ≡ now ++ outer ∷ inner ∷ [] = is ∙ ap (λ ls. ls ++ inner ∷ []) there ∙ append_assoc now (outer ∷ []) (inner ∷ []) in
    let fronts = (all_split AreTurns now (outer ∷ inner ∷ []) (subst (AllByRecursion AreTurns) whole are)).0 in
    subst (StandIn levels) (sym made) (subst (λ ls. StandIn ls (now ++ pair ∷ [])) (sym whole) (stand_inside now (outer ∷ inner ∷ []) (pair ∷ []) fronts (stand_joined outer inner pair joined)))

pub last_turns : (levels front : List Turns) (last : Turns) → levels ≡ front ++ last ∷ [] → AllByRecursion AreTurns levels → AreTurns last
last_turns levels front last is are = (all_split AreTurns front (last ∷ []) (subst (AllByRecursion AreTurns) is are)).1.0
