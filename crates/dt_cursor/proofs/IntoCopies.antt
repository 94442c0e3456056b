-- The search for a packed byte, into a copy of a spot.
use Rattle.std.specs.Prelude.{◌≡◌, Some, ℕ, zero, suc, ◌+◌, ◌*◌, ◌<◌, ◌≤◌, ℤ, ◌+ℤ◌, ◌*ℤ◌, pos, List, [], ◌∷◌, ◌++◌, map, length, take, drop, slice_get}
use Rattle.std.proofs.Common.{sym, ap, subst, ◌∙◌, arith, append_assoc, length-append}
use Rattle.std.proofs.lemmas.Grind.{flat_map-append}
use Rattle.std.proofs.lemmas.List.{map-append, length-take-le}
use Rattle.std.proofs.lemmas.Option.{slice_get_within}
use Rattle.std.proofs.Math.Nat.{mul-le-mul_right}
use Rattle.std.proofs.Math.Seq.{split_at}
use Rattle.dt_cursor.specs.declared.frames.Frame.{Frame}
use Rattle.dt_cursor.specs.declared.spots.SpotCopy.{SpotCopy}
use Rattle.dt_cursor.specs.Rounds.{Round, copy_round, copy_rounds, elements_of}
use Rattle.dt_cursor.specs.Search.{IsSought, IsNarrowed, IsCopyAt}
use Rattle.dt_cursor.proofs.Narrowing.{narrowed}
use Rattle.dt_kinds.specs.declared.kind.Rep.{Rep}
use Rattle.dt_layout.specs.Body.{Body, each, meaning, size}
use Rattle.dt_layout.specs.declared.instr.Instr.{Instr}
use Rattle.dt_layout.proofs.Bodies.{size_is_total}
use Rattle.dt_map.specs.declared.entry.Entry.{Entry}
use Rattle.dt_map.specs.Packed.{total}
use Rattle.dt_map.proofs.Copies.{total-append}
use Rattle.dt_map.proofs.Seats.{get_or-below}
use Rattle.dt_offsets.specs.declared.turns.Spot.{Spot}
use Rattle.dt_offsets.specs.Offsets.{below, row_offsets, spot_offsets}
use Rattle.dt_offsets.proofs.Reaches.{length-below, count-row}

module _ (at inside : ℕ) (b : Body) (x : ℤ) where
  copies_total : (rep : Rep) (n : ℕ) (s : Spot) (js : List ℕ) → total rep (elements_of (map (copy_round at inside b x n s) js)) ≡ length js * size rep b
  copies_total rep n s [] = omega arith
  copies_total rep n s (j ∷ js) =
      let here = size_is_total rep b (x +ℤ (s.first +ℤ (pos j *ℤ s.step))) in
      let rest = copies_total rep n s js in
      let both = total-append rep (meaning b (x +ℤ (s.first +ℤ (pos j *ℤ s.step)))) (elements_of (map (copy_round at inside b x n s) js)) in
      omega (arith, here, rest, both)

  -- the rounds are split at a copy of a spot: so many copies stand before it
  record IsSplit (n : ℕ) (spots : List Spot) (number : ℕ) (s : Spot) (copy before : ℕ) : Type 0 where
    gone : List Round
    later : List Round
    split : copy_rounds at inside b x n spots ≡ gone ++ copy_round at inside b x number s copy ∷ later
    many : (rep : Rep) → total rep (elements_of gone) ≡ before * size rep b

  in_first : (n : ℕ) (s : Spot) (spots : List Spot) (copy : ℕ) → copy < s.copies → IsSplit n (s ∷ spots) n s copy copy
  in_first n s spots copy within =
      let all = below s.copies in
      let long = length-below s.copies in
      let there : copy < length all = omega (arith, long, within) in
      let round = copy_round at inside b x n s in
      let parts : all ≡ take copy all ++ copy ∷ drop (suc copy) all = split_at all copy 0 there ∙ ap (λ k. take copy all ++ k ∷ drop (suc copy) all) (get_or-below s.copies copy 0 within) in
      record {
        gone = map round (take copy all);
        later = map round (drop (suc copy) all) ++ copy_rounds at inside b x (n + 1) spots;
        split =
            ap (λ js. map round js ++ copy_rounds at inside b x (n + 1) spots) parts
            ∙ ap (λ rs. rs ++ copy_rounds at inside b x (n + 1) spots) (map-append round (take copy all) (copy ∷ drop (suc copy) all))
            ∙ append_assoc (map round (take copy all)) (round copy ∷ map round (drop (suc copy) all)) (copy_rounds at inside b x (n + 1) spots);
        many = λ rep. copies_total rep n s (take copy all) ∙ ap (λ k. k * size rep b) (length-take-le copy all (omega (arith, there)));
      }

  in_rest : (n : ℕ) (s : Spot) (spots : List Spot) (number : ℕ) (spot : Spot) (copy before : ℕ) → IsSplit (n + 1) spots number spot copy before → IsSplit n (s ∷ spots) number spot copy (s.copies + before)
  in_rest n s spots number spot copy before split =
      let first = map (copy_round at inside b x n s) (below s.copies) in
      record {
        gone = first ++ split.gone;
        later = split.later;
        split = ap (λ rs. first ++ rs) split.split ∙ sym (append_assoc first split.gone (copy_round at inside b x number spot copy ∷ split.later));
        many = λ rep.
            let here = copies_total rep n s (below s.copies) ∙ ap (λ k. k * size rep b) (length-below s.copies) in
            let rest = split.many rep in
            let both = ap (total rep) (flat_map-append (λ (r : Round). meaning r.body r.offset) first split.gone) ∙ total-append rep (elements_of first) (elements_of split.gone) in
            omega (arith, here, rest, both);
      }

  copies_split : (n : ℕ) (spots : List Spot) (i : ℕ) (spot : Spot) (copy : ℕ) → slice_get spots i ≡ Some spot → copy < spot.copies
      → IsSplit n spots (n + i) spot copy (length (spot_offsets (take i spots)) + copy)
  copies_split n [] i spot copy got within = absurd (let less = slice_get_within [] i spot got in omega (arith, less))
  copies_split n (s ∷ spots) zero spot copy got within =
      let same : s ≡ spot = cc in
      let here : n ≡ n + 0 = omega arith in
      let none : copy ≡ 0 + copy = omega arith in
      subst (λ k. IsSplit n (s ∷ spots) (n + 0) spot copy k) none
      (subst (λ k. IsSplit n (s ∷ spots) k spot copy copy) here
      (subst (λ z. IsSplit n (s ∷ spots) n z copy copy) same (in_first n s spots copy (subst (λ (z : Spot). copy < z.copies) (sym same) within))))
  copies_split n (s ∷ spots) (suc i) spot copy got within =
      let rest = copies_split (n + 1) spots i spot copy got within in
      let place : (n + 1) + i ≡ n + suc i = omega arith in
      let more : s.copies + (length (spot_offsets (take i spots)) + copy) ≡ length (spot_offsets (take (suc i) (s ∷ spots))) + copy =
      let e = length-append (row_offsets s.first s.copies s.step) (spot_offsets (take i spots)) in omega (arith, e, count-row s.first s.step s.copies) in
      subst (λ k. IsSplit n (s ∷ spots) (n + suc i) spot copy k) more
      (in_rest n s spots (n + suc i) spot copy _ (subst (λ k. IsSplit (n + 1) spots k spot copy (length (spot_offsets (take i spots)) + copy)) place rest))

pub into_copy : (code : List Instr) (rep : Rep) (frames : List Frame) (at : ℕ) (x : ℤ) (left : ℕ) (es : List Entry) (spots : List Spot) (b : Body) → IsSought code rep frames at x left (each spots b) es
    → (number less : ℕ) (s : SpotCopy) → IsCopyAt spots number s → left ≡ number * size rep b + less → less < size rep b
    → IsNarrowed code rep es left ((copy_round at (at + 1 + length spots) b x s.number s.spot s.copy).frame ∷ frames) (at + 1 + length spots) (x +ℤ (s.spot.first +ℤ (pos s.copy *ℤ s.spot.step))) less
into_copy code rep frames at x left es spots b sought number less s is place small =
    let first : 0 + s.number ≡ s.number = omega arith in
    let split = subst (λ k. IsSplit at (at + 1 + length spots) b x 0 spots k s.spot s.copy (length (spot_offsets (take s.number spots)) + s.copy)) first
    (copies_split at (at + 1 + length spots) b x 0 spots s.number s.spot s.copy is.spot is.copy) in
    let many = split.many rep ∙ ap (λ k. k * size rep b) (sym is.place) in
    narrowed code rep frames at x left es (each spots b) sought split.gone split.later (copy_round at (at + 1 + length spots) b x s.number s.spot s.copy) split.split less (omega (arith, place, many)) small

-- a copy of a spot past all of them
pub past_copies : (rep : Rep) (spots : List Spot) (b : Body) (number left : ℕ) → length (spot_offsets spots) ≤ number → number * size rep b ≤ left → size rep (each spots b) ≤ left
past_copies rep spots b number left past less = let more : length (spot_offsets spots) * size rep b ≤ number * size rep b = mul-le-mul_right (size rep b) past in omega (arith, more, less)
