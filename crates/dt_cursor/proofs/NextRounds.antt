-- The round that comes next.
use mir.Syntax.{w64}
use mir.Val.{to_z, of_z}
use Rattle.std.specs.Prelude.{◌≡◌, Some, ℕ, suc, ◌+◌, ◌*◌, ◌^◌, ◌<◌, ◌≤◌, ◌⊎◌, ℤ, ◌+ℤ◌, ◌*ℤ◌, pos, nat_abs, List, [], ◌∷◌, ◌++◌, map, length, drop, slice_get}
use Rattle.std.proofs.Common.{refl, sym, ap, ◌∙◌, arith, inl, inr, append_assoc, drop-cons}
use Rattle.std.proofs.lemmas.Int.{to_z-of_z, fits_signed_from_abs}
use Rattle.std.proofs.lemmas.List.{drop_all}
use Rattle.std.proofs.lemmas.Grind.{flat_map-append}
use Rattle.std.proofs.lemmas.List.Sums.{sum_by-cons}
use Rattle.std.proofs.lemmas.Option.{slice_get_within, get_or_from_slice_get}
use Rattle.dt_cursor.specs.declared.frames.Frame.{Frame}
use Rattle.dt_cursor.specs.declared.onward.Next.{Next}
use Rattle.dt_cursor.specs.declared.spots.SpotCopy.{SpotCopy}
use Rattle.dt_cursor.specs.Frames.{IsHalfRun}
use Rattle.dt_cursor.specs.Onward.{AreParts, HaveNoCopies, HaveNoElements, IsNextOf, IsPartFrom, IsSpotFrom}
use Rattle.dt_cursor.specs.Rounds.{Round, turn_round, copy_round, copy_rounds, part_round, part_rounds, rounds, elements_of}
use Rattle.dt_cursor.specs.Search.{AreSpots}
use Rattle.dt_cursor.proofs.Halfway.{half_turn, half_copy, half_part, inside_of, part_read, end_read}
use Rattle.dt_cursor.proofs.Reading.{head_of, head_is, loop_here, each_here, spots_here}
use Rattle.dt_cursor.proofs.Running.{is_round, half_run_is_suffix}
use Rattle.dt_kinds.specs.declared.kind.Rep.TheVariants.{Native}
use Rattle.dt_kinds.specs.Kind.{packed_size}
use Rattle.dt_kinds.proofs.Table.{native_size-pos}
use Rattle.dt_layout.specs.Body.{Body, loop, each, seq, Parts, no_parts, one, part, meaning, size, sizes_of, width, widths, number_of}
use Rattle.dt_layout.specs.declared.instr.Instr.{Instr}
use Rattle.dt_layout.specs.declared.instr.Instr.TheVariants as variants
use Rattle.dt_layout.specs.declared.instr.Sizes.{Sizes}
use Rattle.dt_layout.proofs.Bodies.{size_is_total}
use Rattle.dt_map.specs.declared.entry.Entry.{Entry}
use Rattle.dt_map.specs.Packed.{total}
use Rattle.dt_map.proofs.Copies.{total-append}
use Rattle.dt_map.proofs.Seats.{get_or-below}
use Rattle.dt_offsets.specs.declared.turns.Spot.{Spot}
use Rattle.dt_offsets.specs.declared.turns.Turns.{Turns}
use Rattle.dt_offsets.specs.Offsets.{below, turn_offset}
use Rattle.dt_offsets.proofs.Reaches.{length-below}

pub drop_below : (n k : ℕ) → k < n → drop k (below n) ≡ k ∷ drop (suc k) (below n)
drop_below n k within =
    drop-cons (below n) k 0 (omega (arith, within, length-below n)) ∙ ap (λ j. j ∷ drop (suc k) (below n)) (get_or-below n k 0 within)

drop_end : (n k : ℕ) → n ≤ k → drop k (below n) ≡ []
drop_end n k past = drop_all k (below n) (omega (arith, past, length-below n))

-- the offset of a round to come is in range
pub near_next : (code : List Instr) (levels : ℕ) (frame : Frame) (body : Body) (later : List Round) → IsHalfRun code levels frame body later
    → (skipped after : List Round) (next : Round) → later ≡ skipped ++ next ∷ after → 0 < size Native next.body → nat_abs next.offset < 2 ^ 63
near_next code levels frame body later half skipped after next split some =
    let whole = half.split ∙ ap (λ rs. half.gone ++ half.round ∷ rs) split ∙ sym (append_assoc half.gone (half.round ∷ skipped) (next ∷ after)) in
    ((is_round code frame.instr body frame.base half.placed (half.gone ++ half.round ∷ skipped) after next whole).placed some).offset some

-- the offset of a half-run body is in range
pub frame_near : (code : List Instr) (levels : ℕ) (frame : Frame) (body : Body) (later : List Round) → IsHalfRun code levels frame body later → nat_abs frame.base < 2 ^ 63
frame_near code levels frame body later half =
    let round = half.round in
    let whole = ap (total Native) (half_run_is_suffix code levels frame body later half) in
    let first = total-append Native (elements_of half.gone) (meaning round.body round.offset ++ elements_of later) in
    let second = total-append Native (meaning round.body round.offset) (elements_of later) in
    let some = half.some in
    half.placed.offset (omega (arith, whole, first, second, some, size_is_total Native body frame.base, size_is_total Native round.body round.offset))

pub frame_back : (code : List Instr) (levels : ℕ) (frame : Frame) (body : Body) (later : List Round) → IsHalfRun code levels frame body later → to_z w64 (of_z w64 frame.base) ≡ frame.base
frame_back code levels frame body later half = to_z-of_z w64 frame.base (fits_signed_from_abs w64 frame.base (frame_near code levels frame body later half))

abbrev pub next_of : Round → Next
next_of r = record { frame = r.frame; at = r.at; base = r.offset }

pub as_next : (instr turn copy at place : ℕ) (y x z w : ℤ) → at ≡ place → y ≡ x → z ≡ w
    → (let n : Next = record { frame = record { instr = instr; turn = turn; base = y; copy = copy }; at = at; base = z } in n)
    ≡ (let n : Next = record { frame = record { instr = instr; turn = turn; base = x; copy = copy }; at = place; base = w } in n)
as_next instr turn copy at place y x z w a e f =
    ap (λ v. let n : Next = record { frame = record { instr = instr; turn = turn; base = v; copy = copy }; at = at; base = z } in n) e
    ∙ ap (λ v. let n : Next = record { frame = record { instr = instr; turn = turn; base = x; copy = copy }; at = at; base = v } in n) f
    ∙ ap (λ v. let n : Next = record { frame = record { instr = instr; turn = turn; base = x; copy = copy }; at = v; base = w } in n) a

pub as_place : (f : Frame) (x : ℤ) (at place : ℕ) → at ≡ place → (let n : Next = record { frame = f; at = at; base = x } in n) ≡ (let n : Next = record { frame = f; at = place; base = x } in n)
as_place f x at place e = ap (λ v. let n : Next = record { frame = f; at = v; base = x } in n) e

is_next : (later skipped after : List Round) (round : Round) (n : Next) → later ≡ skipped ++ round ∷ after → elements_of skipped ≡ [] → 0 < size Native round.body → n ≡ next_of round → IsNextOf later n
is_next later skipped after round n split nothing some same = record {
  skipped = skipped;
  round = round;
  after = after;
  split = split;
  nothing = nothing;
  some = some;
  frame = ap (λ (m : Next). m.frame) same;
  at = ap (λ (m : Next). m.at) same;
  base = ap (λ (m : Next). m.base) same;
}

-- turns
module _ (code : List Instr) (levels : ℕ) (frame : Frame) (t : Turns) (b : Body) (later : List Round) (half : IsHalfRun code levels frame (loop t b) later) where
  turns_later : frame.turn + 1 < t.count → later ≡ turn_round frame.instr t b frame.base (frame.turn + 1) ∷ map (turn_round frame.instr t b frame.base) (drop (suc (suc frame.turn)) (below t.count))
  turns_later more =
      let is = half_turn code levels frame t b later half in
      let next : suc frame.turn ≡ frame.turn + 1 = omega arith in
      is.to_come ∙ ap (map (turn_round frame.instr t b frame.base)) (drop_below t.count (suc frame.turn) (omega (arith, more)))
      ∙ ap (λ k. turn_round frame.instr t b frame.base k ∷ map (turn_round frame.instr t b frame.base) (drop (suc (suc frame.turn)) (below t.count))) next

  pub turn_near : frame.turn + 1 < t.count → nat_abs (frame.base +ℤ turn_offset t (frame.turn + 1)) < 2 ^ 63
  turn_near more = near_next code levels frame (loop t b) later half [] _ (turn_round frame.instr t b frame.base (frame.turn + 1)) (turns_later more) (half_turn code levels frame t b later half).some

  pub turn_next : (n : Next) → frame.turn + 1 < t.count → n ≡ next_of (turn_round frame.instr t b frame.base (frame.turn + 1)) → IsNextOf later n
  turn_next n more same =
      is_next later [] _ (turn_round frame.instr t b frame.base (frame.turn + 1)) n (turns_later more) refl (half_turn code levels frame t b later half).some same

  pub turn_last : t.count ≤ frame.turn + 1 → elements_of later ≡ []
  turn_last past = ap elements_of ((half_turn code levels frame t b later half).to_come ∙ ap (map (turn_round frame.instr t b frame.base)) (drop_end t.count (suc frame.turn) (omega (arith, past))))

-- copies of spots
no_copies : (spots : List Spot) (i : ℕ) (s : Spot) → slice_get spots i ≡ Some s → (at inside : ℕ) (b : Body) (x : ℤ)
    → copy_rounds at inside b x i (drop i spots) ≡ map (copy_round at inside b x i s) (below s.copies) ++ copy_rounds at inside b x (i + 1) (drop (i + 1) spots)
no_copies spots i s got at inside b x =
    let next : suc i ≡ i + 1 = omega arith in
    ap (copy_rounds at inside b x i) (drop-cons spots i s (slice_get_within spots i s got) ∙ ap (λ z. z ∷ drop (suc i) spots) (get_or_from_slice_get spots i s s got) ∙ ap (λ k. s ∷ drop k spots) next)

pub spot_skipped : (spots : List Spot) (from i : ℕ) (s : Spot) → slice_get spots i ≡ Some s → s.copies ≡ 0 → HaveNoCopies spots from i → HaveNoCopies spots from (i + 1)
spot_skipped spots from i s got zero before at inside b x =
    before at inside b x ∙ no_copies spots i s got at inside b x
    ∙ ap (λ k. map (copy_round at inside b x i s) (below k) ++ copy_rounds at inside b x (i + 1) (drop (i + 1) spots)) zero

module _ (code : List Instr) (levels : ℕ) (frame : Frame) (spots : List Spot) (b : Body) (later : List Round) (half : IsHalfRun code levels frame (each spots b) later) where
  -- the next copy of the same spot
  same_spot : (s : Spot) → slice_get spots frame.turn ≡ Some s → frame.copy + 1 < s.copies
      → later ≡ copy_round frame.instr (inside_of frame spots) b frame.base frame.turn s (frame.copy + 1)
      ∷ (map (copy_round frame.instr (inside_of frame spots) b frame.base frame.turn s) (drop (suc (suc frame.copy)) (below s.copies)) ++ copy_rounds frame.instr (inside_of frame spots) b frame.base (frame.turn + 1) (drop (frame.turn + 1) spots))
  same_spot s got more =
      let is = half_copy code levels frame spots b later half in
      let same : is.spot ≡ s = (let both = sym is.got ∙ got in cc) in
      let next : suc frame.copy ≡ frame.copy + 1 = omega arith in
      let f = copy_round frame.instr (inside_of frame spots) b frame.base frame.turn in
      let rest = copy_rounds frame.instr (inside_of frame spots) b frame.base (frame.turn + 1) (drop (frame.turn + 1) spots) in
      is.to_come ∙ ap (λ (z : Spot). map (f z) (drop (suc frame.copy) (below z.copies)) ++ rest) same
      ∙ ap (λ ks. map (f s) ks ++ rest) (drop_below s.copies (suc frame.copy) (omega (arith, more)))
      ∙ ap (λ k. f s k ∷ (map (f s) (drop (suc (suc frame.copy)) (below s.copies)) ++ rest)) next

  -- past the copies of that spot
  spots_left : (s : Spot) → slice_get spots frame.turn ≡ Some s → s.copies ≤ frame.copy + 1
      → later ≡ copy_rounds frame.instr (inside_of frame spots) b frame.base (frame.turn + 1) (drop (frame.turn + 1) spots)
  spots_left s got past =
      let is = half_copy code levels frame spots b later half in
      let same : is.spot ≡ s = (let both = sym is.got ∙ got in cc) in
      let f = copy_round frame.instr (inside_of frame spots) b frame.base frame.turn in
      let rest = copy_rounds frame.instr (inside_of frame spots) b frame.base (frame.turn + 1) (drop (frame.turn + 1) spots) in
      is.to_come ∙ ap (λ (z : Spot). map (f z) (drop (suc frame.copy) (below z.copies)) ++ rest) same
      ∙ ap (λ ks. map (f s) ks ++ rest) (drop_end s.copies (suc frame.copy) (omega (arith, past)))

  -- the first copy of a spot further on
  other_spot : (s : Spot) → slice_get spots frame.turn ≡ Some s → s.copies ≤ frame.copy + 1 → (n : SpotCopy) → IsSpotFrom spots (frame.turn + 1) n
      → (after : List Round) × (later ≡ copy_round frame.instr (inside_of frame spots) b frame.base n.number n.spot n.copy ∷ after)
  other_spot s got past n is =
      let f = copy_round frame.instr (inside_of frame spots) b frame.base n.number n.spot in
      let rest = copy_rounds frame.instr (inside_of frame spots) b frame.base (n.number + 1) (drop (n.number + 1) spots) in
      let some = is.some in
      let none : drop 0 (below n.spot.copies) ≡ below n.spot.copies = refl in (
        map f (drop 1 (below n.spot.copies)) ++ rest,
        spots_left s got past ∙ is.skipped frame.instr (inside_of frame spots) b frame.base
            ∙ no_copies spots n.number n.spot is.spot frame.instr (inside_of frame spots) b frame.base
            ∙ ap (λ ks. map f ks ++ rest) (drop_below n.spot.copies 0 some)
            ∙ ap (λ k. f k ∷ (map f (drop 1 (below n.spot.copies)) ++ rest)) (sym is.first),
      )

  some_inside : 0 < size Native b
  some_inside = (half_copy code levels frame spots b later half).some

  pub same_near : (s : Spot) → slice_get spots frame.turn ≡ Some s → frame.copy + 1 < s.copies → nat_abs (frame.base +ℤ (s.first +ℤ (pos (frame.copy + 1) *ℤ s.step))) < 2 ^ 63
  same_near s got more =
      near_next code levels frame (each spots b) later half [] _ (copy_round frame.instr (inside_of frame spots) b frame.base frame.turn s (frame.copy + 1)) (same_spot s got more) some_inside

  pub same_next : (s : Spot) → slice_get spots frame.turn ≡ Some s → frame.copy + 1 < s.copies → (n : Next)
      → n ≡ next_of (copy_round frame.instr (inside_of frame spots) b frame.base frame.turn s (frame.copy + 1)) → IsNextOf later n
  same_next s got more n same =
      is_next later [] _ (copy_round frame.instr (inside_of frame spots) b frame.base frame.turn s (frame.copy + 1)) n (same_spot s got more) refl some_inside same

  pub other_near : (s : Spot) → slice_get spots frame.turn ≡ Some s → s.copies ≤ frame.copy + 1 → (n : SpotCopy) → IsSpotFrom spots (frame.turn + 1) n
      → nat_abs (frame.base +ℤ (n.spot.first +ℤ (pos n.copy *ℤ n.spot.step))) < 2 ^ 63
  other_near s got past n is =
      let o = other_spot s got past n is in
      near_next code levels frame (each spots b) later half [] o.0 (copy_round frame.instr (inside_of frame spots) b frame.base n.number n.spot n.copy) o.1 some_inside

  pub other_next : (s : Spot) → slice_get spots frame.turn ≡ Some s → s.copies ≤ frame.copy + 1 → (c : SpotCopy) → IsSpotFrom spots (frame.turn + 1) c → (n : Next)
      → n ≡ next_of (copy_round frame.instr (inside_of frame spots) b frame.base c.number c.spot c.copy) → IsNextOf later n
  other_next s got past c is n same =
      let o = other_spot s got past c is in
      is_next later [] o.0 (copy_round frame.instr (inside_of frame spots) b frame.base c.number c.spot c.copy) n o.1 refl some_inside same

  pub copy_last : (s : Spot) → slice_get spots frame.turn ≡ Some s → s.copies ≤ frame.copy + 1 → (count : ℕ) → length spots ≡ count → HaveNoCopies spots (frame.turn + 1) count → elements_of later ≡ []
  copy_last s got past count long none =
      ap elements_of (spots_left s got past ∙ none frame.instr (inside_of frame spots) b frame.base
      ∙ ap (copy_rounds frame.instr (inside_of frame spots) b frame.base count) (drop_all count spots (omega (arith, long))))

-- parts
no_total : (es : List Entry) → total Native es ≡ 0 → es ≡ []
no_total [] none = refl
no_total (e ∷ es) none = absurd (let more = sum_by-cons (λ (f : Entry). packed_size Native f.kind) e es in omega (arith, more, none, native_size-pos e.kind))

pub part_skipped : (from : ℕ) (parts : Parts) (to : ℕ) (t : Turns) (b : Body) (rest : Parts) → HaveNoElements from parts to (part t b rest) → size Native (loop t b) ≡ 0
    → HaveNoElements from parts (to + (width b + 2)) rest
part_skipped from parts to t b rest before none at x =
    let is = before at x in
    let here = part_round at to t b x in
    let empty : meaning (loop t b) x ≡ [] = no_total (meaning (loop t b) x) (size_is_total Native (loop t b) x ∙ none) in (
      is.0 ++ here ∷ [],
      is.1 ∙ sym (append_assoc is.0 (here ∷ []) (part_rounds at (to + (width b + 2)) rest x)),
      flat_map-append (λ (r : Round). meaning r.body r.offset) is.0 (here ∷ []) ∙ ap (λ es. es ++ elements_of (here ∷ [])) is.2 ∙ ap (λ es. es ++ []) empty,
    )

pub none_skipped : (from : ℕ) (parts : Parts) → HaveNoElements from parts from parts
none_skipped from parts at x = ([], refl, refl)

module _ (code : List Instr) (levels : ℕ) (frame : Frame) (parts : Parts) (later : List Round) (half : IsHalfRun code levels frame (seq parts) later) where
  pub part_next : (place : ℕ) → ((t : Turns) (b : Body) (others : Parts) → AreParts code frame.turn (part t b others) → IsPartFrom (frame.turn + (width b + 2)) others place) → (n : Next)
      → n ≡ (record { frame = record { instr = frame.instr; turn = place; base = frame.base; copy = 0 }; at = place; base = frame.base }) → IsNextOf later n
  part_next place from n same =
      let p = half_part code levels frame parts later half in
      let is = from p.0 p.1 p.2 p.3 in
      let s = is.skipped frame.instr frame.base in
      is_next later s.0 _ (part_round frame.instr place is.turns is.body frame.base) n (p.4 ∙ s.1) s.2 is.some same

  pub part_last : ((t : Turns) (b : Body) (others : Parts) → AreParts code frame.turn (part t b others) → (place : ℕ) × HaveNoElements (frame.turn + (width b + 2)) others place no_parts) → elements_of later ≡ []
  part_last from =
      let p = half_part code levels frame parts later half in
      let is = from p.0 p.1 p.2 p.3 in
      let s = is.1 frame.instr frame.base in
      ap elements_of (p.4 ∙ s.1) ∙ flat_map-append (λ (r : Round). meaning r.body r.offset) s.0 [] ∙ ap (λ es. es ++ []) s.2

-- what is read at parts
module _ (code : List Instr) (place : ℕ) where
  pub parts_within : (parts : Parts) → AreParts code place parts → place < length code
  parts_within no_parts are = slice_get_within code place _ (end_read code place are)
  parts_within (part t b rest) are = slice_get_within code place _ (part_read code place t b rest are)

  -- a loop is read where there is a part, and what is no loop at their end
  pub loop_part : (parts : Parts) → AreParts code place parts → (u : Turns) (sizes : Sizes) (next : ℕ) → slice_get code place ≡ Some (variants.Loop u sizes next)
      → (b : Body) × (rest : Parts) × (parts ≡ part u b rest) × (sizes ≡ sizes_of b) × (next ≡ place + (width b + 2))
  loop_part no_parts are u sizes next got = let both = sym (end_read code place are) ∙ got in cc
  loop_part (part t b rest) are u sizes next got =
      let both = sym (part_read code place t b rest are) ∙ got in
      let same : t ≡ u = cc in
      (b, rest, ap (λ v. part v b rest) same, cc, cc)

  pub parts_end : (parts : Parts) → AreParts code place parts → (i : Instr) → slice_get code place ≡ Some i → ((u : Turns) (sizes : Sizes) (next : ℕ) → i ≡ variants.Loop u sizes next → ⊥) → parts ≡ no_parts
  parts_end no_parts are i got not = refl
  parts_end (part t b rest) are i got not =
      let both = sym (part_read code place t b rest are) ∙ got in
      absurd (not t (sizes_of b) (place + (width b + 2)) cc)

pub product_none : (a b : ℕ) → (0 < a × (b ≤ 0)) ⊎ (a ≤ 0) → a * b ≡ 0
product_none a b none =
    elim none [
      | inl h ↦ (let zero : b ≡ 0 = omega (arith, h.1) in let gone : a * 0 ≡ 0 = omega arith in ap (λ n. a * n) zero ∙ gone)
      | inr h ↦ (let zero : a ≡ 0 = omega (arith, h) in let gone : 0 * b ≡ 0 = omega arith in ap (λ n. n * b) zero ∙ gone)
    ]

pub seq_here : (at : ℕ) (body : Body) (number next : ℕ) → head_of at body ≡ variants.Seq number next → (parts : Parts) × (body ≡ seq parts)
seq_here at (one k) number next e = cc
seq_here at (loop t b) number next e = cc
seq_here at (each spots b) number next e = cc
seq_here at (seq parts) number next e = (parts, refl)

not_other : (at : ℕ) (body : Body) (i : Instr) (x : ℤ) → head_of at body ≡ i → (gone later : List Round) (r : Round) → rounds at body x ≡ gone ++ r ∷ later
    → ((t : Turns) (sizes : Sizes) (next : ℕ) → i ≡ variants.Loop t sizes next → ⊥) → ((count : ℕ) (sizes : Sizes) (next : ℕ) → i ≡ variants.Each count sizes next → ⊥)
    → ((number next : ℕ) → i ≡ variants.Seq number next → ⊥) → ⊥
not_other at (one k) i x e [] later r split not nor nay = cc
not_other at (one k) i x e (g ∷ gone) later r split not nor nay = cc
not_other at (loop t b) i x e gone later r split not nor nay = not t (sizes_of b) (at + (width b + 2)) (sym e)
not_other at (each spots b) i x e gone later r split not nor nay = nor (length spots) (sizes_of b) (at + (length spots + width b + 2)) (sym e)
not_other at (seq parts) i x e gone later r split not nor nay = nay (number_of parts) (at + (widths parts + 2)) (sym e)

-- what a head tells of a half-run body
module _ (code : List Instr) (levels : ℕ) (frame : Frame) (body : Body) (later : List Round) (half : IsHalfRun code levels frame body later) where
  pub half_loop : (t : Turns) (sizes : Sizes) (next : ℕ) → slice_get code frame.instr ≡ Some (variants.Loop t sizes next)
      → (b : Body) × (body ≡ loop t b) × (sizes ≡ sizes_of b) × (next ≡ frame.instr + (width b + 2))
  half_loop t sizes next got = loop_here frame.instr body t sizes next (head_is code frame.instr body frame.base half.placed (variants.Loop t sizes next) got)

  pub half_each : (count : ℕ) (sizes : Sizes) (next : ℕ) → slice_get code frame.instr ≡ Some (variants.Each count sizes next)
      → (spots : List Spot) × (b : Body) × (body ≡ each spots b) × (length spots ≡ count) × (sizes ≡ sizes_of b) × (next ≡ frame.instr + (length spots + width b + 2))
  half_each count sizes next got = each_here frame.instr body count sizes next (head_is code frame.instr body frame.base half.placed (variants.Each count sizes next) got)

  pub half_seq : (number next : ℕ) → slice_get code frame.instr ≡ Some (variants.Seq number next) → (parts : Parts) × (body ≡ seq parts)
  half_seq number next got = seq_here frame.instr body number next (head_is code frame.instr body frame.base half.placed (variants.Seq number next) got)

  -- nothing else is read there
  pub half_read : (i : Instr) → slice_get code frame.instr ≡ Some i
      → ((t : Turns) (sizes : Sizes) (next : ℕ) → i ≡ variants.Loop t sizes next → ⊥) → ((count : ℕ) (sizes : Sizes) (next : ℕ) → i ≡ variants.Each count sizes next → ⊥)
      → ((number next : ℕ) → i ≡ variants.Seq number next → ⊥) → ⊥
  half_read i got = not_other frame.instr body i frame.base (head_is code frame.instr body frame.base half.placed i got) half.gone later half.round half.split

pub half_spots : (code : List Instr) (levels : ℕ) (frame : Frame) (spots : List Spot) (b : Body) (later : List Round) → IsHalfRun code levels frame (each spots b) later → AreSpots code (frame.instr + 1) spots
half_spots code levels frame spots b later half = spots_here code frame.instr spots b frame.base half.placed

-- the spot that is read is the one that a row of spots is in
pub half_got : (code : List Instr) (levels : ℕ) (frame : Frame) (spots : List Spot) (b : Body) (later : List Round) → IsHalfRun code levels frame (each spots b) later
    → (s : Spot) → slice_get code (frame.instr + 1 + frame.turn) ≡ Some (variants.Spot s) → slice_get spots frame.turn ≡ Some s
half_got code levels frame spots b later half s read =
    let is = half_copy code levels frame spots b later half in
    let both = sym (half_spots code levels frame spots b later half frame.turn is.spot is.got) ∙ read in
    let same : is.spot ≡ s = cc in
    is.got ∙ ap Some same
