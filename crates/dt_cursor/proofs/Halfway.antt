-- What is to come of a body that is half run.
use Rattle.std.specs.Prelude.{◌≡◌, Some, ℕ, suc, ◌+◌, ◌<◌, ◌⊎◌, ℤ, List, [], ◌∷◌, ◌++◌, map, length, drop, get_or, slice_get}
use Rattle.std.proofs.Common.{refl, sym, ap, subst, ◌∙◌, arith, inl, inr, append_assoc, length-append}
use Rattle.dt_cursor.specs.declared.frames.Frame.{Frame}
use Rattle.dt_cursor.specs.Frames.{IsHalfRun}
use Rattle.dt_cursor.specs.Onward.{AreParts}
use Rattle.dt_cursor.specs.Rounds.{Round, turn_round, copy_round, copy_rounds, part_round, part_rounds}
use Rattle.dt_cursor.proofs.Reading.{get_seam}
use Rattle.dt_kinds.specs.declared.kind.Rep.TheVariants.{Native}
use Rattle.dt_layout.specs.Body.{Body, loop, each, seq, Parts, no_parts, part, size, sizes_of, width, widths, number_of}
use Rattle.dt_layout.specs.declared.instr.Instr.{Instr}
use Rattle.dt_layout.specs.declared.instr.Instr.TheVariants as variants
use Rattle.dt_layout.specs.Program.{spelling, spellings}
use Rattle.dt_layout.proofs.Bodies.{length-spelling}
use Rattle.dt_map.proofs.Seats.{get_or-below}
use Rattle.dt_offsets.specs.declared.turns.Spot.{Spot}
use Rattle.dt_offsets.specs.declared.turns.Turns.{Turns}
use Rattle.dt_offsets.specs.Offsets.{below}
use Rattle.dt_offsets.proofs.Reaches.{length-below}

-- a list that a map makes, split at a member
map_split : {A B : Type 0} (f : A → B) (xs : List A) (d : A) (gone later : List B) (r : B) → map f xs ≡ gone ++ r ∷ later
    → (length gone < length xs) × (r ≡ f (get_or xs (length gone) d)) × (later ≡ map f (drop (suc (length gone)) xs))
map_split f [] d [] later r e = cc
map_split f [] d (g ∷ gone) later r e = cc
map_split f (x ∷ xs) d [] later r e = (omega arith, cc, cc)
map_split f (x ∷ xs) d (g ∷ gone) later r e =
    let rest = map_split f xs d gone later r cc in
    (omega (arith, rest.0), rest.1, rest.2)

pub below_split : {B : Type 0} (f : ℕ → B) (n : ℕ) (gone later : List B) (r : B) → map f (below n) ≡ gone ++ r ∷ later
    → (length gone < n) × (r ≡ f (length gone)) × (later ≡ map f (drop (suc (length gone)) (below n)))
below_split f n gone later r e =
    let s = map_split f (below n) 0 gone later r e in
    let within : length gone < n = omega (arith, s.0, length-below n) in
    (within, s.1 ∙ ap f (get_or-below n (length gone) 0 within), s.2)

append_split : {A : Type 0} (xs ys gone later : List A) (r : A) → xs ++ ys ≡ gone ++ r ∷ later
    → ((l : List A) × (xs ≡ gone ++ r ∷ l) × (later ≡ l ++ ys)) ⊎ ((g : List A) × (ys ≡ g ++ r ∷ later))
append_split [] ys gone later r e = inr (gone, e)
append_split (x ∷ xs) ys [] later r e = let same : x ≡ r = cc in inl (xs, ap (λ y. y ∷ xs) same, cc)
append_split (x ∷ xs) ys (g ∷ gone) later r e =
    let same : x ≡ g = cc in
    elim (append_split xs ys gone later r cc) [
      | inl h ↦ inl (h.0, ap (λ y. y ∷ xs) same ∙ ap (λ zs. g ∷ zs) h.1, h.2)
      | inr h ↦ inr h
    ]

-- the turn that a loop is in, and those to come
pub record IsTurn (frame : Frame) (t : Turns) (b : Body) (later : List Round) : Type 0 where
  pub within : frame.turn < t.count
  pub to_come : later ≡ map (turn_round frame.instr t b frame.base) (drop (suc frame.turn) (below t.count))
  pub copy : frame.copy ≡ 0
  pub some : 0 < size Native b

pub half_turn : (code : List Instr) (levels : ℕ) (frame : Frame) (t : Turns) (b : Body) (later : List Round) → IsHalfRun code levels frame (loop t b) later → IsTurn frame t b later
half_turn code levels frame t b later half =
    let s = below_split (turn_round frame.instr t b frame.base) t.count half.gone later half.round half.split in
    let turn : length half.gone ≡ frame.turn = ap (λ (r : Round). r.frame.turn) (sym s.1) ∙ ap (λ (f : Frame). f.turn) half.here in
    record {
      within = subst (λ k. k < t.count) turn s.0;
      to_come = subst (λ k. later ≡ map (turn_round frame.instr t b frame.base) (drop (suc k) (below t.count))) turn s.2;
      copy = ap (λ (f : Frame). f.copy) (sym half.here) ∙ ap (λ (r : Round). r.frame.copy) s.1;
      some = subst (λ (r : Round). 0 < size Native r.body) s.1 half.some;
    }

-- the round that a loop is in
pub turn_here : (code : List Instr) (levels : ℕ) (frame : Frame) (t : Turns) (b : Body) (later : List Round) → (half : IsHalfRun code levels frame (loop t b) later)
    → half.round ≡ turn_round frame.instr t b frame.base frame.turn
turn_here code levels frame t b later half =
    let s = below_split (turn_round frame.instr t b frame.base) t.count half.gone later half.round half.split in
    let turn : length half.gone ≡ frame.turn = ap (λ (r : Round). r.frame.turn) (sym s.1) ∙ ap (λ (f : Frame). f.turn) half.here in
    s.1 ∙ ap (turn_round frame.instr t b frame.base) turn

-- the copy that a row of spots is in, and those to come
record IsCopySplit (at inside : ℕ) (b : Body) (x : ℤ) (n : ℕ) (spots : List Spot) (r : Round) (later : List Round) : Type 0 where
  i : ℕ
  spot : Spot
  copy : ℕ
  got : slice_get spots i ≡ Some spot
  within : copy < spot.copies
  round : r ≡ copy_round at inside b x (n + i) spot copy
  to_come : later ≡ map (copy_round at inside b x (n + i) spot) (drop (suc copy) (below spot.copies)) ++ copy_rounds at inside b x (n + i + 1) (drop (suc i) spots)

copy_split : (at inside : ℕ) (b : Body) (x : ℤ) (n : ℕ) (spots : List Spot) (gone later : List Round) (r : Round) → copy_rounds at inside b x n spots ≡ gone ++ r ∷ later
    → IsCopySplit at inside b x n spots r later
copy_split at inside b x n [] [] later r e = cc
copy_split at inside b x n [] (g ∷ gone) later r e = cc
copy_split at inside b x n (s ∷ spots) gone later r e =
    let f = copy_round at inside b x n s in
    let first : n ≡ n + 0 = omega arith in
    elim (append_split (map f (below s.copies)) (copy_rounds at inside b x (n + 1) spots) gone later r e) [
      | inl h ↦
          let is = below_split f s.copies gone h.0 r h.1 in
          record {
            i = 0;
            spot = s;
            copy = length gone;
            got = refl;
            within = is.0;
            round = is.1 ∙ ap (λ k. copy_round at inside b x k s (length gone)) first;
            to_come = h.2 ∙ ap (λ l. l ++ copy_rounds at inside b x (n + 1) spots) is.2
                ∙ ap (λ k. map (copy_round at inside b x k s) (drop (suc (length gone)) (below s.copies)) ++ copy_rounds at inside b x (k + 1) spots) first;
          }
      | inr h ↦
          let is = copy_split at inside b x (n + 1) spots h.0 later r h.1 in
          let there : n + 1 + is.i ≡ n + suc is.i = omega arith in
          record {
            i = suc is.i;
            spot = is.spot;
            copy = is.copy;
            got = is.got;
            within = is.within;
            round = is.round ∙ ap (λ k. copy_round at inside b x k is.spot is.copy) there;
            to_come = is.to_come ∙ ap (λ k. map (copy_round at inside b x k is.spot) (drop (suc is.copy) (below is.spot.copies)) ++ copy_rounds at inside b x (k + 1) (drop (suc is.i) spots)) there;
          }
    ]

abbrev pub inside_of : Frame → List Spot → ℕ
inside_of frame spots = frame.instr + 1 + length spots

pub record IsCopy (frame : Frame) (spots : List Spot) (b : Body) (later : List Round) : Type 0 where
  pub spot : Spot
  pub got : slice_get spots frame.turn ≡ Some spot
  pub within : frame.copy < spot.copies
  pub to_come :
      later
      ≡ map (copy_round frame.instr (inside_of frame spots) b frame.base frame.turn spot) (drop (suc frame.copy) (below spot.copies))
      ++ copy_rounds frame.instr (inside_of frame spots) b frame.base (frame.turn + 1) (drop (frame.turn + 1) spots)
  pub some : 0 < size Native b

pub half_copy : (code : List Instr) (levels : ℕ) (frame : Frame) (spots : List Spot) (b : Body) (later : List Round) → IsHalfRun code levels frame (each spots b) later
    → IsCopy frame spots b later
half_copy code levels frame spots b later half =
    let s = copy_split frame.instr (inside_of frame spots) b frame.base 0 spots half.gone later half.round half.split in
    let turn : s.i ≡ frame.turn = omega (arith, ap (λ (r : Round). r.frame.turn) s.round, ap (λ (f : Frame). f.turn) half.here) in
    let copy : s.copy ≡ frame.copy = ap (λ (r : Round). r.frame.copy) (sym s.round) ∙ ap (λ (f : Frame). f.copy) half.here in
    let zero_more : 0 + s.i ≡ s.i = omega arith in
    let next : suc s.i ≡ s.i + 1 = omega arith in
    record {
      spot = s.spot;
      got = subst (λ k. slice_get spots k ≡ Some s.spot) turn s.got;
      within = subst (λ k. k < s.spot.copies) copy s.within;
      to_come =
          s.to_come
          ∙ ap (λ k. map (copy_round frame.instr (inside_of frame spots) b frame.base k s.spot) (drop (suc s.copy) (below s.spot.copies)) ++ copy_rounds frame.instr (inside_of frame spots) b frame.base (k + 1) (drop (suc s.i) spots)) (zero_more ∙ turn)
          ∙ ap (λ k. map (copy_round frame.instr (inside_of frame spots) b frame.base frame.turn s.spot) (drop (suc k) (below s.spot.copies)) ++ copy_rounds frame.instr (inside_of frame spots) b frame.base (frame.turn + 1) (drop (suc s.i) spots)) copy
          ∙ ap (λ k. map (copy_round frame.instr (inside_of frame spots) b frame.base frame.turn s.spot) (drop (suc frame.copy) (below s.spot.copies)) ++ copy_rounds frame.instr (inside_of frame spots) b frame.base (frame.turn + 1) (drop k spots)) (next ∙ ap (λ k. k + 1) turn);
      some = subst (λ (r : Round). 0 < size Native r.body) s.round half.some;
    }

-- the round that a row of spots is in
pub copy_here : (code : List Instr) (levels : ℕ) (frame : Frame) (spots : List Spot) (b : Body) (later : List Round) → (half : IsHalfRun code levels frame (each spots b) later)
    → (s : Spot) → slice_get spots frame.turn ≡ Some s → half.round ≡ copy_round frame.instr (inside_of frame spots) b frame.base frame.turn s frame.copy
copy_here code levels frame spots b later half spot got =
    let s = copy_split frame.instr (inside_of frame spots) b frame.base 0 spots half.gone later half.round half.split in
    let turn : s.i ≡ frame.turn = omega (arith, ap (λ (r : Round). r.frame.turn) s.round, ap (λ (f : Frame). f.turn) half.here) in
    let copy : s.copy ≡ frame.copy = ap (λ (r : Round). r.frame.copy) (sym s.round) ∙ ap (λ (f : Frame). f.copy) half.here in
    let zero_more : 0 + s.i ≡ s.i = omega arith in
    let read : slice_get spots frame.turn ≡ Some s.spot = subst (λ k. slice_get spots k ≡ Some s.spot) turn s.got in
    let same : s.spot ≡ spot = (let both = sym read ∙ got in cc) in
    s.round ∙ ap (λ k. copy_round frame.instr (inside_of frame spots) b frame.base k s.spot s.copy) (zero_more ∙ turn)
    ∙ ap (λ k. copy_round frame.instr (inside_of frame spots) b frame.base frame.turn s.spot k) copy
    ∙ ap (λ z. copy_round frame.instr (inside_of frame spots) b frame.base frame.turn z frame.copy) same

-- parts at places
module _ (code : List Instr) (place : ℕ) where
  pub part_read : (t : Turns) (b : Body) (rest : Parts) → AreParts code place (part t b rest) → slice_get code place ≡ Some (variants.Loop t (sizes_of b) (place + (width b + 2)))
  part_read t b rest are =
      let next : ℕ = place + (width b + 2) in
      let head = variants.Loop t (sizes_of b) next in
      let more = spelling (place + 1) b ++ variants.End ∷ [] in
      let tail = (more ++ spellings next rest) ++ variants.End ∷ are.after in
      ap (λ c. slice_get c place) are.spelled ∙ ap (slice_get (are.before ++ head ∷ tail)) (sym are.there) ∙ get_seam are.before tail head

  pub end_read : AreParts code place no_parts → slice_get code place ≡ Some variants.End
  end_read are = ap (λ c. slice_get c place) are.spelled ∙ ap (slice_get (are.before ++ variants.End ∷ are.after)) (sym are.there) ∙ get_seam are.before are.after variants.End

  pub part_passed : (t : Turns) (b : Body) (rest : Parts) → AreParts code place (part t b rest) → AreParts code (place + (width b + 2)) rest
  part_passed t b rest are =
      let next : ℕ = place + (width b + 2) in
      let head = spelling place (loop t b) in
      record {
        before = are.before ++ head;
        after = are.after;
        spelled = are.spelled ∙ ap (λ s. are.before ++ s) (append_assoc head (spellings next rest) (variants.End ∷ are.after)) ∙ sym (append_assoc are.before head (spellings next rest ++ variants.End ∷ are.after));
        there = length-append are.before head ∙ (let there = are.there in omega (arith, there, length-spelling place (loop t b)));
      }

pub record IsPart (code : List Instr) (at : ℕ) (x : ℤ) (r : Round) (later : List Round) : Type 0 where
  pub place : ℕ
  pub turns : Turns
  pub body : Body
  pub others : Parts
  pub are : AreParts code place (part turns body others)
  pub round : r ≡ part_round at place turns body x
  pub to_come : later ≡ part_rounds at (place + (width body + 2)) others x

pub part_split : (code : List Instr) (at place : ℕ) (parts : Parts) (x : ℤ) (gone later : List Round) (r : Round) → AreParts code place parts
    → part_rounds at place parts x ≡ gone ++ r ∷ later → IsPart code at x r later
part_split code at place no_parts x [] later r are e = cc
part_split code at place no_parts x (g ∷ gone) later r are e = cc
part_split code at place (part t b rest) x [] later r are e = record { place = place; turns = t; body = b; others = rest; are = are; round = cc; to_come = cc }
part_split code at place (part t b rest) x (g ∷ gone) later r are e =
    part_split code at (place + (width b + 2)) rest x gone later r (part_passed code place t b rest are) cc

pub half_part : (code : List Instr) (levels : ℕ) (frame : Frame) (parts : Parts) (later : List Round) → IsHalfRun code levels frame (seq parts) later
    → (t : Turns) × (b : Body) × (others : Parts) × AreParts code frame.turn (part t b others) × (later ≡ part_rounds frame.instr (frame.turn + (width b + 2)) others frame.base)
half_part code levels frame parts later half =
    let p = half.placed in
    let head = variants.Seq (number_of parts) (frame.instr + (widths parts + 2)) in
    let are : AreParts code (frame.instr + 1) parts = record {
      before = p.before ++ head ∷ [];
      after = p.after;
      spelled =
          p.spelled
          ∙ ap (λ s. p.before ++ head ∷ s) (append_assoc (spellings (frame.instr + 1) parts) (variants.End ∷ []) p.after)
          ∙ sym (append_assoc p.before (head ∷ []) (spellings (frame.instr + 1) parts ++ variants.End ∷ p.after));
      there = length-append p.before (head ∷ []) ∙ ap (λ n. n + 1) p.place;
    } in
    let s = part_split code frame.instr (frame.instr + 1) parts frame.base half.gone later half.round are half.split in
    let there : s.place ≡ frame.turn = ap (λ (r : Round). r.frame.turn) (sym s.round) ∙ ap (λ (f : Frame). f.turn) half.here in (
      s.turns,
      s.body,
      s.others,
      subst (λ k. AreParts code k (part s.turns s.body s.others)) there s.are,
      subst (λ k. later ≡ part_rounds frame.instr (k + (width s.body + 2)) s.others frame.base) there s.to_come,
    )
