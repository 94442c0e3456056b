-- The search for a packed byte, into a part of a sequence.
use Rattle.std.specs.Prelude.{◌≡◌, Some, ℕ, ◌+◌, ◌-◌, ◌*◌, ◌<◌, ◌≤◌, ℤ, pos, List, [], ◌∷◌, ◌++◌, length, slice_get}
use Rattle.std.proofs.Common.{refl, sym, ap, subst, ◌∙◌, arith, append_assoc, append-nil, length-append}
use Rattle.std.proofs.lemmas.Grind.{flat_map-append}
use Rattle.std.proofs.lemmas.Option.{slice_get_within}
use Rattle.std.proofs.Math.Nat.{mul-le-mul_right}
use Rattle.dt_cursor.specs.declared.frames.Frame.{Frame}
use Rattle.dt_cursor.specs.declared.parts.PartTurn.{PartTurn}
use Rattle.dt_cursor.specs.declared.step.Copied.{Copied}
use Rattle.dt_cursor.specs.Frames.{IsPlaced}
use Rattle.dt_cursor.specs.Rounds.{Round, part_round, part_rounds, elements_of}
use Rattle.dt_cursor.specs.Search.{IsSought, IsTurnSought, PartsStand, IsTurnOfPart, size_in}
use Rattle.dt_cursor.proofs.Narrowing.{IsInRound, in_round, size_is}
use Rattle.dt_cursor.proofs.Placed.{elements_parts}
use Rattle.dt_cursor.proofs.Reading.{get_seam}
use Rattle.dt_kinds.specs.declared.kind.Rep.{Rep}
use Rattle.dt_layout.specs.Body.{Body, loop, seq, Parts, no_parts, part, meaning, size, sizes as sizes_in, sizes_of, width, widths, number_of}
use Rattle.dt_layout.specs.declared.instr.Instr.{Instr}
use Rattle.dt_layout.specs.declared.instr.Instr.TheVariants as variants
use Rattle.dt_layout.specs.declared.instr.Sizes.{Sizes}
use Rattle.dt_layout.specs.Program.{spelling, spellings}
use Rattle.dt_layout.proofs.Bodies.{length-spelling, size_is_total}
use Rattle.dt_map.specs.declared.entry.Entry.{Entry}
use Rattle.dt_map.specs.Packed.{total}
use Rattle.dt_map.proofs.Copies.{total-append}
use Rattle.dt_offsets.specs.declared.turns.Turns.{Turns}

-- a turn that holds the byte that is sought in its loop; the offset was written down and read again
pub turn_sought : (code : List Instr) (rep : Rep) (frames : List Frame) (at : ℕ) (x y : ℤ) (turns : Turns) (turn : Copied) (left size_found : ℕ) (body : Body) (es : List Entry)
    → IsSought code rep frames at x left (loop turns body) es → y ≡ x → size_found ≡ size rep body
    → (turn.number < turns.count) × (left ≡ turn.number * size_found + turn.left) × (turn.left < size_found)
    → IsTurnSought code rep frames at y turns turn left body es
turn_sought code rep frames at x y turns turn left size_found body es sought same is shares =
    subst (λ z. IsTurnSought code rep frames at z turns turn left body es) (sym same) (record {
      sought = sought;
      number = shares.0;
      place = shares.1 ∙ ap (λ n. turn.number * n + turn.left) is;
      within = subst (λ n. turn.left < n) is shares.2;
    })

-- a byte of a turn is one of all the turns
within_turns : (number count size left : ℕ) → number < count → left < size → number * size + left < count * size
within_turns number count size left less small = let rows : (number + 1) * size ≤ count * size = mul-le-mul_right size (omega (arith, less)) in omega (arith, rows, small)

-- the parts of a sequence stand behind its head
parts_stand : (code : List Instr) (parts : Parts) (before after : List Instr) (place : ℕ) → length before ≡ place → code ≡ before ++ (spellings place parts ++ after) → PartsStand code place parts
parts_stand code no_parts before after place there spelled = tt
parts_stand code (part t b parts) before after place there spelled =
    let head = spelling place (loop t b) in
    let next : ℕ = place + (width b + 2) in
    let whole : code ≡ before ++ (head ++ (spellings next parts ++ after)) = spelled ∙ ap (λ s. before ++ s) (append_assoc head (spellings next parts) after) in (
      ap (λ c. slice_get c place) whole ∙ ap (slice_get (before ++ (head ++ (spellings next parts ++ after)))) (sym there)
          ∙ get_seam before ((spelling (place + 1) b ++ variants.End ∷ []) ++ (spellings next parts ++ after)) (variants.Loop t (sizes_of b) next),
      parts_stand code parts (before ++ head) after next (length-append before head ∙ omega (arith, there, length-spelling place (loop t b)))
          (whole ∙ sym (append_assoc before head (spellings next parts ++ after))),
    )

pub parts_here : (code : List Instr) (at : ℕ) (parts : Parts) (x : ℤ) → IsPlaced code at (seq parts) x → PartsStand code (at + 1) parts
parts_here code at parts x p =
    let head = variants.Seq (number_of parts) (at + (widths parts + 2)) in
    let whole : code ≡ (p.before ++ head ∷ []) ++ (spellings (at + 1) parts ++ variants.End ∷ p.after) =
    p.spelled
    ∙ ap (λ s. p.before ++ head ∷ s) (append_assoc (spellings (at + 1) parts) (variants.End ∷ []) p.after)
    ∙ sym (append_assoc p.before (head ∷ []) (spellings (at + 1) parts ++ variants.End ∷ p.after)) in
    parts_stand code parts (p.before ++ head ∷ []) (variants.End ∷ p.after) (at + 1) (length-append p.before (head ∷ []) ∙ ap (λ n. n + 1) p.place) whole

-- some parts were passed, and the rest stand at a place: so many bytes of the rounds remain
pub record ArePassed (rep : Rep) (at first : ℕ) (x : ℤ) (all : Parts) (byte place : ℕ) (rest : Parts) (left : ℕ) : Type 0 where
  pub gone : List Round
  pub split : part_rounds at first all x ≡ gone ++ part_rounds at place rest x
  pub number : byte ≡ total rep (elements_of gone) + left

pub record IsRest (code : List Instr) (rep : Rep) (first : ℕ) (all : Parts) (byte i place left : ℕ) : Type 0 where
  pub rest : Parts
  pub stand : PartsStand code place rest
  pub many : number_of rest + i ≡ number_of all
  pub far : first + i ≤ place
  pub ends : place + widths rest ≡ first + widths all
  pub passed : (at : ℕ) (x : ℤ) → ArePassed rep at first x all byte place rest left

pub rest_at_first : (code : List Instr) (rep : Rep) (first : ℕ) (all : Parts) (byte : ℕ) → PartsStand code first all → IsRest code rep first all byte 0 first byte
rest_at_first code rep first all byte stand = record {
  rest = all;
  stand = stand;
  many = omega arith;
  far = omega arith;
  ends = refl;
  passed = λ at x. record { gone = []; split = refl; number = omega arith };
}

-- the next part
pub record IsPart (code : List Instr) (place : ℕ) (rest : Parts) : Type 0 where
  pub turns : Turns
  pub body : Body
  pub later : Parts
  pub is : rest ≡ part turns body later
  pub here : slice_get code place ≡ Some (variants.Loop turns (sizes_of body) (place + (width body + 2)))
  pub behind : PartsStand code (place + (width body + 2)) later

next_part : (code : List Instr) (place : ℕ) (rest : Parts) → PartsStand code place rest → 0 < number_of rest → IsPart code place rest
next_part code place no_parts stand some = absurd (omega (arith, some))
next_part code place (part t b later) stand some = record { turns = t; body = b; later = later; is = refl; here = stand.0; behind = stand.1 }

module _ (code : List Instr) (rep : Rep) (first : ℕ) (all : Parts) (byte i place left : ℕ) (r : IsRest code rep first all byte i place left) (within : i < number_of all) where
  pub here : IsPart code place r.rest
  here = next_part code place r.rest r.stand (let many = r.many in omega (arith, many, within))

  pub part_within : place < length code
  part_within = slice_get_within code place _ here.here

  pub part_is_loop : (got : Instr) → slice_get code place ≡ Some got → got ≡ variants.Loop here.turns (sizes_of here.body) (place + (width here.body + 2))
  part_is_loop got is = let both = sym is ∙ here.here in cc

  module _ (turns : Turns) (sizes : Sizes) (next : ℕ) (got : slice_get code place ≡ Some (variants.Loop turns sizes next)) where
    same_turns : turns ≡ here.turns
    same_turns = let both = part_is_loop (variants.Loop turns sizes next) got in cc

    same_size : size_in rep sizes ≡ size rep here.body
    same_size = let both : sizes ≡ sizes_of here.body = (let e = part_is_loop (variants.Loop turns sizes next) got in cc) in ap (size_in rep) both ∙ size_is rep here.body

    pub next_is : next ≡ place + (width here.body + 2)
    next_is = let both = part_is_loop (variants.Loop turns sizes next) got in cc

    -- the part is passed
    pub rest_goes_on : turns.count * size_in rep sizes ≤ left → IsRest code rep first all byte (i + 1) next (left - turns.count * size_in rep sizes)
    rest_goes_on more = subst (λ n. IsRest code rep first all byte (i + 1) n (left - turns.count * size_in rep sizes)) (sym next_is) (record {
      rest = here.later;
      stand = here.behind;
      many = let many = r.many in let longer = ap number_of here.is in omega (arith, many, longer);
      far = let far = r.far in omega (arith, far);
      ends = let ends = r.ends in let wider = ap widths here.is in omega (arith, ends, wider);
      passed = λ at x.
          let p = r.passed at x in
          let round = part_round at place here.turns here.body x in
          let split : part_rounds at first all x ≡ p.gone ++ round ∷ part_rounds at (place + (width here.body + 2)) here.later x = p.split ∙ ap (λ ps. p.gone ++ part_rounds at place ps x) here.is in
          let bytes : total rep (elements_of (p.gone ++ round ∷ [])) ≡ total rep (elements_of p.gone) + turns.count * size_in rep sizes =
          ap (total rep) (flat_map-append (λ (q : Round). meaning q.body q.offset) p.gone (round ∷ [])) ∙ total-append rep (elements_of p.gone) (elements_of (round ∷ []))
          ∙ ap (λ es. total rep (elements_of p.gone) + total rep es) (append-nil (meaning (loop here.turns here.body) x))
          ∙ ap (λ n. total rep (elements_of p.gone) + n) (size_is_total rep (loop here.turns here.body) x ∙ ap (λ n. here.turns.count * n) (sym same_size) ∙ ap (λ (t : Turns). t.count * size_in rep sizes) (sym same_turns)) in
          record {
            gone = p.gone ++ round ∷ [];
            split = split ∙ sym (append_assoc p.gone (round ∷ []) (part_rounds at (place + (width here.body + 2)) here.later x));
            number = let before = p.number in omega (arith, before, bytes, more);
          };
    })

    -- the part holds the byte
    pub part_holds : (turn : Copied) → (turn.number < turns.count) × (left ≡ turn.number * size_in rep sizes + turn.left) × (turn.left < size_in rep sizes)
        → IsTurnOfPart rep first all byte (record { place = place; turns = turns; turn = turn })
    part_holds turn shares = record {
      body = here.body;
      number = shares.0;
      within = subst (λ n. turn.left < n) same_size shares.2;
      holds = λ at x.
          let p = r.passed at x in
          record {
            gone = p.gone;
            later = part_rounds at (place + (width here.body + 2)) here.later x;
            split = p.split ∙ ap (λ ps. p.gone ++ part_rounds at place ps x) here.is
                ∙ ap (λ t. p.gone ++ part_round at place t here.body x ∷ part_rounds at (place + (width here.body + 2)) here.later x) (sym same_turns);
            number = p.number ∙ ap (λ n. total rep (elements_of p.gone) + n) (shares.1 ∙ ap (λ n. turn.number * n + turn.left) same_size);
          };
    }

  pub place_fits : first + widths all < 18446744073709551616 → place + 1 < 18446744073709551616
  place_fits fits = let ends = r.ends in let wider = ap widths here.is in omega (arith, ends, wider, fits)

-- all parts are passed
none_left : (rest : Parts) → number_of rest ≡ 0 → rest ≡ no_parts
none_left no_parts none = refl
none_left (part t b rest) none = absurd (omega (arith, none))

pub parts_are_passed : (code : List Instr) (rep : Rep) (first : ℕ) (all : Parts) (byte i place left : ℕ) → IsRest code rep first all byte i place left → number_of all ≤ i → sizes_in rep all ≤ byte
parts_are_passed code rep first all byte i place left r past =
    let none = none_left r.rest (let many = r.many in omega (arith, many, past)) in
    let p = r.passed 0 (pos 0) in
    let whole : part_rounds 0 first all (pos 0) ≡ p.gone = p.split ∙ ap (λ ps. p.gone ++ part_rounds 0 place ps (pos 0)) none ∙ append-nil p.gone in
    let bytes : sizes_in rep all ≡ total rep (elements_of p.gone) = sym (size_is_total rep (seq all) (pos 0)) ∙ ap (total rep) (elements_parts 0 first all (pos 0) ∙ ap elements_of whole) in
    let number = p.number in
    omega (arith, bytes, number)

module _ (code : List Instr) (rep : Rep) (frames : List Frame) (at : ℕ) (x : ℤ) (left : ℕ) (es : List Entry) (parts : Parts) (sought : IsSought code rep frames at x left (seq parts) es)
    (p : PartTurn) (t : IsTurnOfPart rep (at + 1) parts left p) where
  -- into a part: the sequence's frame is pushed
  pub into_part : IsInRound code rep frames left es (part_round at p.place p.turns t.body x) (p.turn.number * size rep t.body + p.turn.left)
  into_part =
      let h = t.holds at x in
      let small : p.turn.number * size rep t.body + p.turn.left < size rep (loop p.turns t.body) = within_turns p.turn.number p.turns.count (size rep t.body) p.turn.left t.number t.within in
      in_round code rep frames at x left es (seq parts) sought h.gone h.later (part_round at p.place p.turns t.body x) h.split (p.turn.number * size rep t.body + p.turn.left) h.number small

  -- and in the part, a turn is sought
  pub turn_of_part : (new : List Frame) → new ≡ (part_round at p.place p.turns t.body x).frame ∷ frames → (y : ℤ) → y ≡ x
      → IsTurnSought code rep new p.place y p.turns p.turn (p.turn.number * size rep t.body + p.turn.left) t.body into_part.inside
  turn_of_part new pushed y same =
      subst (λ fs. IsTurnSought code rep fs p.place y p.turns p.turn (p.turn.number * size rep t.body + p.turn.left) t.body into_part.inside) (sym pushed)
      (turn_sought code rep ((part_round at p.place p.turns t.body x).frame ∷ frames) p.place x y p.turns p.turn (p.turn.number * size rep t.body + p.turn.left) (size rep t.body) t.body into_part.inside
      into_part.sought same refl (t.number, refl, t.within))

-- each part has an instruction at least
pub parts_are_wide : (parts : Parts) → number_of parts ≤ widths parts
parts_are_wide no_parts = omega arith
parts_are_wide (part t b parts) = let rest = parts_are_wide parts in omega (arith, rest)
