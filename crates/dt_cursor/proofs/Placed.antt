-- The rounds of a body that is placed: their elements, and where their bodies stand.
use Rattle.std.specs.Prelude.{◌≡◌, ℕ, ◌+◌, ◌<◌, ℤ, ◌+ℤ◌, ◌*ℤ◌, pos, List, [], ◌∷◌, ◌++◌, map, length}
use Rattle.std.specs.List.{AllByRecursion, flat_map}
use Rattle.std.proofs.Common.{refl, sym, ap, ◌∙◌, arith, append_assoc, length-append}
use Rattle.std.proofs.lemmas.Grind.{flat_map-append}
use Rattle.std.proofs.lemmas.List.{length-map}
use Rattle.std.proofs.lemmas.List.Folds.{flat_map-map}
use Rattle.dt_cursor.specs.Frames.{IsPlaced}
use Rattle.dt_cursor.specs.Rounds.{Round, turn_round, copy_round, copy_rounds, part_round, part_rounds, rounds, elements_of}
use Rattle.dt_kinds.specs.declared.kind.Rep.TheVariants.{Native}
use Rattle.dt_layout.specs.Body.{Body, one, loop, each, seq, Parts, no_parts, part, meaning, meanings, size, sizes, sizes_of, width, widths, opened, most_opened, number_of}
use Rattle.dt_layout.specs.declared.instr.Instr.{Instr}
use Rattle.dt_layout.specs.declared.instr.Instr.TheVariants as variants
use Rattle.dt_layout.specs.Program.{spelling, spellings, IsOffset, IsLawful, AreLawful}
use Rattle.dt_layout.proofs.All.{all_split}
use Rattle.dt_layout.proofs.Bodies.{length-spelling}
use Rattle.dt_offsets.specs.declared.turns.Spot.{Spot}
use Rattle.dt_offsets.specs.declared.turns.Turns.{Turns}
use Rattle.dt_offsets.specs.Offsets.{below, row_offsets, turn_offset, spot_offsets}
use Rattle.dt_offsets.proofs.NearNumbers.{all_append}

-- the elements of rounds are those of the body
elements_turns : (at : ℕ) (t : Turns) (b : Body) (x : ℤ) → meaning (loop t b) x ≡ elements_of (rounds at (loop t b) x)
elements_turns at t b x =
    flat_map-map (λ y. meaning b (x +ℤ y)) (turn_offset t) (below t.count)
    ∙ sym (flat_map-map (λ (r : Round). meaning r.body r.offset) (turn_round at t b x) (below t.count))

elements_copies : (at inside : ℕ) (b : Body) (x : ℤ) (number : ℕ) (spots : List Spot)
    → flat_map (λ y. meaning b (x +ℤ y)) (spot_offsets spots) ≡ elements_of (copy_rounds at inside b x number spots)
elements_copies at inside b x number [] = refl
elements_copies at inside b x number (s ∷ spots) =
    flat_map-append (λ y. meaning b (x +ℤ y)) (row_offsets s.first s.copies s.step) (spot_offsets spots)
    ∙ ap (λ es. es ++ flat_map (λ y. meaning b (x +ℤ y)) (spot_offsets spots))
    (flat_map-map (λ y. meaning b (x +ℤ y)) (λ j. s.first +ℤ (pos j *ℤ s.step)) (below s.copies)
    ∙ sym (flat_map-map (λ (r : Round). meaning r.body r.offset) (copy_round at inside b x number s) (below s.copies)))
    ∙ ap (λ es. elements_of (map (copy_round at inside b x number s) (below s.copies)) ++ es) (elements_copies at inside b x (number + 1) spots)
    ∙ sym (flat_map-append (λ (r : Round). meaning r.body r.offset) (map (copy_round at inside b x number s) (below s.copies)) (copy_rounds at inside b x (number + 1) spots))

pub elements_parts : (at place : ℕ) (parts : Parts) (x : ℤ) → meanings parts x ≡ elements_of (part_rounds at place parts x)
elements_parts at place no_parts x = refl
elements_parts at place (part t b parts) x = ap (λ es. meaning (loop t b) x ++ es) (elements_parts at (place + (width b + 2)) parts x)

pub elements_rounds : (at : ℕ) (body : Body) (x : ℤ) → 0 < opened body → meaning body x ≡ elements_of (rounds at body x)
elements_rounds at (one kind) x some = absurd (omega (arith, some))
elements_rounds at (loop t b) x some = elements_turns at t b x
elements_rounds at (each spots b) x some = elements_copies at (at + 1 + length spots) b x 0 spots
elements_rounds at (seq parts) x some = elements_parts at (at + 1) parts x

-- a round of a body at a place with an offset: its frame tells both; its body, where it has elements, is placed and less deep
pub record IsRound (code : List Instr) (deep at : ℕ) (x : ℤ) (r : Round) : Type 0 where
  pub instr : r.frame.instr ≡ at
  pub base : r.frame.base ≡ x
  pub shallow : opened r.body < deep
  pub placed : 0 < size Native r.body → IsPlaced code r.at r.body r.offset

all_mapped : {X A B : Type 0} (P : A → Type 0) (Q : B → Type 0) (f : X → A) (g : X → B) → ((i : X) → P (f i) → Q (g i))
    → (xs : List X) → AllByRecursion P (map f xs) → AllByRecursion Q (map g xs)
all_mapped P Q f g gives [] h = tt
all_mapped P Q f g gives (i ∷ xs) h = (gives i h.0, all_mapped P Q f g gives xs h.1)

-- a body after a head, before an end
inner : (code before heads mid after : List Instr) (at : ℕ) (b : Body) (x : ℤ) → code ≡ before ++ ((heads ++ (spelling at b ++ variants.End ∷ [])) ++ after) → length before + length heads ≡ at
    → IsLawful b x → IsOffset b x → IsPlaced code at b x
inner code before heads mid after at b x spelled place lawful offset = record {
  before = before ++ heads;
  after = variants.End ∷ after;
  spelled =
      spelled
      ∙ ap (λ s. before ++ s) (append_assoc heads (spelling at b ++ variants.End ∷ []) after ∙ ap (λ s. heads ++ s) (append_assoc (spelling at b) (variants.End ∷ []) after))
      ∙ sym (append_assoc before heads (spelling at b ++ variants.End ∷ after));
  place = length-append before heads ∙ place;
  lawful = lawful;
  offset = offset;
}

module _ (code before after : List Instr) (at : ℕ) (place : length before ≡ at) where
  turns_placed : (t : Turns) (b : Body) (x : ℤ) → code ≡ before ++ (spelling at (loop t b) ++ after) → IsLawful (loop t b) x
      → AllByRecursion (IsRound code (1 + opened b) at x) (rounds at (loop t b) x)
  turns_placed t b x spelled lawful =
      all_mapped (λ y. IsOffset b (x +ℤ y) × IsLawful b (x +ℤ y)) (IsRound code (1 + opened b) at x) (turn_offset t) (turn_round at t b x)
      (λ q h. record {
        instr = refl;
        base = refl;
        shallow = omega arith;
        placed = λ some. inner code before (variants.Loop t (sizes_of b) (at + (width b + 2)) ∷ []) [] after (at + 1) b (x +ℤ turn_offset t q) spelled (omega (arith, place)) h.1 h.0;
      })
      (below t.count) lawful.1

  copies_placed : (b : Body) (x : ℤ) (inside : ℕ) → ((y : ℤ) → IsOffset b y → IsLawful b y → IsPlaced code inside b y) → (number : ℕ) (spots : List Spot)
      → AllByRecursion (λ y. IsOffset b (x +ℤ y) × IsLawful b (x +ℤ y)) (spot_offsets spots)
      → AllByRecursion (IsRound code (1 + opened b) at x) (copy_rounds at inside b x number spots)
  copies_placed b x inside stands number [] h = tt
  copies_placed b x inside stands number (s ∷ spots) h =
      let both = all_split (λ y. IsOffset b (x +ℤ y) × IsLawful b (x +ℤ y)) (row_offsets s.first s.copies s.step) (spot_offsets spots) h in
      all_append (IsRound code (1 + opened b) at x) (map (copy_round at inside b x number s) (below s.copies)) (copy_rounds at inside b x (number + 1) spots)
      (all_mapped (λ y. IsOffset b (x +ℤ y) × IsLawful b (x +ℤ y)) (IsRound code (1 + opened b) at x) (λ j. s.first +ℤ (pos j *ℤ s.step)) (copy_round at inside b x number s)
      (λ j k. record { instr = refl; base = refl; shallow = omega arith; placed = λ some. stands (x +ℤ (s.first +ℤ (pos j *ℤ s.step))) k.0 k.1 }) (below s.copies) both.0)
      (copies_placed b x inside stands (number + 1) spots both.1)

  each_placed : (spots : List Spot) (b : Body) (x : ℤ) → code ≡ before ++ (spelling at (each spots b) ++ after) → IsLawful (each spots b) x
      → AllByRecursion (IsRound code (1 + opened b) at x) (rounds at (each spots b) x)
  each_placed spots b x spelled lawful =
      let head = variants.Each (length spots) (sizes_of b) (at + (length spots + width b + 2)) in
      copies_placed b x (at + 1 + length spots)
      (λ y offset inside. inner code before (head ∷ map variants.Spot spots) [] after (at + 1 + length spots) b y spelled (omega (arith, place, length-map spots variants.Spot)) inside offset)
      0 spots lawful.1

-- parts at a place
parts_placed : (code : List Instr) (at deep : ℕ) (x : ℤ) (parts : Parts) (before after : List Instr) (place : ℕ) → length before ≡ place → code ≡ before ++ (spellings place parts ++ after)
    → most_opened parts < deep → AreLawful parts x → (0 < sizes Native parts → IsOffset (seq parts) x) → AllByRecursion (IsRound code deep at x) (part_rounds at place parts x)
parts_placed code at deep x no_parts before after place there spelled shallow lawful offset = tt
parts_placed code at deep x (part t b parts) before after place there spelled shallow lawful offset =
    let head = spelling place (loop t b) in
    let next : ℕ = place + (width b + 2) in
    let whole = spelled ∙ ap (λ s. before ++ s) (append_assoc head (spellings next parts) after) in
    let here : IsRound code deep at x (part_round at place t b x) = record {
      instr = refl;
      base = refl;
      shallow = omega (arith, shallow);
      placed = λ some. record {
        before = before;
        after = spellings next parts ++ after;
        spelled = whole;
        place = there;
        lawful = lawful.0;
        offset = λ more. offset (omega (arith, some)) (omega (arith, some));
      };
    } in (
      here,
      parts_placed code at deep x parts (before ++ head) after next (length-append before head ∙ omega (arith, there, length-spelling place (loop t b)))
          (whole ∙ sym (append_assoc before head (spellings next parts ++ after))) (omega (arith, shallow)) lawful.1
          (λ some more. offset (omega (arith, some)) (omega (arith, some))),
    )

pub rounds_placed : (code : List Instr) (at : ℕ) (body : Body) (x : ℤ) → IsPlaced code at body x → AllByRecursion (IsRound code (opened body) at x) (rounds at body x)
rounds_placed code at (one kind) x p = tt
rounds_placed code at (loop t b) x p = turns_placed code p.before p.after at p.place t b x p.spelled p.lawful
rounds_placed code at (each spots b) x p = each_placed code p.before p.after at p.place spots b x p.spelled p.lawful
rounds_placed code at (seq parts) x p =
    let head = variants.Seq (number_of parts) (at + (widths parts + 2)) in
    let whole : code ≡ (p.before ++ head ∷ []) ++ (spellings (at + 1) parts ++ variants.End ∷ p.after) =
    p.spelled
    ∙ ap (λ s. p.before ++ head ∷ s) (append_assoc (spellings (at + 1) parts) (variants.End ∷ []) p.after)
    ∙ sym (append_assoc p.before (head ∷ []) (spellings (at + 1) parts ++ variants.End ∷ p.after)) in
    parts_placed code at (1 + most_opened parts) x parts (p.before ++ head ∷ []) (variants.End ∷ p.after) (at + 1) (length-append p.before (head ∷ []) ∙ ap (λ n. n + 1) p.place) whole
    (omega arith) p.lawful (λ some. p.offset)
