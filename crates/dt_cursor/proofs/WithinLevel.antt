-- A frame that goes on within its level.
use Rattle.std.specs.Prelude.{◌≡◌, Some, ℕ, zero, suc, ◌+◌, ◌^◌, ◌<◌, ◌≤◌, ℤ, ◌+ℤ◌, ◌*ℤ◌, pos, nat_abs, true, false, List, [], ◌∷◌, ◌++◌, map, length, drop, slice_get}
use Rattle.std.proofs.Common.{refl, sym, ap, subst, ◌∙◌, arith, append_assoc, append-nil}
use Rattle.std.proofs.lemmas.Grind.{flat_map-append}
use Rattle.std.proofs.lemmas.List.{map-append}
use Rattle.dt_cursor.specs.declared.frames.Frame.{Frame}
use Rattle.dt_cursor.specs.declared.level.Rest.{Rest}
use Rattle.dt_cursor.specs.Frames.{IsHalfRun, StandAt, ToCome}
use Rattle.dt_cursor.specs.Rounds.{Round, copy_round, copy_rounds, elements_of}
use Rattle.dt_cursor.specs.Spread.{HasRoom, IsRest, IsRestOf, further_on, spread}
use Rattle.dt_cursor.proofs.Evenly.{here, spread_is}
use Rattle.dt_cursor.proofs.Halfway.{copy_here, half_copy, half_turn, inside_of, turn_here}
use Rattle.dt_cursor.proofs.NextRounds.{drop_below, half_each, half_loop}
use Rattle.dt_cursor.proofs.Reading.{head_here, head_is, one_here}
use Rattle.dt_cursor.proofs.Running.{half_run, is_round}
use Rattle.dt_kinds.specs.declared.kind.Kind.{Kind}
use Rattle.dt_kinds.proofs.Table.{native_size-pos}
use Rattle.dt_layout.specs.Body.{Body, one, loop, each, meaning}
use Rattle.dt_layout.specs.declared.instr.Instr.{Instr}
use Rattle.dt_layout.specs.declared.instr.Instr.TheVariants as variants
use Rattle.dt_layout.specs.declared.instr.Sizes.{Sizes}
use Rattle.dt_map.specs.declared.entry.Entry.{Entry}
use Rattle.dt_offsets.specs.declared.turns.Spot.{Spot}
use Rattle.dt_offsets.specs.declared.turns.Turns.{Turns}
use Rattle.dt_offsets.specs.Offsets.{below, turn_offset}
use Rattle.dt_rows.specs.Rows.{element_at}

below-cons : (n : ℕ) → below (suc n) ≡ 0 ∷ map suc (below n)
below-cons zero = refl
below-cons (suc n) = ap (λ s. s ++ suc n ∷ []) (below-cons n) ∙ ap (λ s. 0 ∷ s) (sym (map-append suc (below n) (n ∷ [])))

drop_on : (count q d : ℕ) → q + suc d ≤ count → drop (suc q) (below count) ≡ map (λ i. q + suc i) (below d) ++ drop (q + suc d) (below count)
drop_on count q zero within = let next : suc q ≡ q + suc zero = omega arith in ap (λ k. drop k (below count)) next
drop_on count q (suc d) within =
    let f = λ (i : ℕ). q + suc i in
    let next : suc (q + suc d) ≡ q + suc (suc d) = omega arith in
    drop_on count q d (omega (arith, within))
    ∙ ap (λ s. map f (below d) ++ s) (drop_below count (q + suc d) (omega (arith, within)) ∙ ap (λ k. (q + suc d) ∷ drop k (below count)) next)
    ∙ sym (append_assoc (map f (below d)) ((q + suc d) ∷ []) (drop (q + suc (suc d)) (below count)))
    ∙ ap (λ s. s ++ drop (q + suc (suc d)) (below count)) (sym (map-append f (below d) (d ∷ [])))

-- a level whose rounds are single elements of a kind
module _ (code : List Instr) (kind : Kind) (place : ℕ) (x : ℤ) (frame_of : ℕ → Frame) (offset : ℕ → ℤ) where
  abbrev pub round_at : ℕ → Round
  round_at k = record { frame = frame_of k; at = place; body = one kind; offset = x +ℤ offset k }

  elements_run : (ks : List ℕ) → elements_of (map round_at ks) ≡ map (λ k. element_at kind (x +ℤ offset k)) ks
  elements_run [] = refl
  elements_run (k ∷ ks) = ap (λ s. element_at kind (x +ℤ offset k) ∷ s) (elements_run ks)

  map_map : {A B : Type 0} (f : A → B) (g : ℕ → A) (is : List ℕ) → map f (map g is) ≡ map (λ i. f (g i)) is
  map_map f g [] = refl
  map_map f g (i ∷ is) = ap (λ s. f (g i) ∷ s) (map_map f g is)

  run_elements : (q d : ℕ)
      → element_at kind (x +ℤ offset q) ∷ elements_of (map round_at (map (λ i. q + suc i) (below d))) ≡ map (here kind x offset q) (below (suc d))
  run_elements q d =
      let none : q ≡ q + 0 = omega arith in
      ap (λ s. element_at kind (x +ℤ offset q) ∷ s)
      (elements_run (map (λ i. q + suc i) (below d)) ∙ map_map (λ k. element_at kind (x +ℤ offset k)) (λ i. q + suc i) (below d) ∙ sym (map_map (here kind x offset q) suc (below d)))
      ∙ ap (λ k. element_at kind (x +ℤ offset k) ∷ map (here kind x offset q) (map suc (below d))) none
      ∙ ap (map (here kind x offset q)) (sym (below-cons d))

  -- so many elements further on
  pub run_on : (frames : List Frame) (outer : Frame) (body : Body) (later : List Round) (rest : List Entry) → IsHalfRun code (length frames) outer body later → ToCome code frames rest
      → (q count : ℕ) (more : List Round) → later ≡ map round_at (drop (suc q) (below count)) ++ more → frame_of q ≡ outer
      → (d : ℕ) → q + suc d ≤ count
      → (after : List Entry) × (element_at kind (x +ℤ offset q) ∷ (elements_of later ++ rest) ≡ map (here kind x offset q) (below (suc d)) ++ after) × ToCome code (frame_of (q + d) ∷ frames) after
  run_on frames outer body later rest half outside q count more split first d within =
      let skipped = map round_at (map (λ i. q + suc i) (below d)) in
      let after = map round_at (drop (q + suc d) (below count)) ++ more in
      let parts : later ≡ skipped ++ after =
      split ∙ ap (λ ks. map round_at ks ++ more) (drop_on count q d within)
      ∙ ap (λ s. s ++ more) (map-append round_at (map (λ i. q + suc i) (below d)) (drop (q + suc d) (below count)))
      ∙ append_assoc skipped (map round_at (drop (q + suc d) (below count))) more in (
        elements_of after ++ rest,
        ap (λ s. element_at kind (x +ℤ offset q) ∷ (s ++ rest)) (ap elements_of parts ∙ flat_map-append (λ (r : Round). meaning r.body r.offset) skipped after)
            ∙ ap (λ s. element_at kind (x +ℤ offset q) ∷ s) (append_assoc (elements_of skipped) (elements_of after) rest)
            ∙ ap (λ s. s ++ (elements_of after ++ rest)) (run_elements q d),
        come d within parts,
      )
    where
      come : (d : ℕ) → q + suc d ≤ count → later ≡ map round_at (map (λ i. q + suc i) (below d)) ++ (map round_at (drop (q + suc d) (below count)) ++ more)
          → ToCome code (frame_of (q + d) ∷ frames) (elements_of (map round_at (drop (q + suc d) (below count)) ++ more) ++ rest)
      come zero within parts =
          let none : q ≡ q + zero = omega arith in
          let after = map round_at (drop (q + suc zero) (below count)) ++ more in (
            body,
            after,
            rest,
            subst (λ k. IsHalfRun code (length frames) (frame_of k) body after) none (subst (λ f. IsHalfRun code (length frames) f body after) (sym first) (subst (IsHalfRun code (length frames) outer body) parts half)),
            outside,
            refl,
          )
      come (suc d) within parts =
          let next : q + suc d ≡ q + suc d = refl in
          let skipped = map round_at (map (λ i. q + suc i) (below d)) in
          let after = map round_at (drop (q + suc (suc d)) (below count)) ++ more in
          let last : map round_at (map (λ i. q + suc i) (below (suc d))) ≡ skipped ++ round_at (q + suc d) ∷ [] =
          ap (map round_at) (map-append (λ i. q + suc i) (below d) (d ∷ [])) ∙ map-append round_at (map (λ i. q + suc i) (below d)) ((q + suc d) ∷ []) in
          let whole = half.split ∙ ap (λ rs. half.gone ++ half.round ∷ rs) (parts ∙ ap (λ s. s ++ after) last ∙ append_assoc skipped (round_at (q + suc d) ∷ []) after)
          ∙ sym (append_assoc half.gone (half.round ∷ skipped) (round_at (q + suc d) ∷ after)) in (
            body,
            after,
            rest,
            half_run code outer.instr body outer.base half.placed (half.gone ++ half.round ∷ skipped) after (round_at (q + suc d)) whole (length frames) half.room (native_size-pos kind),
            outside,
            refl,
          )

-- what is left, ahead of an element whose rounds go on so
module _ (code : List Instr) (kind : Kind) (place : ℕ) (x : ℤ) (frame_of : ℕ → Frame) (offset : ℕ → ℤ) where
  pub rest_ahead : (frames : List Frame) (outer : Frame) (body : Body) (later : List Round) (rest : List Entry) → IsHalfRun code (length frames) outer body later → ToCome code frames rest
      → (q count : ℕ) (more : List Round) → later ≡ map (round_at code kind place x frame_of offset) (drop (suc q) (below count)) ++ more → frame_of q ≡ outer
      → (r : Rest) → IsRestOf offset q count r → ((d : ℕ) → further_on r.of_spot outer d ≡ frame_of (q + d)) → ((d : ℕ) → q + suc d ≤ count → HasRoom r.of_spot outer d)
      → (base : ℤ) → base ≡ x +ℤ offset q → (es : List Entry) → es ≡ element_at kind base ∷ (elements_of later ++ rest) → IsRest code kind base outer frames es r
  rest_ahead frames outer body later rest half outside q count more split first r is on room base there es all = record {
    some_rows = is.some_rows;
    some = is.some;
    room = λ rows elements d left size. room d (let within = is.within rows elements left in omega (arith, within, size));
    ahead = λ rows elements d left size.
        let within = is.within rows elements left in
        let run = run_on code kind place x frame_of offset frames outer body later rest half outside q count more split first d (omega (arith, within, size)) in (
          run.0,
          all ∙ ap (λ y. element_at kind y ∷ (elements_of later ++ rest)) there ∙ run.1
              ∙ ap (λ n. map (here kind x offset q) (below n) ++ run.0) size
              ∙ ap (λ s. s ++ run.0) (sym (spread_is kind x offset q rows r.jump elements r.step left.some (is.even rows elements left)))
              ∙ ap (λ y. spread kind y rows r.jump elements r.step ++ run.0) (sym there),
          subst (λ f. ToCome code (f ∷ frames) run.0) (sym (on d)) run.2,
        );
  }

-- turns of a loop whose body is one element
pub turns_ahead : (code : List Instr) (kind : Kind) (frames : List Frame) (outer : Frame) (t : Turns) (later : List Round) (rest : List Entry) → IsHalfRun code (length frames) outer (loop t (one kind)) later → ToCome code frames rest
    → (r : Rest) → IsRestOf (turn_offset t) outer.turn t.count r → r.of_spot ≡ false → (base : ℤ) → base ≡ outer.base +ℤ turn_offset t outer.turn
    → (es : List Entry) → es ≡ element_at kind base ∷ (elements_of later ++ rest) → IsRest code kind base outer frames es r
turns_ahead code kind frames outer t later rest half outside r is turns base there es all =
    let turn = half_turn code (length frames) outer t (one kind) later half in
    let frame_of : ℕ → Frame = λ k. record { instr = outer.instr; turn = k; base = outer.base; copy = 0 } in
    let nothing : later ≡ later ++ [] = sym (append-nil later) in
    rest_ahead code kind (outer.instr + 1) outer.base frame_of (turn_offset t) frames outer (loop t (one kind)) later rest half outside outer.turn t.count [] (nothing ∙ ap (λ l. l ++ []) turn.to_come)
    (ap (λ c. let f : Frame = record { instr = outer.instr; turn = outer.turn; base = outer.base; copy = c } in f) (sym turn.copy)) r is
    (λ d. ap (λ b. further_on b outer d) turns ∙ ap (λ c. let f : Frame = record { instr = outer.instr; turn = outer.turn + d; base = outer.base; copy = c } in f) turn.copy)
    (λ d within. subst (λ b. HasRoom b outer d) (sym turns) (let least = half.placed.lawful.0.most in let count = half.placed.lawful.0.count in omega (arith, within, least, count)))
    base there es all

-- copies of a spot whose body is one element
pub copies_ahead : (code : List Instr) (kind : Kind) (frames : List Frame) (outer : Frame) (spots : List Spot) (later : List Round) (rest : List Entry) → IsHalfRun code (length frames) outer (each spots (one kind)) later
    → ToCome code frames rest → (s : Spot) → slice_get spots outer.turn ≡ Some s
    → (r : Rest) → IsRestOf (λ j. s.first +ℤ (pos j *ℤ s.step)) outer.copy s.copies r → r.of_spot ≡ true → s.copies < 2 ^ 32 → (base : ℤ) → base ≡ outer.base +ℤ (s.first +ℤ (pos outer.copy *ℤ s.step))
    → (es : List Entry) → es ≡ element_at kind base ∷ (elements_of later ++ rest) → IsRest code kind base outer frames es r
copies_ahead code kind frames outer spots later rest half outside s got r is copies few base there es all =
    let copy = half_copy code (length frames) outer spots (one kind) later half in
    let same : copy.spot ≡ s = (let both = sym copy.got ∙ got in cc) in
    let frame_of : ℕ → Frame = λ j. record { instr = outer.instr; turn = outer.turn; base = outer.base; copy = j } in
    let inside = inside_of outer spots in
    let more = copy_rounds outer.instr inside (one kind) outer.base (outer.turn + 1) (drop (outer.turn + 1) spots) in
    rest_ahead code kind inside outer.base frame_of (λ j. s.first +ℤ (pos j *ℤ s.step)) frames outer (each spots (one kind)) later rest half outside outer.copy s.copies more
    (copy.to_come ∙ ap (λ (z : Spot). map (copy_round outer.instr inside (one kind) outer.base outer.turn z) (drop (suc outer.copy) (below z.copies)) ++ more) same)
    refl r is (λ d. ap (λ b. further_on b outer d) copies) (λ d within. subst (λ b. HasRoom b outer d) (sym copies) (omega (arith, within, few))) base there es all

-- the element at a frame, under the frame of the level that it is in
pub record IsInLevel (code : List Instr) (kind : Kind) (frame outer : Frame) (frames : List Frame) (es : List Entry) : Type 0 where
  pub body : Body
  pub later : List Round
  pub rest : List Entry
  pub half : IsHalfRun code (length frames) outer body later
  pub outside : ToCome code frames rest
  pub all : es ≡ element_at kind frame.base ∷ (elements_of later ++ rest)

pub in_level : (code : List Instr) (kind : Kind) (frame outer : Frame) (frames : List Frame) (es : List Entry) → slice_get code frame.instr ≡ Some (variants.One kind) → StandAt code (frame ∷ outer ∷ frames) es
    → IsInLevel code kind frame outer frames es
in_level code kind frame outer frames es read stand =
    let come = stand.4 in
    let same : stand.0 ≡ kind = (let both = sym (head_here code frame.instr (one stand.0) frame.base stand.2) ∙ read in cc) in
    record {
      body = come.0;
      later = come.1;
      rest = come.2;
      half = come.3;
      outside = come.4;
      all = stand.5 ∙ ap (λ k. element_at k frame.base ∷ stand.1) same ∙ ap (λ s. element_at kind frame.base ∷ s) come.5;
    }

-- where a level's body stands an element is read, so it is that element
pub body_is : (code : List Instr) (kind : Kind) (levels : ℕ) (outer : Frame) (body : Body) (later : List Round) (half : IsHalfRun code levels outer body later) → slice_get code half.round.at ≡ Some (variants.One kind)
    → half.round.body ≡ one kind
body_is code kind levels outer body later half read =
    let is = (is_round code outer.instr body outer.base half.placed half.gone later half.round half.split).placed half.some in
    one_here half.round.at half.round.body kind (head_is code half.round.at half.round.body half.round.offset is (variants.One kind) read)

-- the offset of the round in which a frame is is in range
pub here_near : (code : List Instr) (levels : ℕ) (outer : Frame) (body : Body) (later : List Round) (half : IsHalfRun code levels outer body later) → nat_abs half.round.offset < 2 ^ 63
here_near code levels outer body later half =
    ((is_round code outer.instr body outer.base half.placed half.gone later half.round half.split).placed half.some).offset half.some

-- the level of an element, by what is read at its frame
pub at_level : (code : List Instr) (frame outer : Frame) (frames : List Frame) (es : List Entry) → StandAt code (frame ∷ outer ∷ frames) es → (kind : Kind) × IsInLevel code kind frame outer frames es
at_level code frame outer frames es stand = (stand.0, in_level code stand.0 frame outer frames es (head_here code frame.instr (one stand.0) frame.base stand.2) stand)

pub record IsInLoop (code : List Instr) (kind : Kind) (frame outer : Frame) (frames : List Frame) (es : List Entry) (t : Turns) : Type 0 where
  pub body : Body
  pub later : List Round
  pub rest : List Entry
  pub half : IsHalfRun code (length frames) outer (loop t body) later
  pub outside : ToCome code frames rest
  pub all : es ≡ element_at kind frame.base ∷ (elements_of later ++ rest)

pub in_loop : (code : List Instr) (kind : Kind) (frame outer : Frame) (frames : List Frame) (es : List Entry) (t : Turns) (sizes : Sizes) (next : ℕ) → slice_get code outer.instr ≡ Some (variants.Loop t sizes next)
    → IsInLevel code kind frame outer frames es → IsInLoop code kind frame outer frames es t
in_loop code kind frame outer frames es t sizes next read is =
    let there = half_loop code (length frames) outer is.body is.later is.half t sizes next read in
    record { body = there.0; later = is.later; rest = is.rest; half = subst (λ b. IsHalfRun code (length frames) outer b is.later) there.1 is.half; outside = is.outside; all = is.all }

pub record IsInEach (code : List Instr) (kind : Kind) (frame outer : Frame) (frames : List Frame) (es : List Entry) (count : ℕ) : Type 0 where
  pub spots : List Spot
  pub body : Body
  pub later : List Round
  pub rest : List Entry
  pub many : length spots ≡ count
  pub half : IsHalfRun code (length frames) outer (each spots body) later
  pub outside : ToCome code frames rest
  pub all : es ≡ element_at kind frame.base ∷ (elements_of later ++ rest)

pub in_each : (code : List Instr) (kind : Kind) (frame outer : Frame) (frames : List Frame) (es : List Entry) (count : ℕ) (sizes : Sizes) (next : ℕ) → slice_get code outer.instr ≡ Some (variants.Each count sizes next)
    → IsInLevel code kind frame outer frames es → IsInEach code kind frame outer frames es count
in_each code kind frame outer frames es count sizes next read is =
    let there = half_each code (length frames) outer is.body is.later is.half count sizes next read in
    record { spots = there.0; body = there.1; later = is.later; rest = is.rest; many = there.3; half = subst (λ b. IsHalfRun code (length frames) outer b is.later) there.2 is.half; outside = is.outside; all = is.all }

-- the offset of the turn, and of the copy, at which an element stands
pub loop_near : (code : List Instr) (levels : ℕ) (outer : Frame) (t : Turns) (b : Body) (later : List Round) → IsHalfRun code levels outer (loop t b) later → nat_abs (outer.base +ℤ turn_offset t outer.turn) < 2 ^ 63
loop_near code levels outer t b later half = subst (λ (r : Round). nat_abs r.offset < 2 ^ 63) (turn_here code levels outer t b later half) (here_near code levels outer (loop t b) later half)

pub copy_near : (code : List Instr) (levels : ℕ) (outer : Frame) (spots : List Spot) (b : Body) (later : List Round) → IsHalfRun code levels outer (each spots b) later → (s : Spot) → slice_get spots outer.turn ≡ Some s
    → nat_abs (outer.base +ℤ (s.first +ℤ (pos outer.copy *ℤ s.step))) < 2 ^ 63
copy_near code levels outer spots b later half s got =
    subst (λ (r : Round). nat_abs r.offset < 2 ^ 63) (copy_here code levels outer spots b later half s got) (here_near code levels outer (each spots b) later half)

-- the body of a level where an element is read is that element
pub loop_one : (code : List Instr) (kind : Kind) (levels : ℕ) (outer : Frame) (t : Turns) (b : Body) (later : List Round) → IsHalfRun code levels outer (loop t b) later → (at : ℕ) → at ≡ outer.instr + 1
    → slice_get code at ≡ Some (variants.One kind) → b ≡ one kind
loop_one code kind levels outer t b later half at place read =
    let here = turn_here code levels outer t b later half in
    ap (λ (r : Round). r.body) (sym here) ∙ body_is code kind levels outer (loop t b) later half (ap (slice_get code) (ap (λ (r : Round). r.at) here ∙ sym place) ∙ read)

pub each_one : (code : List Instr) (kind : Kind) (levels : ℕ) (outer : Frame) (spots : List Spot) (b : Body) (later : List Round) → IsHalfRun code levels outer (each spots b) later → (at : ℕ) → at ≡ inside_of outer spots
    → slice_get code at ≡ Some (variants.One kind) → b ≡ one kind
each_one code kind levels outer spots b later half at place read =
    let copy = half_copy code levels outer spots b later half in
    let here = copy_here code levels outer spots b later half copy.spot copy.got in
    ap (λ (r : Round). r.body) (sym here) ∙ body_is code kind levels outer (each spots b) later half (ap (slice_get code) (ap (λ (r : Round). r.at) here ∙ sym place) ∙ read)
