-- The search for a packed byte, a level further in.
use lib.Signed.{mag}
use mir.Syntax.{w64, w128}
use mir.Val.{to_z, of_z}
use Rattle.std.specs.Prelude.{◌≡◌, Some, ℕ, suc, ◌+◌, ◌*◌, ◌<◌, ◌≤◌, ℤ, ◌+ℤ◌, pos, nat_abs, ◌^◌, List, [], ◌∷◌, ◌++◌, map, length, take, drop, slice_get}
use Rattle.std.proofs.Common.{refl, sym, ap, subst, ◌∙◌, arith, append_assoc, append-nil}
use Rattle.std.proofs.lemmas.Int.{to_z-of_z, fits_signed_from_abs}
use Rattle.std.proofs.lemmas.List.{map-append, length-take-le}
use Rattle.std.proofs.lemmas.List.Sums.{sum_by-cons}
use Rattle.std.proofs.Math.Seq.{split_at}
use Rattle.dt_cursor.specs.declared.frames.Frame.{Frame}
use Rattle.dt_cursor.specs.Frames.{at_element}
use Rattle.dt_cursor.specs.Rounds.{Round, turn_round, rounds, elements_of}
use Rattle.dt_cursor.specs.Search.{AreHeld, IsFound, IsSought, IsNarrowed, size_in}
use Rattle.dt_cursor.proofs.Reading.{head_is, one_here, loop_here, each_here, seq_here}
use Rattle.dt_cursor.proofs.Running.{round_is_pushed, element_is_pushed}
use Rattle.dt_kinds.specs.declared.kind.Kind.{Kind}
use Rattle.dt_kinds.specs.declared.kind.Rep.{Rep}
use Rattle.dt_kinds.specs.declared.kind.Rep.TheVariants.{Native, External32}
use Rattle.dt_kinds.specs.Kind.{packed_size}
use Rattle.dt_kinds.proofs.Table.{native_size-pos}
use Rattle.dt_layout.specs.Body.{Body, one, loop, each, seq, Parts, meaning, size, sizes_of, width, widths, number_of}
use Rattle.dt_layout.specs.declared.instr.Instr.{Instr}
use Rattle.dt_layout.specs.declared.instr.Instr.TheVariants as variants
use Rattle.dt_layout.specs.declared.instr.Sizes.{Sizes}
use Rattle.dt_layout.proofs.Bodies.{size_is_total}
use Rattle.dt_map.specs.declared.entry.Entry.{Entry}
use Rattle.dt_map.specs.Packed.{total}
use Rattle.dt_map.proofs.Copies.{total-append}
use Rattle.dt_map.proofs.Seats.{get_or-below}
use Rattle.dt_offsets.specs.declared.turns.Spot.{Spot}
use Rattle.dt_offsets.specs.declared.turns.Turns.{Turns}
use Rattle.dt_offsets.specs.Offsets.{below, turn_offset}
use Rattle.dt_offsets.proofs.Reaches.{length-below}

-- a body that has packed bytes has elements
some_total : (rep : Rep) (es : List Entry) → 0 < total rep es → 0 < total Native es
some_total rep [] some = some
some_total rep (e ∷ es) some = let more = sum_by-cons (λ (f : Entry). packed_size Native f.kind) e es in omega (arith, more, native_size-pos e.kind)

pub some_native : (rep : Rep) (body : Body) → 0 < size rep body → 0 < size Native body
some_native rep body some =
    subst (λ n. 0 < n) (size_is_total Native body (pos 0)) (some_total rep (meaning body (pos 0)) (subst (λ n. 0 < n) (sym (size_is_total rep body (pos 0))) some))

-- a byte that is sought in a round, whose frame is pushed
pub record IsInRound (code : List Instr) (rep : Rep) (frames : List Frame) (left : ℕ) (es : List Entry) (round : Round) (less : ℕ) : Type 0 where
  pub inside : List Entry
  pub sought : IsSought code rep (round.frame ∷ frames) round.at round.offset less round.body inside
  pub gone : List Entry
  pub all : es ≡ gone ++ inside
  pub place : left ≡ total rep gone + less

module _ (code : List Instr) (rep : Rep) (frames : List Frame) (at : ℕ) (x : ℤ) (left : ℕ) (es : List Entry) where
  -- into a round: the byte is sought in its body
  pub in_round : (body : Body) → IsSought code rep frames at x left body es → (gone later : List Round) (round : Round) → rounds at body x ≡ gone ++ round ∷ later
      → (less : ℕ) → left ≡ total rep (elements_of gone) + less → less < size rep round.body → IsInRound code rep frames left es round less
  in_round body sought gone later round split less place within =
      let pushed = round_is_pushed code frames at body x es gone later round sought.run split (some_native rep round.body (omega (arith, within))) in
      record {
        inside = pushed.0;
        sought = record { run = pushed.1; most = omega (arith, within); inner = λ some. within };
        gone = elements_of gone;
        all = pushed.2;
        place = place;
      }

  pub narrowed : (body : Body) → IsSought code rep frames at x left body es → (gone later : List Round) (round : Round) → rounds at body x ≡ gone ++ round ∷ later
      → (less : ℕ) → left ≡ total rep (elements_of gone) + less → less < size rep round.body → IsNarrowed code rep es left (round.frame ∷ frames) round.at round.offset less
  narrowed body sought gone later round split less place within =
      let r = in_round body sought gone later round split less place within in
      record { body = round.body; inside = r.inside; sought = r.sought; near = r.sought.run.placed.offset (some_native rep round.body (omega (arith, within))); gone = r.gone; all = r.all; place = r.place }

  -- at the end
  pub ended : (body : Body) → IsSought code rep frames at x left body es → size rep body ≤ left → (new : List Frame) → new ≡ frames → IsFound code rep es left new 0
  ended body sought all new same = subst (λ fs. IsFound code rep es left fs 0) (sym same) (at_end frames sought)
    where
      at_end : (fs : List Frame) → IsSought code rep fs at x left body es → IsFound code rep es left fs 0
      at_end [] s =
          let whole = ap (total rep) s.run.all in
          let parts = total-append rep (meaning body x) s.run.rest in
          let here = size_is_total rep body x in
          let none = ap (total rep) s.run.outside in
          let most = s.most in
          record { before = es; rest = []; all = sym (append-nil es); place = omega (arith, whole, parts, here, none, most, all); stand = refl; within = refl }
      at_end (f ∷ fs) s = let inner = s.inner (omega arith) in absurd (omega (arith, inner, all))

  -- at an element
  pub at_kind : (kind : Kind) → IsSought code rep frames at x left (one kind) es → left < packed_size rep kind → IsFound code rep es left (at_element at x ∷ frames) left
  at_kind kind sought within =
      let all = sought.run.all in
      record {
        before = [];
        rest = es;
        all = refl;
        place = omega arith;
        stand = element_is_pushed code frames at kind x es sought.run;
        within = subst (AreHeld rep left) (sym all) within;
      }

  -- into a turn
  turns_total : (b : Body) (t : Turns) (qs : List ℕ) → total rep (elements_of (map (turn_round at t b x) qs)) ≡ length qs * size rep b
  turns_total b t [] = omega arith
  turns_total b t (q ∷ qs) =
      let here = size_is_total rep b (x +ℤ turn_offset t q) in
      let rest = turns_total b t qs in
      let both = total-append rep (meaning b (x +ℤ turn_offset t q)) (elements_of (map (turn_round at t b x) qs)) in
      omega (arith, here, rest, both)

  pub into_turn : (t : Turns) (b : Body) → IsSought code rep frames at x left (loop t b) es → (q less : ℕ) → q < t.count → left ≡ q * size rep b + less → less < size rep b
      → IsNarrowed code rep es left ((turn_round at t b x q).frame ∷ frames) (at + 1) (x +ℤ turn_offset t q) less
  into_turn t b sought q less within place small =
      let all = below t.count in
      let long = length-below t.count in
      let there : q < length all = omega (arith, long, within) in
      let parts : all ≡ take q all ++ q ∷ drop (suc q) all = split_at all q 0 there ∙ ap (λ k. take q all ++ k ∷ drop (suc q) all) (get_or-below t.count q 0 within) in
      let gone = map (turn_round at t b x) (take q all) in
      let split : rounds at (loop t b) x ≡ gone ++ turn_round at t b x q ∷ map (turn_round at t b x) (drop (suc q) all) =
      ap (map (turn_round at t b x)) parts ∙ map-append (turn_round at t b x) (take q all) (q ∷ drop (suc q) all) in
      let count : total rep (elements_of gone) ≡ q * size rep b = turns_total b t (take q all) ∙ ap (λ n. n * size rep b) (length-take-le q all (omega (arith, there))) in
      narrowed (loop t b) sought gone (map (turn_round at t b x) (drop (suc q) all)) (turn_round at t b x q) split less (omega (arith, place, count)) small

pub size_is : (rep : Rep) (b : Body) → size_in rep (sizes_of b) ≡ size rep b
size_is Native b = refl
size_is External32 b = refl

-- what a head tells of the body in which a byte is sought
module _ (code : List Instr) (rep : Rep) (frames : List Frame) (at : ℕ) (x : ℤ) (left : ℕ) (body : Body) (es : List Entry) (sought : IsSought code rep frames at x left body es) where
  pub sought_one : (kind : Kind) → slice_get code at ≡ Some (variants.One kind) → IsSought code rep frames at x left (one kind) es
  sought_one kind got = subst (λ b. IsSought code rep frames at x left b es) (one_here at body kind (head_is code at body x sought.run.placed (variants.One kind) got)) sought

  pub sought_loop : (t : Turns) (sizes : Sizes) (next : ℕ) → slice_get code at ≡ Some (variants.Loop t sizes next)
      → (b : Body) × IsSought code rep frames at x left (loop t b) es × (size_in rep sizes ≡ size rep b) × (next ≡ at + (width b + 2))
  sought_loop t sizes next got =
      let is = loop_here at body t sizes next (head_is code at body x sought.run.placed (variants.Loop t sizes next) got) in
      (is.0, subst (λ b. IsSought code rep frames at x left b es) is.1 sought, ap (size_in rep) is.2 ∙ size_is rep is.0, is.3)

  pub sought_each : (count : ℕ) (sizes : Sizes) (next : ℕ) → slice_get code at ≡ Some (variants.Each count sizes next)
      → (spots : List Spot) × (b : Body) × IsSought code rep frames at x left (each spots b) es × (length spots ≡ count) × (size_in rep sizes ≡ size rep b) × (next ≡ at + (length spots + width b + 2))
  sought_each count sizes next got =
      let is = each_here at body count sizes next (head_is code at body x sought.run.placed (variants.Each count sizes next) got) in
      (is.0, is.1, subst (λ b. IsSought code rep frames at x left b es) is.2 sought, is.3, ap (size_in rep) is.4 ∙ size_is rep is.1, is.5)

  pub sought_seq : (count next : ℕ) → slice_get code at ≡ Some (variants.Seq count next)
      → (parts : Parts) × IsSought code rep frames at x left (seq parts) es × (number_of parts ≡ count) × (next ≡ at + (widths parts + 2))
  sought_seq count next got =
      let is = seq_here at body count next (head_is code at body x sought.run.placed (variants.Seq count next) got) in
      (is.0, subst (λ b. IsSought code rep frames at x left b es) is.1 sought, is.2, is.3)

-- numbers with a sign that were written down and read again
pub back64 : (x : ℤ) → mag x < 9223372036854775808 → to_z w64 (of_z w64 x) ≡ x
back64 x fits = to_z-of_z w64 x (record { sfits = fits })

pub back128 : (x : ℤ) → mag x < 170141183460469231731687303715884105728 → to_z w128 (of_z w128 x) ≡ x
back128 x fits = to_z-of_z w128 x (record { sfits = fits })

pub again : (x : ℤ) → nat_abs x < 2 ^ 63 → to_z w64 (of_z w64 x) ≡ x
again x near = to_z-of_z w64 x (fits_signed_from_abs w64 x near)

pub sought_again : (code : List Instr) (rep : Rep) (frames : List Frame) (at : ℕ) (x : ℤ) (left : ℕ) (body : Body) (es : List Entry) → to_z w64 (of_z w64 x) ≡ x
    → IsSought code rep frames at x left body es → IsSought code rep frames at (to_z w64 (of_z w64 x)) left body es
sought_again code rep frames at x left body es back = subst (λ y. IsSought code rep frames at y left body es) (sym back)

pub framed : (new frames : List Frame) (at turn copy : ℕ) (y x : ℤ) → new ≡ (record { instr = at; turn = turn; base = y; copy = copy }) ∷ frames → y ≡ x
    → new ≡ (record { instr = at; turn = turn; base = x; copy = copy }) ∷ frames
framed new frames at turn copy y x is same = is ∙ ap (λ z. (let f : Frame = record { instr = at; turn = turn; base = z; copy = copy } in f) ∷ frames) same

-- in a round, and then further on in its body
pub narrowed_twice : (code : List Instr) (rep : Rep) (outer : List Frame) (left : ℕ) (es : List Entry) (round : Round) (mid : ℕ) (r : IsInRound code rep outer left es round mid)
    → (frames : List Frame) (inner : ℕ) (y : ℤ) (less : ℕ) → IsNarrowed code rep r.inside mid frames inner y less → IsNarrowed code rep es left frames inner y less
narrowed_twice code rep outer left es round mid r frames inner y less m = record {
  body = m.body;
  inside = m.inside;
  sought = m.sought;
  near = m.near;
  gone = r.gone ++ m.gone;
  all = r.all ∙ ap (λ s. r.gone ++ s) m.all ∙ sym (append_assoc r.gone m.gone m.inside);
  place = let first = r.place in let then = m.place in let both = total-append rep r.gone m.gone in omega (arith, first, then, both);
}
