-- The laws of frames.
use Rattle.std.specs.Prelude.{◌≡◌, ℕ, ◌+◌, ◌<◌, ◌≤◌, ℤ, pos, List, [], ◌∷◌, ◌++◌, length}
use Rattle.std.specs.List.{AllByRecursion}
use Rattle.std.proofs.Common.{refl, sym, ap, subst, ◌∙◌, arith, append_assoc, append-nil}
use Rattle.std.proofs.lemmas.Grind.{flat_map-append}
use Rattle.dt_cursor.specs.declared.frames.Frame.{Frame}
use Rattle.dt_cursor.specs.Frames.{IsPlaced, IsHalfRun, ToCome, IsToRun}
use Rattle.dt_cursor.specs.Laws.{RoundsAreMeaning, HalfRunIsSuffix, ProgramIsToRun, RoundIsPushed, ElementIsPushed, ElementIsLeft, NextRound, RoundsAreLeft, FramesAreFew}
use Rattle.dt_cursor.specs.Rounds.{Round, rounds, elements_of}
use Rattle.dt_cursor.proofs.Placed.{elements_rounds, IsRound, rounds_placed}
use Rattle.dt_kinds.specs.declared.kind.Rep.TheVariants.{Native}
use Rattle.dt_layout.specs.Body.{Body, meaning, size, opened}
use Rattle.dt_layout.specs.declared.instr.Instr.{Instr}
use Rattle.dt_layout.specs.Program.{spelling}
use Rattle.dt_layout.proofs.All.{all_split}
use Rattle.dt_map.specs.declared.entry.Entry.{Entry}

pub rounds_are_meaning : RoundsAreMeaning
rounds_are_meaning at body x some = elements_rounds at body x some

-- a round of a body that is placed
module _ (code : List Instr) (at : ℕ) (body : Body) (x : ℤ) (placed : IsPlaced code at body x) (gone later : List Round) (round : Round) (split : rounds at body x ≡ gone ++ round ∷ later) where
  pub is_round : IsRound code (opened body) at x round
  is_round = (all_split (IsRound code (opened body) at x) gone (round ∷ later) (subst (λ rs. AllByRecursion (IsRound code (opened body) at x) rs) split (rounds_placed code at body x placed))).1.0

  pub is_suffix : meaning body x ≡ elements_of gone ++ (meaning round.body round.offset ++ elements_of later)
  is_suffix =
      let deep = is_round.shallow in
      elements_rounds at body x (omega (arith, deep)) ∙ ap elements_of split ∙ flat_map-append (λ (r : Round). meaning r.body r.offset) gone (round ∷ later)

  pub half_run : (levels : ℕ) → levels + opened body ≤ 128 → 0 < size Native round.body → IsHalfRun code levels round.frame body later
  half_run levels room some = record {
    placed = subst (λ i. IsPlaced code i body round.frame.base) (sym is_round.instr) (subst (λ y. IsPlaced code at body y) (sym is_round.base) placed);
    room = room;
    gone = gone;
    round = round;
    split = subst (λ i. rounds i body round.frame.base ≡ gone ++ round ∷ later) (sym is_round.instr) (subst (λ y. rounds at body y ≡ gone ++ round ∷ later) (sym is_round.base) split);
    here = refl;
    some = some;
  }

  pub to_run : (frames : List Frame) (rest : List Entry) → length frames + opened body ≤ 128 → 0 < size Native round.body → ToCome code frames rest
      → IsToRun code (round.frame ∷ frames) round.at round.body round.offset (meaning round.body round.offset ++ (elements_of later ++ rest))
  to_run frames rest room some outside = record {
    placed = is_round.placed some;
    room = let deep = is_round.shallow in omega (arith, room, deep);
    rest = elements_of later ++ rest;
    outside = (body, later, rest, half_run (length frames) room some, outside, refl);
    all = refl;
  }

pub half_run_is_suffix : HalfRunIsSuffix
half_run_is_suffix code levels frame body later half =
    is_suffix code frame.instr body frame.base half.placed half.gone later half.round half.split

pub program_is_to_run : ProgramIsToRun
program_is_to_run code body is = record {
  placed = record {
    before = [];
    after = [];
    spelled = is.spelled ∙ sym (append-nil (spelling 0 body));
    place = refl;
    lawful = is.lawful;
    offset = λ some. omega arith;
  };
  room = let shallow = is.shallow in omega (arith, shallow);
  rest = [];
  outside = refl;
  all = sym (append-nil (meaning body (pos 0)));
}

pub round_is_pushed : RoundIsPushed
round_is_pushed code frames at body x es gone later round is split some =
    let here : List Entry = meaning round.body round.offset in (
      here ++ (elements_of later ++ is.rest),
      to_run code at body x is.placed gone later round split frames is.rest is.room some is.outside,
      is.all ∙ ap (λ s. s ++ is.rest) (is_suffix code at body x is.placed gone later round split)
          ∙ append_assoc (elements_of gone) (here ++ elements_of later) is.rest
          ∙ ap (λ s. elements_of gone ++ s) (append_assoc here (elements_of later) is.rest),
    )

pub element_is_pushed : ElementIsPushed
element_is_pushed code frames at kind x es is = (kind, is.rest, is.placed, refl, is.outside, is.all)

pub element_is_left : ElementIsLeft
element_is_left code frame frames es stand = ((record { kind = stand.0; disp = frame.base }), stand.1, stand.5, stand.4)

pub next_round : NextRound
next_round code frame frames body later skipped after next rest half outside split nothing some =
    let before : List Round = half.gone ++ half.round ∷ skipped in
    let whole : rounds frame.instr body frame.base ≡ before ++ next ∷ after =
    half.split ∙ ap (λ rs. half.gone ++ half.round ∷ rs) split ∙ sym (append_assoc half.gone (half.round ∷ skipped) (next ∷ after)) in
    let all : meaning next.body next.offset ++ (elements_of after ++ rest) ≡ elements_of later ++ rest =
    sym (append_assoc (meaning next.body next.offset) (elements_of after) rest)
    ∙ ap (λ s. (s ++ elements_of (next ∷ after)) ++ rest) (sym nothing)
    ∙ ap (λ s. s ++ rest) (sym (flat_map-append (λ (r : Round). meaning r.body r.offset) skipped (next ∷ after)) ∙ ap elements_of (sym split)) in
    subst (IsToRun code (next.frame ∷ frames) next.at next.body next.offset) all
    (to_run code frame.instr body frame.base half.placed before after next whole frames rest half.room some outside)

pub rounds_are_left : RoundsAreLeft
rounds_are_left code frame frames body later rest half outside nothing = subst (ToCome code frames) (ap (λ s. s ++ rest) (sym nothing)) outside

pub frames_are_few : FramesAreFew
frames_are_few code [] es stand = omega arith
frames_are_few code (frame ∷ []) es stand = omega arith
frames_are_few code (frame ∷ outer ∷ frames) es stand =
    let half = stand.4.3 in
    let room = half.room in
    let deep = (is_round code outer.instr stand.4.0 outer.base half.placed half.gone stand.4.1 half.round half.split).shallow in
    omega (arith, room, deep)
