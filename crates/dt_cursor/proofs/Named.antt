-- Parts of one element, named and passed.
use mir.Syntax.{w64}
use mir.Val.{to_z, of_z}
use Rattle.std.specs.Prelude.{◌≡◌, Option, Some, None, IfSome, IfNone, ℕ, ◌+◌, ◌^◌, ◌<◌, ◌≤◌, ℤ, ◌+ℤ◌, ◌*ℤ◌, pos, nat_abs, List, [], ◌∷◌, ◌++◌, drop, slice_get}
use Rattle.std.proofs.Common.{refl, sym, ap, subst, ◌∙◌, arith, append-nil}
use Rattle.std.proofs.lemmas.Int.{ints, to_z-of_z, fits_signed_from_abs}
use Rattle.dt_cursor.specs.declared.frames.Frame.{Frame}
use Rattle.dt_cursor.specs.Ahead.{AreAhead, AreTaken, ArePassed}
use Rattle.dt_cursor.specs.Frames.{StandAt, ToCome}
use Rattle.dt_cursor.specs.Search.{AreHeld}
use Rattle.dt_cursor.proofs.Climbing.{packed_size-pos, total-cons}
use Rattle.dt_cursor.proofs.Reading.{head_here}
use Rattle.dt_kinds.specs.declared.kind.Kind.{Kind}
use Rattle.dt_kinds.specs.declared.kind.Rep.{Rep}
use Rattle.dt_kinds.specs.Kind.{native_size, packed_size}
use Rattle.dt_kinds.proofs.Table.{native_size-pos}
use Rattle.dt_layout.specs.Body.{one}
use Rattle.dt_layout.specs.declared.instr.Instr.{Instr}
use Rattle.dt_layout.specs.declared.instr.Instr.TheVariants as variants
use Rattle.dt_map.specs.declared.entry.Entry.{Entry}
use Rattle.dt_map.specs.Packed.{total}
use Rattle.dt_rows.specs.declared.rows.Rows.{Rows}
use Rattle.dt_rows.specs.Rows.{AreRows, adjacent, elements_of_rows}

abbrev pub entry_at : Kind → ℤ → Entry
entry_at kind x = record { kind = kind; disp = x }

-- the element at which frames stand, and what comes after it
pub record IsHere (code : List Instr) (frame : Frame) (frames : List Frame) (es : List Entry) : Type 0 where
  pub kind : Kind
  pub rest : List Entry
  pub read : slice_get code frame.instr ≡ Some (variants.One kind)
  pub come : ToCome code (drop 1 frames) rest
  pub all : es ≡ entry_at kind frame.base ∷ rest
  pub near : nat_abs frame.base < 2 ^ 63

pub is_here : (code : List Instr) (frame : Frame) (frames : List Frame) (es : List Entry) → slice_get frames 0 ≡ Some frame → StandAt code frames es → IsHere code frame frames es
is_here code frame [] es top stand = cc
is_here code frame (f ∷ frames) es top stand =
    let same : f ≡ frame = cc in
    subst (λ (g : Frame). IsHere code g (f ∷ frames) es) same (record {
      kind = stand.0;
      rest = stand.1;
      read = head_here code f.instr (one stand.0) f.base stand.2;
      come = stand.4;
      all = stand.5;
      near = stand.2.offset (native_size-pos stand.0);
    })

-- at an element, by the kind that is read
module _ (code : List Instr) (rep : Rep) (frame : Frame) (frames : List Frame) (es : List Entry) (here : IsHere code frame frames es) (kind : Kind) (read : slice_get code frame.instr ≡ Some (variants.One kind)) where
  pub same_here : here.kind ≡ kind
  same_here = let both = sym here.read ∙ read in cc

  pub elements_here : es ≡ entry_at kind frame.base ∷ here.rest
  elements_here = here.all ∙ ap (λ k. entry_at k frame.base ∷ here.rest) same_here

  pub held_here : (held : ℕ) → AreHeld rep held es → held < packed_size rep kind
  held_here held are = let h : AreHeld rep held (entry_at kind frame.base ∷ here.rest) = subst (AreHeld rep held) elements_here are in h

pub back_here : (x : ℤ) → nat_abs x < 2 ^ 63 → to_z w64 (of_z w64 x) ≡ x
back_here x near = to_z-of_z w64 x (fits_signed_from_abs w64 x near)

-- what is left when the innermost frame is taken away
pub popped : (o : Option Frame) (old new : List Frame) → IfSome o (λ f. old ≡ f ∷ new) → IfNone o ((old ≡ []) × (new ≡ [])) → drop 1 old ≡ new
popped None old new some none = ap (drop 1) none.0 ∙ sym none.1
popped (Some f) old new some none = ap (drop 1) some

-- bytes of one element, as rows
abbrev pub part_rows : Kind → ℤ → ℕ → ℕ → Rows
part_rows kind x skip bytes = record { run = record { kind = kind; disp = x; elements = 1; skip = skip; bytes = bytes }; rows = 1; step = pos 0 }

pub no_step : (x y : ℤ) → x +ℤ (pos 0 *ℤ y) ≡ x
no_step x y = omega (arith, ints)

pub elements_of_part : (kind : Kind) (x : ℤ) (skip bytes : ℕ) → elements_of_rows (part_rows kind x skip bytes) ≡ entry_at kind x ∷ []
elements_of_part kind x skip bytes =
    append-nil (adjacent kind 1 (x +ℤ (pos 0 *ℤ pos 0))) ∙ ap (λ y. entry_at kind y ∷ []) (no_step (x +ℤ (pos 0 *ℤ pos 0)) (pos (native_size kind)) ∙ no_step x (pos 0))

module _ (rep : Rep) (kind : Kind) (x : ℤ) (skip bytes : ℕ) (some : 0 < bytes) (within : skip + bytes ≤ packed_size rep kind) where
  pub part_shape : AreRows rep (part_rows kind x skip bytes)
  part_shape = record {
    some = omega arith;
    run = record { some = some; skip = omega (arith, some, within); within = omega (arith, within); each = omega (arith, some) };
    whole = λ more. absurd (omega (arith, more));
  }

  pub part_ahead : (es rest : List Entry) → es ≡ entry_at kind x ∷ rest → AreAhead rep es skip (part_rows kind x skip bytes)
  part_ahead es rest all = record { shape = part_shape; skip = refl; after = rest; all = all ∙ ap (λ s. s ++ rest) (sym (elements_of_part kind x skip bytes)) }

  pub part_passed : (code : List Instr) (frames : List Frame) (es rest : List Entry) → es ≡ entry_at kind x ∷ rest → StandAt code frames es → skip + bytes < packed_size rep kind
      → ArePassed code rep es skip frames (record { rows = part_rows kind x skip bytes; held = skip + bytes })
  part_passed code frames es rest all stand less = record {
    ahead = part_ahead es rest all;
    found = record { before = []; rest = es; all = refl; place = omega arith; stand = stand; within = subst (AreHeld rep (skip + bytes)) (sym all) less };
  }

  pub part_taken : (code : List Instr) (frames : List Frame) (es rest : List Entry) → es ≡ entry_at kind x ∷ rest → ToCome code frames rest → skip + bytes ≡ packed_size rep kind
      → AreTaken code rep es skip frames (part_rows kind x skip bytes)
  unfolding part_ahead
  part_taken code frames es rest all come end = record {
    ahead = part_ahead es rest all;
    whole = omega (arith, end, total-cons rep (entry_at kind x) [], ap (total rep) (elements_of_part kind x skip bytes));
    come = come;
  }

-- what was taken was passed, once frames stand at what comes after
pub taken_passed : (code : List Instr) (rep : Rep) (es : List Entry) (held : ℕ) (old new : List Frame) (r : Rows) → AreTaken code rep es held old r
    → ((after : List Entry) → ToCome code old after → StandAt code new after) → ArePassed code rep es held new (record { rows = r; held = 0 })
taken_passed code rep es held old new r taken climbed = record {
  ahead = taken.ahead;
  found = record {
    before = elements_of_rows r;
    rest = taken.ahead.after;
    all = taken.ahead.all;
    place = let whole = taken.whole in omega (arith, whole);
    stand = climbed taken.ahead.after taken.come;
    within = not_begun taken.ahead.after;
  };
}
  where
    not_begun : (fs : List Entry) → AreHeld rep 0 fs
    not_begun [] = refl
    not_begun (e ∷ fs) = packed_size-pos rep e.kind

-- the same taking, of what is the same
pub taken_at : (code : List Instr) (rep : Rep) (es : List Entry) (held : ℕ) (old new : List Frame) (r s : Rows) → old ≡ new → r ≡ s → AreTaken code rep es held old r → AreTaken code rep es held new s
taken_at code rep es held old new r s frames rows taken = subst (λ fs. AreTaken code rep es held fs s) frames (subst (AreTaken code rep es held old) rows taken)

-- frames of which the innermost was taken away
pub stood : (code : List Instr) (frame : Frame) (old new : List Frame) (es : List Entry) → slice_get old 0 ≡ Some frame → drop 1 old ≡ new → StandAt code old es → StandAt code (frame ∷ new) es
stood code frame [] new es top rest stand = cc
stood code frame (f ∷ fs) new es top rest stand =
    let same : f ≡ frame = cc in
    subst (λ g. StandAt code (g ∷ new) es) same (subst (λ gs. StandAt code (f ∷ gs) es) rest stand)
