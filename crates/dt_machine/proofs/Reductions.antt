-- When elements are reduced, and what comes of it.
use Rattle.std.proofs.Common.{◌≡◌, ℕ, ◌≤◌, ℤ, pos, true, false, ◌||◌, List, [], ◌∷◌, length, Option, Some, None, IsTrue, inl, inr, refl, ap, ◌∙◌, arith}
use Rattle.std.proofs.lemmas.Bool.{cases_lt, or_left, or_right}
use Rattle.std.proofs.lemmas.List.Sums.{sum_by-cons}
use Rattle.std.specs.Option.{is_none, IsSomeAnd}
use Rattle.dt_copy.proofs.Opened.{number_of}
use Rattle.dt_elems.proofs.Clashes.{overlaps_from_size}
use Rattle.dt_kinds.proofs.Table.{native_size-pos}
use Rattle.dt_kinds.specs.declared.kind.Rep.TheVariants.{Native}
use Rattle.dt_kinds.specs.Kind.{packed_size}
use Rattle.dt_kinds.specs.Name.{is_left_out}
use Rattle.dt_map.specs.declared.entry.Entry.{Entry}
use Rattle.dt_map.specs.Elements.{elements, are_inside, Overlaps}
use Rattle.dt_map.specs.Packed.{total}
use Rattle.dt_map.specs.Typemap.{Marked}
use Rattle.dt_names.specs.declared.kept.Kept.{Kept}
use Rattle.dt_names.specs.declared.stop.Stop.{Stop}
use Rattle.dt_names.specs.declared.stop.Stop.TheVariants.{Refused, NoMemory}
use Rattle.dt_names.proofs.WordLemmas.{stands_known, left_out_known}
use Rattle.dt_names.specs.Missing.{IsMissing}
use Rattle.dt_names.specs.Names.{under}
use Rattle.dt_reduce.specs.Plan.{Reduction, AreInside, CanReduce}
use Rattle.dt_reduce.specs.Reduced.{reduced}
use Rattle.dt_reply.specs.declared.refusal.Refusal.{Refusal}
use Rattle.dt_reply.specs.declared.refusal.Refusal.TheVariants as refusal
use Rattle.dt_reply.specs.declared.reply.Reply.TheVariants.{Reduced}
use Rattle.dt_script.specs.declared.command.Command.{Command}
use Rattle.dt_script.specs.declared.command.Command.TheVariants.{Reduce}
use Rattle.dt_script.specs.declared.command.Op.{Op}
use Rattle.dt_machine.specs.declared.outcome.Change.TheVariants.{ReduceBytes}
use Rattle.dt_machine.specs.Joins.{join_of}
use Rattle.dt_machine.specs.Operation.{counted_row, IsUnreduced}
use Rattle.dt_machine.specs.Outcome.{CanChange, IsStop, changed, made_in}
use Rattle.dt_machine.specs.Refusal.{IsRefusedBy, IsAllowed}
use Rattle.dt_machine.specs.Row.{IsFirst, IsClear}
use Rattle.dt_machine.specs.Sides.{Side, side, is_side_unknown, IsNotCommitted, OfReduction, reduction_between}
use Rattle.dt_machine.specs.State.{State, type_of, buffer_of, is_unknown, with_bytes, with_count}
use Rattle.dt_machine.specs.Step.{Performs}
use Rattle.dt_machine.proofs.Copies.{neither, side_known}
use Rattle.dt_machine.proofs.Rows.{refused, allowed, some_and, and_some}
use Rattle.dt_machine.proofs.TypeWords.{is_supported}

-- each element has a byte
some_bytes_each : (es : List Entry) → length es ≤ total Native es
some_bytes_each [] = omega arith
some_bytes_each (e ∷ es) =
    let rest = some_bytes_each es in
    omega (arith, rest, native_size-pos e.kind, sum_by-cons (λ (f : Entry). packed_size Native f.kind) e es)

-- elements that lie inside a buffer and don't overlap are few, wherever they begin
pub few_apart : (m : Marked) (count : ℕ) (origin : ℤ) (len : ℕ) → len ≤ 16777216 → are_inside len (elements m count origin) ≡ true
    → (¬ Overlaps (elements m count origin)) → length (elements m count (pos 0)) ≤ 16777216
few_apart m count origin len small inside apart =
    let fs = elements m count origin in
    let few : total Native fs ≤ len = elim (cases_lt len (total Native fs)) [ inl more ↦ absurd (apart (overlaps_from_size len fs inside more)) | inr most ↦ most ] in
    omega (arith, few, small, some_bytes_each fs, number_of m count origin, number_of m count (pos 0))

-- `reduce OP COUNT TYPE BUFFER ORIGIN BUFFER ORIGIN`
module _ (s : State) (op : Op) (count : ℤ) (ty source : List ℕ) (source_origin : ℤ) (target : List ℕ) (target_origin : ℤ) where
  abbrev reduces : Command
  reduces = Reduce op count ty source source_origin target target_origin

  abbrev from_side : Side
  from_side = side count ty source source_origin

  abbrev onto_side : Side
  onto_side = side count ty target target_origin

  pub source_lost : buffer_of s source ≡ None → IsRefusedBy s reduces refusal.UnknownName
  source_lost none =
      refused s reduces refusal.UnknownName
      (or_left (is_side_unknown s from_side) (is_side_unknown s onto_side)
      (or_right (is_unknown s ty) (is_none (buffer_of s source)) (ap is_none none)))

  pub target_lost : buffer_of s target ≡ None → IsRefusedBy s reduces refusal.UnknownName
  target_lost none =
      refused s reduces refusal.UnknownName
      (or_right (is_side_unknown s from_side) (is_side_unknown s onto_side)
      (or_right (is_unknown s ty) (is_none (buffer_of s target)) (ap is_none none)))

  -- both buffers stand
  module _ (old held : List ℕ) (there : buffer_of s source ≡ Some old) (here : buffer_of s target ≡ Some held) where
    known_by : is_unknown s ty ≡ false → ¬ IsTrue (is_side_unknown s from_side || is_side_unknown s onto_side)
    known_by known =
        neither (is_side_unknown s from_side) (is_side_unknown s onto_side) (side_known s count ty source source_origin old known there)
        (side_known s count ty target target_origin held known here)

    pub type_missing : (stop : Stop) → IsMissing s.types ty stop → IsStop s reduces stop
    type_missing (Refused refusal.UnknownName) is =
        refused s reduces refusal.UnknownName
        (or_left (is_side_unknown s from_side) (is_side_unknown s onto_side) (or_left (is_unknown s ty) (is_none (buffer_of s source)) is))
    type_missing (Refused refusal.UnsupportedKind) is = refused s reduces refusal.UnsupportedKind (known_by (left_out_known s.types ty is), is)
    type_missing NoMemory is = tt
    type_missing (Refused other) is = absurd is

    -- and the type
    module _ (kept : Kept) (is : type_of s ty ≡ Some kept) where
      abbrev the_reduction : Reduction
      the_reduction = reduction_between from_side onto_side kept old held

      known : ¬ IsTrue (is_side_unknown s from_side || is_side_unknown s onto_side)
      known = known_by (stands_known s.types ty kept is)

      supported : ¬ IsTrue (is_left_out ty)
      supported = is_supported s ty kept is

      abbrev IsBare : Kept → Type 0
      IsBare kept = kept.committed ≡ false

      committed : (¬ IsBare kept) → ¬ IsNotCommitted s ty
      committed not bare = not (and_some (type_of s ty) IsBare kept is bare)

      -- what holds of the reduction
      pub of_reduction : (P : Reduction → Type 0) → P the_reduction → OfReduction s from_side onto_side P
      of_reduction P holds =
          some_and (type_of s ty) (λ kept. IsSomeAnd (buffer_of s source) (λ old. IsSomeAnd (buffer_of s target) (λ held. P (reduction_between from_side onto_side kept old held)))) kept is
          (some_and (buffer_of s source) (λ old. IsSomeAnd (buffer_of s target) (λ held. P (reduction_between from_side onto_side kept old held))) old there
          (some_and (buffer_of s target) (λ held. P (reduction_between from_side onto_side kept old held)) held here holds))

      not_reduction : (P : Reduction → Type 0) → (¬ P the_reduction) → ¬ OfReduction s from_side onto_side P
      not_reduction P not holds =
          not
          (and_some (buffer_of s target) (λ held. P (reduction_between from_side onto_side kept old held)) held here
          (and_some (buffer_of s source) (λ old. IsSomeAnd (buffer_of s target) (λ held. P (reduction_between from_side onto_side kept old held))) old there
          (and_some (type_of s ty) (λ kept. IsSomeAnd (buffer_of s source) (λ old. IsSomeAnd (buffer_of s target) (λ held. P (reduction_between from_side onto_side kept old held)))) kept is
          holds)))

      pub count_withheld : (refusal : Refusal) → IsFirst (counted_row kept count) refusal → IsRefusedBy s reduces refusal
      count_withheld refusal.NotCommitted h = refused s reduces refusal.NotCommitted (known, (supported, some_and (type_of s ty) IsBare kept is h))
      count_withheld refusal.BadArgument h = refused s reduces refusal.BadArgument (known, (supported, (committed h.0, h.1)))
      count_withheld other h = absurd h.1.1

      -- nothing is said against type and count
      module _ (clear : IsClear (counted_row kept count)) where
        pub reduce_unreduced : (stop : Stop) → IsUnreduced the_reduction stop → IsStop s reduces stop
        reduce_unreduced (Refused refusal.Outside) out =
            refused s reduces refusal.Outside (known, (supported, (committed clear.0, (clear.1.0, of_reduction (λ r. ¬ AreInside r) out))))
        reduce_unreduced (Refused refusal.Overlap) (inside, over) =
            refused s reduces refusal.Overlap (
              known,
              (
                supported,
                (committed clear.0, (clear.1.0, (not_reduction (λ r. ¬ AreInside r) (λ out. out inside), of_reduction (λ r. Overlaps r.target) over))),
              ),
            )
        reduce_unreduced NoMemory h = tt
        reduce_unreduced (Refused other) h = absurd h

        -- and it can be made
        module _ (can : CanReduce the_reduction) where
          pub reduce_same : source ≡ target → IsRefusedBy s reduces refusal.SameBuffer
          reduce_same same =
              refused s reduces refusal.SameBuffer (
                known,
                (
                  supported,
                  (
                    committed clear.0,
                    (
                      clear.1.0,
                      (not_reduction (λ r. ¬ AreInside r) (λ out. out can.inside), (not_reduction (λ r. Overlaps r.target) can.apart, same)),
                    ),
                  ),
                ),
              )

          pub reduce_allowed : (¬ (source ≡ target)) → IsAllowed s reduces
          reduce_allowed differ =
              allowed s reduces (
                known,
                (
                  supported,
                  (
                    committed clear.0,
                    (
                      clear.1.0,
                      (not_reduction (λ r. ¬ AreInside r) (λ out. out can.inside), (not_reduction (λ r. Overlaps r.target) can.apart, (differ, tt))),
                    ),
                  ),
                ),
              )

      pub reduce_can : (¬ (source ≡ target)) → CanChange (ReduceBytes op the_reduction source target) s
      reduce_can differ = (
        differ,
        some_and (under source s.buffers) (λ bytes. length bytes ≡ length old) old there refl,
        some_and (under target s.buffers) (λ bytes. length bytes ≡ length held) held here refl,
      )

      pub reduce_performs : Performs reduces s (Reduced (length the_reduction.target)) (with_count (changed (ReduceBytes op the_reduction source target) s))
      reduce_performs =
          let makes = reduced (join_of op) the_reduction.source the_reduction.target in
          let of : Option (List ℕ) → Option (List ℕ) → State = λ o p. record s { buffers = made_in s.buffers target o p makes } in
          let made : changed (ReduceBytes op the_reduction source target) s ≡ with_bytes s target (makes old held) =
          ap (λ o. of o (under target s.buffers)) there ∙ ap (of (Some old)) here
          in (kept, old, held, is, there, here, (refl, ap with_count made))
