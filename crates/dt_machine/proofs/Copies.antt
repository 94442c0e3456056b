-- When elements are copied, and what comes of it.
use Rattle.std.proofs.Common.{◌≡◌, ◌⊎◌, ℕ, ◌<◌, ℤ, Bool, true, false, ◌||◌, List, length, Option, Some, None, inl, inr, IsTrue, slice_get, refl, ap, ◌∙◌, arith}
use Rattle.std.proofs.lemmas.Bool.{or_from, or_left, or_right}
use Rattle.std.specs.Option.{is_none, IsSomeAnd}
use Rattle.dt_copy.proofs.Alike.{get-take}
use Rattle.dt_copy.specs.Copied.{copied, signature}
use Rattle.dt_copy.specs.Plan.{Copy, AreInside, CanCopy, DifferFirst}
use Rattle.dt_kinds.specs.declared.kind.Rep.TheVariants.{Native}
use Rattle.dt_kinds.specs.Name.{is_left_out}
use Rattle.dt_map.specs.Elements.{Overlaps}
use Rattle.dt_map.specs.Packed.{total}
use Rattle.dt_names.specs.declared.kept.Kept.{Kept}
use Rattle.dt_names.specs.declared.stop.Stop.{Stop}
use Rattle.dt_names.specs.declared.stop.Stop.TheVariants.{Refused, NoMemory}
use Rattle.dt_names.proofs.WordLemmas.{stands_known, stands_supported}
use Rattle.dt_names.specs.Missing.{IsMissing}
use Rattle.dt_names.specs.Names.{under}
use Rattle.dt_reply.specs.declared.refusal.Refusal.{Refusal}
use Rattle.dt_reply.specs.declared.refusal.Refusal.TheVariants as refusal
use Rattle.dt_reply.specs.declared.reply.Reply.TheVariants.{Copied}
use Rattle.dt_script.specs.declared.command.Command.{Command}
use Rattle.dt_script.specs.declared.command.Command.TheVariants.{Copy as CopyCommand}
use Rattle.dt_machine.specs.declared.outcome.Change.TheVariants.{CopyBytes}
use Rattle.dt_machine.specs.Operation.{both_row, AreMissing, IsUncopied}
use Rattle.dt_machine.specs.Outcome.{CanChange, IsStop, changed, made_in}
use Rattle.dt_machine.specs.Refusal.{IsRefusedBy, IsAllowed}
use Rattle.dt_machine.specs.Row.{IsFirst, IsClear}
use Rattle.dt_machine.specs.Sides.{Side, side, is_side_unknown, IsNotCommitted, OfCopy, Differ, copy_between}
use Rattle.dt_machine.specs.State.{State, type_of, buffer_of, is_unknown, with_bytes, with_count}
use Rattle.dt_machine.specs.Step.{Performs}
use Rattle.dt_machine.proofs.Rows.{refused, allowed, contrary, some_and, and_some}

-- of two tests neither holds
pub neither : (a b : Bool) → a ≡ false → b ≡ false → ¬ IsTrue (a || b)
neither a b not nor = contrary (a || b) (or_from a b not nor)

-- a side whose buffer stands is unknown where its type is
pub side_known : (s : State) (count : ℤ) (ty buffer : List ℕ) (origin : ℤ) (held : List ℕ) → is_unknown s ty ≡ false → buffer_of s buffer ≡ Some held
    → is_side_unknown s (side count ty buffer origin) ≡ false
side_known s count ty buffer origin held known stands = or_from (is_unknown s ty) (is_none (buffer_of s buffer)) known (ap is_none stands)

-- why one of two type words stands for nothing, by each
pub first_missing : (s : State) (first second : List ℕ) → is_unknown s first ≡ false → is_unknown s second ≡ false → (stop : Stop) → IsMissing s.types first stop
    → AreMissing s first second stop
first_missing s first second known also (Refused refusal.UnknownName) is = or_left (is_unknown s first) (is_unknown s second) is
first_missing s first second known also (Refused refusal.UnsupportedKind) is =
    (or_from (is_unknown s first) (is_unknown s second) known also, or_left (is_left_out first) (is_left_out second) is)
first_missing s first second known also NoMemory is = tt
first_missing s first second known also stop is = absurd is

pub second_missing : (s : State) (first second : List ℕ) → is_unknown s first ≡ false → is_unknown s second ≡ false → (stop : Stop) → IsMissing s.types second stop
    → AreMissing s first second stop
second_missing s first second known also (Refused refusal.UnknownName) is = or_right (is_unknown s first) (is_unknown s second) is
second_missing s first second known also (Refused refusal.UnsupportedKind) is =
    (or_from (is_unknown s first) (is_unknown s second) known also, or_right (is_left_out first) (is_left_out second) is)
second_missing s first second known also NoMemory is = tt
second_missing s first second known also stop is = absurd is

-- kinds that differ first at a place differ at one, and none differ that can be copied
pub differs : (c : Copy) (at : ℕ) → DifferFirst c at → Differ c
differs c at first = (at, first.within, first.here)

pub none_differ : (c : Copy) → CanCopy c → ¬ Differ c
none_differ c can (at, within, here) =
    here (ap (λ kinds. slice_get kinds at) can.alike ∙ get-take (signature c.target) (length c.source) at within)

-- `copy COUNT TYPE BUFFER ORIGIN COUNT TYPE BUFFER ORIGIN`
module _ (s : State) (source_count : ℤ) (source_type source : List ℕ) (source_origin target_count : ℤ) (target_type target : List ℕ) (target_origin : ℤ) where
  abbrev copies : Command
  copies = CopyCommand source_count source_type source source_origin target_count target_type target target_origin

  abbrev from_side : Side
  from_side = side source_count source_type source source_origin

  abbrev onto_side : Side
  onto_side = side target_count target_type target target_origin

  pub source_unknown : buffer_of s source ≡ None → IsRefusedBy s copies refusal.UnknownName
  source_unknown none =
      refused s copies refusal.UnknownName
      (or_left (is_side_unknown s from_side) (is_side_unknown s onto_side)
      (or_right (is_unknown s source_type) (is_none (buffer_of s source)) (ap is_none none)))

  pub target_unknown : buffer_of s target ≡ None → IsRefusedBy s copies refusal.UnknownName
  target_unknown none =
      refused s copies refusal.UnknownName
      (or_right (is_side_unknown s from_side) (is_side_unknown s onto_side)
      (or_right (is_unknown s target_type) (is_none (buffer_of s target)) (ap is_none none)))

  -- both buffers stand
  module _ (old held : List ℕ) (there : buffer_of s source ≡ Some old) (here : buffer_of s target ≡ Some held) where
    unknown_types : IsTrue (is_unknown s source_type || is_unknown s target_type) → IsTrue (is_side_unknown s from_side || is_side_unknown s onto_side)
    unknown_types is =
        by (is_unknown s source_type) is
      where
        by : (b : Bool) → IsTrue (b || is_unknown s target_type)
            → IsTrue ((b || is_none (buffer_of s source)) || is_side_unknown s onto_side)
        by true is = refl
        by false is =
            or_right (is_none (buffer_of s source)) (is_side_unknown s onto_side)
            (or_left (is_unknown s target_type) (is_none (buffer_of s target)) is)

    known_types : (is_unknown s source_type || is_unknown s target_type) ≡ false → ¬ IsTrue (is_side_unknown s from_side || is_side_unknown s onto_side)
    known_types is = neither (is_side_unknown s from_side) (is_side_unknown s onto_side) (by (is_unknown s source_type) (is_unknown s target_type) is).0
        (by (is_unknown s source_type) (is_unknown s target_type) is).1
      where
        by : (a b : Bool) → (a || b) ≡ false → ((a || is_none (buffer_of s source)) ≡ false) × ((b || is_none (buffer_of s target)) ≡ false)
        by true b is = absurd (contrary true is refl)
        by false true is = absurd (contrary true is refl)
        by false false is = (ap is_none there, ap is_none here)

    pub types_missing : (stop : Stop) → AreMissing s source_type target_type stop → IsStop s copies stop
    types_missing (Refused refusal.UnknownName) is = refused s copies refusal.UnknownName (unknown_types is)
    types_missing (Refused refusal.UnsupportedKind) (known, is) = refused s copies refusal.UnsupportedKind (known_types known, is)
    types_missing NoMemory is = tt
    types_missing (Refused other) is = absurd is

    -- and both types
    module _ (from onto : Kept) (one : type_of s source_type ≡ Some from) (other : type_of s target_type ≡ Some onto) where
      abbrev the_copy : Copy
      the_copy = copy_between from_side onto_side from onto old held

      known : ¬ IsTrue (is_side_unknown s from_side || is_side_unknown s onto_side)
      known = neither (is_side_unknown s from_side) (is_side_unknown s onto_side)
          (side_known s source_count source_type source source_origin old (stands_known s.types source_type from one) there)
          (side_known s target_count target_type target target_origin held (stands_known s.types target_type onto other) here)

      supported : ¬ IsTrue (is_left_out source_type || is_left_out target_type)
      supported = neither (is_left_out source_type) (is_left_out target_type) (stands_supported s.types source_type from one) (stands_supported s.types target_type onto other)

      abbrev IsBare : Kept → Type 0
      IsBare kept = kept.committed ≡ false

      bare : (IsBare from) ⊎ (IsBare onto) → (IsNotCommitted s source_type) ⊎ (IsNotCommitted s target_type)
      bare (inl is) = inl (some_and (type_of s source_type) IsBare from one is)
      bare (inr is) = inr (some_and (type_of s target_type) IsBare onto other is)

      committed : (¬ ((IsBare from) ⊎ (IsBare onto))) → ¬ ((IsNotCommitted s source_type) ⊎ (IsNotCommitted s target_type))
      committed not (inl is) = not (inl (and_some (type_of s source_type) IsBare from one is))
      committed not (inr is) = not (inr (and_some (type_of s target_type) IsBare onto other is))

      -- what holds of the copy
      pub of_copy : (P : Copy → Type 0) → P the_copy → OfCopy s from_side onto_side P
      of_copy P is =
          some_and (type_of s source_type)
          (λ from. IsSomeAnd (type_of s target_type) (λ onto. IsSomeAnd (buffer_of s source) (λ old. IsSomeAnd (buffer_of s target) (λ held. P (copy_between from_side onto_side from onto old held)))))
          from one
          (some_and (type_of s target_type)
          (λ onto. IsSomeAnd (buffer_of s source) (λ old. IsSomeAnd (buffer_of s target) (λ held. P (copy_between from_side onto_side from onto old held))))
          onto other
          (some_and (buffer_of s source) (λ old. IsSomeAnd (buffer_of s target) (λ held. P (copy_between from_side onto_side from onto old held))) old there
          (some_and (buffer_of s target) (λ held. P (copy_between from_side onto_side from onto old held)) held here is)))

      pub copy_is : (P : Copy → Type 0) → OfCopy s from_side onto_side P → P the_copy
      copy_is P is =
          and_some (buffer_of s target) (λ held. P (copy_between from_side onto_side from onto old held)) held here
          (and_some (buffer_of s source) (λ old. IsSomeAnd (buffer_of s target) (λ held. P (copy_between from_side onto_side from onto old held))) old there
          (and_some (type_of s target_type)
          (λ onto. IsSomeAnd (buffer_of s source) (λ old. IsSomeAnd (buffer_of s target) (λ held. P (copy_between from_side onto_side from onto old held))))
          onto other
          (and_some (type_of s source_type)
          (λ from. IsSomeAnd (type_of s target_type) (λ onto. IsSomeAnd (buffer_of s source) (λ old. IsSomeAnd (buffer_of s target) (λ held. P (copy_between from_side onto_side from onto old held)))))
          from one is)))

      not_copy : (P : Copy → Type 0) → (¬ P the_copy) → ¬ OfCopy s from_side onto_side P
      not_copy P not is = not (copy_is P is)

      pub both_withheld : (refusal : Refusal) → IsFirst (both_row from onto source_count target_count) refusal → IsRefusedBy s copies refusal
      both_withheld refusal.NotCommitted h = refused s copies refusal.NotCommitted (known, (supported, bare h))
      both_withheld refusal.BadArgument h = refused s copies refusal.BadArgument (known, (supported, (committed h.0, h.1)))
      both_withheld other h = absurd h.1.1

      -- nothing is said against types and counts
      module _ (clear : IsClear (both_row from onto source_count target_count)) where
        pub copy_uncopied : (stop : Stop) → IsUncopied the_copy stop → IsStop s copies stop
        copy_uncopied (Refused refusal.Outside) out =
            refused s copies refusal.Outside (known, (supported, (committed clear.0, (clear.1.0, of_copy (λ c. ¬ AreInside c) out))))
        copy_uncopied (Refused refusal.Overlap) (inside, over) =
            refused s copies refusal.Overlap
            (known, (supported, (committed clear.0, (clear.1.0, (not_copy (λ c. ¬ AreInside c) (λ out. out inside), of_copy (λ c. Overlaps c.target) over)))))
        copy_uncopied (Refused refusal.Truncated) (settable, longer) =
            refused s copies refusal.Truncated (
              known,
              (
                supported,
                (
                  committed clear.0,
                  (
                    clear.1.0,
                    (
                      not_copy (λ c. ¬ AreInside c) (λ out. out settable.inside),
                      (not_copy (λ c. Overlaps c.target) settable.apart, of_copy (λ c. length c.target < length c.source) longer),
                    ),
                  ),
                ),
              ),
            )
        copy_uncopied (Refused refusal.SignatureDiffers) (at, first) =
            let settable = first.enough.settable in
            refused s copies refusal.SignatureDiffers (
              known,
              (
                supported,
                (
                  committed clear.0,
                  (
                    clear.1.0,
                    (
                      not_copy (λ c. ¬ AreInside c) (λ out. out settable.inside),
                      (
                        not_copy (λ c. Overlaps c.target) settable.apart,
                        (
                          not_copy (λ c. length c.target < length c.source) (λ longer. let enough = first.enough.enough in absurd (omega (arith, longer, enough))),
                          of_copy Differ (differs the_copy at first),
                        ),
                      ),
                    ),
                  ),
                ),
              ),
            )
        copy_uncopied NoMemory is = tt
        copy_uncopied (Refused other) is = absurd is

        -- and it can be made
        module _ (can : CanCopy the_copy) where
          pub copy_same : source ≡ target → IsRefusedBy s copies refusal.SameBuffer
          copy_same same =
              refused s copies refusal.SameBuffer (
                known,
                (
                  supported,
                  (
                    committed clear.0,
                    (
                      clear.1.0,
                      (
                        not_copy (λ c. ¬ AreInside c) (λ out. out can.enough.settable.inside),
                        (
                          not_copy (λ c. Overlaps c.target) can.enough.settable.apart,
                          (
                            not_copy (λ c. length c.target < length c.source) (λ longer. let enough = can.enough.enough in absurd (omega (arith, longer, enough))),
                            (not_copy Differ (none_differ the_copy can), same),
                          ),
                        ),
                      ),
                    ),
                  ),
                ),
              )

          pub copy_allowed : (¬ (source ≡ target)) → IsAllowed s copies
          copy_allowed differ =
              allowed s copies (
                known,
                (
                  supported,
                  (
                    committed clear.0,
                    (
                      clear.1.0,
                      (
                        not_copy (λ c. ¬ AreInside c) (λ out. out can.enough.settable.inside),
                        (
                          not_copy (λ c. Overlaps c.target) can.enough.settable.apart,
                          (
                            not_copy (λ c. length c.target < length c.source) (λ longer. let enough = can.enough.enough in absurd (omega (arith, longer, enough))),
                            (not_copy Differ (none_differ the_copy can), (differ, tt)),
                          ),
                        ),
                      ),
                    ),
                  ),
                ),
              )

        pub copy_can : (¬ (source ≡ target)) → CanChange (CopyBytes the_copy source target) s
        copy_can differ = (
          differ,
          some_and (under source s.buffers) (λ bytes. length bytes ≡ length old) old there refl,
          some_and (under target s.buffers) (λ bytes. length bytes ≡ length held) held here refl,
        )

        pub copy_performs : Performs copies s (Copied (length the_copy.source) (total Native the_copy.source)) (with_count (changed (CopyBytes the_copy source target) s))
        copy_performs =
            let of : Option (List ℕ) → Option (List ℕ) → State =
            λ o p. record s { buffers = made_in s.buffers target o p (copied the_copy.source the_copy.target) }
            in
            let made : changed (CopyBytes the_copy source target) s ≡ with_bytes s target (copied the_copy.source the_copy.target old held) =
            ap (λ o. of o (under target s.buffers)) there ∙ ap (of (Some old)) here
            in (from, onto, old, held, one, other, there, here, (refl, ap with_count made))
