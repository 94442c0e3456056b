-- When ranks are reduced, and what comes of it.
use Rattle.std.proofs.Common.{◌≡◌, ℕ, ℤ, nat_abs, true, false, ◌||◌, not, List, ◌∷◌, map, length, Option, Some, None, IsTrue, refl, sym, ap, subst, ◌∙◌}
use Rattle.std.proofs.lemmas.Bool.{or_from, or_left, or_right}
use Rattle.std.specs.List.{list_any}
use Rattle.std.specs.Option.{is_none, option_map_or, IsSomeAnd}
use Rattle.dt_kinds.specs.Name.{is_left_out}
use Rattle.dt_map.specs.declared.entry.Entry.{Entry}
use Rattle.dt_map.specs.Elements.{are_inside, Overlaps}
use Rattle.dt_type.specs.Datatype.{typemap_of}
use Rattle.dt_names.specs.declared.kept.Kept.{Kept}
use Rattle.dt_names.specs.declared.stop.Stop.{Stop}
use Rattle.dt_names.specs.declared.stop.Stop.TheVariants.{Refused, NoMemory}
use Rattle.dt_names.proofs.WordLemmas.{stands_known, left_out_known}
use Rattle.dt_names.specs.Missing.{IsMissing}
use Rattle.dt_names.specs.Names.{under}
use Rattle.dt_reduce.specs.Folded.{folded, words_of}
use Rattle.dt_reduce.specs.Merges.{Bracket}
use Rattle.dt_reduce.specs.Ranks.{Ranked, CanReduceAll}
use Rattle.dt_reply.specs.declared.refusal.Refusal.{Refusal}
use Rattle.dt_reply.specs.declared.refusal.Refusal.TheVariants as refusal
use Rattle.dt_reply.specs.declared.reply.Reply.TheVariants.{ReducedAll}
use Rattle.dt_script.specs.declared.command.Command.{Command}
use Rattle.dt_script.specs.declared.command.Command.TheVariants.{Reduceall}
use Rattle.dt_script.specs.declared.command.How.{How}
use Rattle.dt_script.specs.declared.command.Op.{Op}
use Rattle.dt_machine.specs.declared.outcome.Change.TheVariants.{ReduceRanks}
use Rattle.dt_machine.specs.Joins.{join_of}
use Rattle.dt_machine.specs.Operation.{counted_row, ranks_in, Gathers}
use Rattle.dt_machine.specs.Outcome.{CanChange, IsStop, changed, set_in}
use Rattle.dt_machine.specs.Refusal.{elements_of, lies_outside, AreTooMany, IsRefusedBy, IsAllowed}
use Rattle.dt_machine.specs.Row.{IsFirst, IsClear}
use Rattle.dt_machine.specs.Sides.{is_some_lost, IsNotCommitted}
use Rattle.dt_machine.specs.State.{State, type_of, buffer_of, is_unknown, with_bytes, with_count}
use Rattle.dt_machine.specs.Step.{Performs}
use Rattle.dt_machine.proofs.Copies.{neither}
use Rattle.dt_machine.proofs.Gathered.{rows_gathered}
use Rattle.dt_machine.proofs.Rows.{refused, allowed, contrary, some_and, and_some}
use Rattle.dt_machine.proofs.TypeWords.{is_supported}

-- `reduceall OP HOW COUNT TYPE ORIGIN TARGET RANK ..`
module _ (s : State) (op : Op) (how : How) (count : ℤ) (ty : List ℕ) (origin : ℤ) (target : List ℕ) (names : List (List ℕ)) where
  abbrev folds : Command
  folds = Reduceall op how count ty origin target names

  pub target_gone : buffer_of s target ≡ None → IsRefusedBy s folds refusal.UnknownName
  target_gone none =
      refused s folds refusal.UnknownName
      (or_right (is_unknown s ty) (is_some_lost s (target ∷ names)) (or_left (is_none (buffer_of s target)) (is_some_lost s names) (ap is_none none)))

  pub some_gone : is_some_lost s names ≡ true → IsRefusedBy s folds refusal.UnknownName
  some_gone lost =
      refused s folds refusal.UnknownName
      (or_right (is_unknown s ty) (is_some_lost s (target ∷ names)) (or_right (is_none (buffer_of s target)) (is_some_lost s names) lost))

  -- all buffers stand
  module _ (held : List ℕ) (here : buffer_of s target ≡ Some held) (stand : is_some_lost s names ≡ false) where
    known_by : is_unknown s ty ≡ false → ¬ IsTrue (is_unknown s ty || is_some_lost s (target ∷ names))
    known_by known =
        neither (is_unknown s ty) (is_some_lost s (target ∷ names)) known (or_from (is_none (buffer_of s target)) (is_some_lost s names) (ap is_none here) stand)

    pub ranks_missing : (stop : Stop) → IsMissing s.types ty stop → IsStop s folds stop
    ranks_missing (Refused refusal.UnknownName) is = refused s folds refusal.UnknownName (or_left (is_unknown s ty) (is_some_lost s (target ∷ names)) is)
    ranks_missing (Refused refusal.UnsupportedKind) is = refused s folds refusal.UnsupportedKind (known_by (left_out_known s.types ty is), is)
    ranks_missing NoMemory is = tt
    ranks_missing (Refused other) is = absurd is

    -- and the type
    module _ (kept : Kept) (is : type_of s ty ≡ Some kept) where
      abbrev es : List Entry
      es = elements_of kept count origin

      known : ¬ IsTrue (is_unknown s ty || is_some_lost s (target ∷ names))
      known = known_by (stands_known s.types ty kept is)

      supported : ¬ IsTrue (is_left_out ty)
      supported = is_supported s ty kept is

      abbrev IsBare : Kept → Type 0
      IsBare kept = kept.committed ≡ false

      committed : (¬ IsBare kept) → ¬ IsNotCommitted s ty
      committed not bare = not (and_some (type_of s ty) IsBare kept is bare)

      pub ranks_withheld : (refusal : Refusal) → IsFirst (counted_row kept count) refusal → IsRefusedBy s folds refusal
      ranks_withheld refusal.NotCommitted h = refused s folds refusal.NotCommitted (known, (supported, some_and (type_of s ty) IsBare kept is h))
      ranks_withheld refusal.BadArgument h = refused s folds refusal.BadArgument (known, (supported, (committed h.0, h.1)))
      ranks_withheld other h = absurd h.1.1

      abbrev AreOut : Kept → Type 0
      AreOut kept = IsTrue (list_any (lies_outside s (elements_of kept count origin)) (target ∷ names))

      abbrev Meet : Kept → Type 0
      Meet kept = Overlaps (elements_of kept count origin)

      -- nothing is said against type and count
      module _ (clear : IsClear (counted_row kept count)) where
        out : AreOut kept → IsRefusedBy s folds refusal.Outside
        out is_out = refused s folds refusal.Outside (known, (supported, (committed clear.0, (clear.1.0, some_and (type_of s ty) AreOut kept is is_out))))

        pub target_outside : are_inside (length held) es ≡ false → IsRefusedBy s folds refusal.Outside
        target_outside is_out =
            out (or_left (lies_outside s es target) (list_any (lies_outside s es) names)
            (ap (λ found. option_map_or (λ bytes. not (are_inside (length bytes) es)) found false) here ∙ ap not is_out))

        pub rank_outside : list_any (lies_outside s es) names ≡ true → IsRefusedBy s folds refusal.Outside
        rank_outside is_out = out (or_right (lies_outside s es target) (list_any (lies_outside s es) names) is_out)

        -- all elements lie inside
        module _ (into : are_inside (length held) es ≡ true) (inside : list_any (lies_outside s es) names ≡ false) where
          none_out : ¬ IsSomeAnd (type_of s ty) AreOut
          none_out h =
              contrary (list_any (lies_outside s es) (target ∷ names))
              (or_from (lies_outside s es target) (list_any (lies_outside s es) names)
              (ap (λ found. option_map_or (λ bytes. not (are_inside (length bytes) es)) found false) here ∙ ap not into) inside)
              (and_some (type_of s ty) AreOut kept is h)

          pub ranks_overlap : Meet kept → IsRefusedBy s folds refusal.Overlap
          ranks_overlap meet =
              refused s folds refusal.Overlap (known, (supported, (committed clear.0, (clear.1.0, (none_out, some_and (type_of s ty) Meet kept is meet)))))

          -- and apart
          module _ (apart : ¬ Meet kept) where
            none_meet : ¬ IsSomeAnd (type_of s ty) Meet
            none_meet h = apart (and_some (type_of s ty) Meet kept is h)

            pub ranks_many : AreTooMany (length names) count origin kept → IsRefusedBy s folds refusal.TooLarge
            ranks_many many =
                refused s folds refusal.TooLarge (
                  known,
                  (
                    supported,
                    (committed clear.0, (clear.1.0, (none_out, (none_meet, some_and (type_of s ty) (AreTooMany (length names) count origin) kept is many)))),
                  ),
                )

            pub ranks_allowed : (¬ AreTooMany (length names) count origin kept) → IsAllowed s folds
            ranks_allowed few =
                allowed s folds (
                  known,
                  (
                    supported,
                    (
                      committed clear.0,
                      (
                        clear.1.0,
                        (none_out, (none_meet, (λ many. few (and_some (type_of s ty) (AreTooMany (length names) count origin) kept is many), tt))),
                      ),
                    ),
                  ),
                )

            pub ranks_can : (ranks : Ranked) (merges : List ℕ) → Gathers s (typemap_of kept.ty) (nat_abs count) origin names ranks → Bracket (length names) merges
                → CanChange (ReduceRanks op ranks merges origin target) s
            ranks_can ranks merges gathers bracket =
                let long = rows_gathered s (typemap_of kept.ty) (nat_abs count) origin names ranks gathers in
                let can : CanReduceAll (ranks_in (typemap_of kept.ty) (nat_abs count) origin gathers.0) merges origin (length held) = record {
                  placed = record {
                    bracketed = subst (λ (r : Ranked). Bracket (length r.rows) merges) gathers.2 (subst (λ n. Bracket n merges) (sym long) bracket);
                    inside = into;
                  };
                  apart = apart;
                } in
                some_and (under target s.buffers) (λ bytes. CanReduceAll ranks merges origin (length bytes)) held here
                (subst (λ r. CanReduceAll r merges origin (length held)) (sym gathers.2) can)

      pub ranks_perform : (ranks : Ranked) (merges : List ℕ) → Gathers s (typemap_of kept.ty) (nat_abs count) origin names ranks
          → Performs folds s (ReducedAll (length es) (length names)) (with_count (changed (ReduceRanks op ranks merges origin target) s))
      ranks_perform ranks merges (buffers, all, rows) =
          let r = ranks_in (typemap_of kept.ty) (nat_abs count) origin buffers in
          let makes = folded (join_of op) es (map (words_of es) buffers) in
          let of : Option (List ℕ) → State = λ o. record s { buffers = set_in s.buffers target o makes } in
          let made : changed (ReduceRanks op r merges origin target) s ≡ with_bytes s target (makes held) = ap of here in
          (kept, held, buffers, is, here, all, (refl, ap (λ x. with_count (changed (ReduceRanks op x merges origin target) s)) rows ∙ ap with_count made))
