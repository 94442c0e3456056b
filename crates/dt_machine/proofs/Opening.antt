-- When a session is opened, and where it stands.
use Rattle.std.proofs.Common.{◌≡◌, ℕ, ℤ, false, ◌||◌, List, length, Option, Some, None, IsTrue, refl, ap}
use Rattle.std.proofs.lemmas.Bool.{or_from, false_from_ne_true}
use Rattle.std.specs.Prelude.{IsFalse}
use Rattle.std.specs.Option.{is_none, IsSomeAnd}
use Rattle.dt_kinds.specs.declared.kind.Rep.{Rep}
use Rattle.dt_map.specs.Elements.{are_inside, Overlaps}
use Rattle.dt_reply.specs.declared.refusal.Refusal.{Refusal}
use Rattle.dt_reply.specs.declared.refusal.Refusal.TheVariants as refusal
use Rattle.dt_script.specs.declared.command.Command.{Command}
use Rattle.dt_script.specs.declared.command.Command.TheVariants.{Pack, Unpack}
use Rattle.dt_names.specs.declared.kept.Kept.{Kept}
use Rattle.dt_sessions.specs.declared.session.Opened.{Opened}
use Rattle.dt_sessions.specs.declared.session.Session.{Session}
use Rattle.dt_machine.specs.Operation.{session_names_row, place_row, opening_row}
use Rattle.dt_machine.specs.Refusal.{IsRefusedBy, IsAllowed, IsOutside, IsTooMuch, elements_of}
use Rattle.dt_machine.specs.Row.{IsFirst, IsClear}
use Rattle.dt_machine.specs.State.{State, type_of, buffer_of, is_unknown}
use Rattle.dt_machine.proofs.Rows.{refused, allowed, contrary, some_and, and_some}

-- `pack` and `unpack SESSION REP COUNT TYPE BUFFER ORIGIN`, where buffer and type stand and the names say nothing against it
module _ (s : State) (name : List ℕ) (rep : Rep) (count : ℤ) (ty buffer : List ℕ) (origin : ℤ) (held : List ℕ) (stands : buffer_of s buffer ≡ Some held)
    (names : IsClear (session_names_row s name ty)) (kept : Kept) (is : type_of s ty ≡ Some kept) where
  abbrev command : Command
  command = Pack name rep count ty buffer origin

  known : ¬ IsTrue (is_unknown s ty || is_none (buffer_of s buffer))
  known =
      contrary (is_unknown s ty || is_none (buffer_of s buffer))
      (or_from (is_unknown s ty) (is_none (buffer_of s buffer)) (false_from_ne_true (is_unknown s ty) names.0) (ap is_none stands))

  abbrev IsBare : Kept → Type 0
  IsBare kept = kept.committed ≡ false

  committed : (¬ IsBare kept) → ¬ IsSomeAnd (type_of s ty) IsBare
  committed not bare = not (and_some (type_of s ty) IsBare kept is bare)

  abbrev IsOut : List ℕ → Kept → Type 0
  IsOut held kept = IsFalse (are_inside (length held) (elements_of kept count origin))

  outside : IsOut held kept → IsOutside s ty buffer count origin
  outside out = some_and (type_of s ty) (λ kept. IsSomeAnd (buffer_of s buffer) (λ held. IsOut held kept)) kept is (some_and (buffer_of s buffer) (λ held. IsOut held kept) held stands out)

  inside : (¬ IsOut held kept) → ¬ IsOutside s ty buffer count origin
  inside not out =
      not (and_some (buffer_of s buffer) (λ held. IsOut held kept) held stands
      (and_some (type_of s ty) (λ kept. IsSomeAnd (buffer_of s buffer) (λ held. IsOut held kept)) kept is out))

  pub pack_allowed : IsClear (opening_row s kept rep count origin (length held)) → IsAllowed s command
  pack_allowed clear =
      allowed s command (
        known,
        (
          names.1.0,
          (
            names.1.1.0,
            (
              committed clear.0,
              (
                clear.1.0,
                (
                  clear.1.1.0,
                  (inside clear.1.1.1.0, (λ large. clear.1.1.1.1.0 (and_some (type_of s ty) (IsTooMuch s rep count origin) kept is large), tt)),
                ),
              ),
            ),
          ),
        ),
      )

  pub pack_withheld : (refusal : Refusal) → IsFirst (opening_row s kept rep count origin (length held)) refusal → IsRefusedBy s command refusal
  pack_withheld refusal.NotCommitted h = refused s command refusal.NotCommitted (known, (names.1.0, (names.1.1.0, some_and (type_of s ty) IsBare kept is h)))
  pack_withheld refusal.BadArgument h = refused s command refusal.BadArgument (known, (names.1.0, (names.1.1.0, (committed h.0, h.1))))
  pack_withheld refusal.TooManyNames h = refused s command refusal.TooManyNames (known, (names.1.0, (names.1.1.0, (committed h.0, (h.1.0, h.1.1)))))
  pack_withheld refusal.Outside h =
      refused s command refusal.Outside (known, (names.1.0, (names.1.1.0, (committed h.0, (h.1.0, (h.1.1.0, outside h.1.1.1))))))
  pack_withheld refusal.TooLarge h =
      refused s command refusal.TooLarge
      (known, (names.1.0, (names.1.1.0, (committed h.0, (h.1.0, (h.1.1.0, (inside h.1.1.1.0, some_and (type_of s ty) (IsTooMuch s rep count origin) kept is h.1.1.1.1)))))))
  pack_withheld other h = absurd h.1.1.1.1.1

  abbrev unpacks : Command
  unpacks = Unpack name rep count ty buffer origin

  pub unpack_withheld : (refusal : Refusal) → IsFirst (place_row s kept count origin (length held)) refusal → IsRefusedBy s unpacks refusal
  unpack_withheld refusal.NotCommitted h = refused s unpacks refusal.NotCommitted (known, (names.1.0, (names.1.1.0, some_and (type_of s ty) IsBare kept is h)))
  unpack_withheld refusal.BadArgument h = refused s unpacks refusal.BadArgument (known, (names.1.0, (names.1.1.0, (committed h.0, h.1))))
  unpack_withheld refusal.TooManyNames h = refused s unpacks refusal.TooManyNames (known, (names.1.0, (names.1.1.0, (committed h.0, (h.1.0, h.1.1)))))
  unpack_withheld refusal.Outside h =
      refused s unpacks refusal.Outside (known, (names.1.0, (names.1.1.0, (committed h.0, (h.1.0, (h.1.1.0, outside h.1.1.1))))))
  unpack_withheld other h = absurd h.1.1.1.1

  abbrev Meet : Kept → Type 0
  Meet kept = Overlaps (elements_of kept count origin)

  -- nothing is said against the place
  module _ (clear : IsClear (place_row s kept count origin (length held))) where
    pub unpack_overlaps : Meet kept → IsRefusedBy s unpacks refusal.Overlap
    unpack_overlaps meet =
        refused s unpacks refusal.Overlap
        (known, (names.1.0, (names.1.1.0, (committed clear.0, (clear.1.0, (clear.1.1.0, (inside clear.1.1.1.0, some_and (type_of s ty) Meet kept is meet)))))))

    apart : (¬ Meet kept) → ¬ IsSomeAnd (type_of s ty) Meet
    apart not h = not (and_some (type_of s ty) Meet kept is h)

    pub unpack_too_large : (¬ Meet kept) → IsTooMuch s rep count origin kept → IsRefusedBy s unpacks refusal.TooLarge
    unpack_too_large not large =
        refused s unpacks refusal.TooLarge (
          known,
          (
            names.1.0,
            (
              names.1.1.0,
              (
                committed clear.0,
                (clear.1.0, (clear.1.1.0, (inside clear.1.1.1.0, (apart not, some_and (type_of s ty) (IsTooMuch s rep count origin) kept is large)))),
              ),
            ),
          ),
        )

    pub unpack_allowed : (¬ Meet kept) → (¬ IsTooMuch s rep count origin kept) → IsAllowed s unpacks
    unpack_allowed not few =
        allowed s unpacks (
          known,
          (
            names.1.0,
            (
              names.1.1.0,
              (
                committed clear.0,
                (
                  clear.1.0,
                  (
                    clear.1.1.0,
                    (
                      inside clear.1.1.1.0,
                      (apart not, (λ large. few (and_some (type_of s ty) (IsTooMuch s rep count origin) kept is large), tt)),
                    ),
                  ),
                ),
              ),
            ),
          ),
        )

-- the session that was found
pub found_opened : (o : Option Opened) (x : Session) → IsSomeAnd o (λ opened. opened.session ≡ x) → (opened : Opened) × (o ≡ Some opened) × (opened.session ≡ x)
found_opened None x h = absurd h
found_opened (Some opened) x h = (opened, refl, h)
