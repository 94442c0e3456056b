-- Refusals of commands that ask: the first condition that holds.
use Rattle.std.proofs.Common.{◌≡◌, ℕ, ◌≤◌, ◌<◌, ℤ, pos, true, false, ◌||◌, List, [], ◌∷◌, length, Some, None, IsTrue, ap, ◌∙◌, arith}
use Rattle.std.proofs.lemmas.Bool.{or_from, or_left, or_right}
use Rattle.std.specs.Prelude.{IsFalse, int_lt}
use Rattle.std.specs.Option.{is_none, option_map_or, IsSomeAnd}
use Rattle.dt_kinds.specs.declared.kind.Rep.{Rep}
use Rattle.dt_map.specs.Elements.{are_inside}
use Rattle.dt_map.specs.Packed.{total}
use Rattle.dt_reply.specs.declared.refusal.Refusal.{Refusal}
use Rattle.dt_reply.specs.declared.refusal.Refusal.TheVariants as refusal
use Rattle.dt_script.specs.declared.command.Command.{Command}
use Rattle.dt_script.specs.declared.command.Command.TheVariants.{Info, Map, Envelope, Contents, Show, Bytes, Elements}
use Rattle.dt_type.specs.Basic.{is_basic}
use Rattle.dt_type.specs.Datatype.{entries_of}
use Rattle.dt_names.specs.declared.stop.Stop.{Stop}
use Rattle.dt_names.specs.declared.stop.Stop.TheVariants.{Refused, NoMemory}
use Rattle.dt_names.specs.declared.kept.Kept.{Kept}
use Rattle.dt_machine.specs.declared.limits.TheConstants.{MOST_ENTRIES, MOST_PACKED}
use Rattle.dt_machine.specs.Operation.{operation_row}
use Rattle.dt_machine.specs.Outcome.{IsStop}
use Rattle.dt_machine.specs.Refusal.{conditions, IsRefusedBy, IsAllowed, IsOutside, elements_of}
use Rattle.dt_machine.specs.Row.{◌when◌, IsFirst, IsClear}
use Rattle.dt_machine.specs.State.{State, type_of, buffer_of, is_unknown, is_basic_word}
use Rattle.dt_machine.proofs.Rows.{refused, allowed, contrary, some_and, and_some}
use Rattle.dt_machine.proofs.TypeWords.{missing, is_known, is_supported}
use Rattle.dt_names.proofs.WordLemmas.{stands_known, left_out_known}
use Rattle.dt_names.specs.Missing.{IsMissing}

-- `info TYPE` and `envelope TYPE`
pub info_missing : (s : State) (ty : List ℕ) (stop : Stop) → IsMissing s.types ty stop → IsStop s (Info ty) stop
info_missing s ty = missing s ty (Info ty) [] (λ _ first. first)

pub info_allowed : (s : State) (ty : List ℕ) (kept : Kept) → type_of s ty ≡ Some kept → IsAllowed s (Info ty)
info_allowed s ty kept is = allowed s (Info ty) (is_known s ty kept is, (is_supported s ty kept is, tt))

pub envelope_missing : (s : State) (ty : List ℕ) (stop : Stop) → IsMissing s.types ty stop → IsStop s (Envelope ty) stop
envelope_missing s ty = missing s ty (Envelope ty) [] (λ _ first. first)

pub envelope_allowed : (s : State) (ty : List ℕ) (kept : Kept) → type_of s ty ≡ Some kept → IsAllowed s (Envelope ty)
envelope_allowed s ty kept is = allowed s (Envelope ty) (is_known s ty kept is, (is_supported s ty kept is, tt))

-- `map TYPE`
abbrev HasMany : Kept → Type 0
HasMany kept = MOST_ENTRIES < length (entries_of kept.ty)

pub map_missing : (s : State) (ty : List ℕ) (stop : Stop) → IsMissing s.types ty stop → IsStop s (Map ty) stop
map_missing s ty = missing s ty (Map ty) (refusal.TooManyEntries when IsSomeAnd (type_of s ty) HasMany ∷ []) (λ _ first. first)

pub map_too_many : (s : State) (ty : List ℕ) (kept : Kept) → type_of s ty ≡ Some kept → HasMany kept → IsRefusedBy s (Map ty) refusal.TooManyEntries
map_too_many s ty kept is many =
    refused s (Map ty) refusal.TooManyEntries (is_known s ty kept is, (is_supported s ty kept is, some_and (type_of s ty) HasMany kept is many))

pub map_allowed : (s : State) (ty : List ℕ) (kept : Kept) → type_of s ty ≡ Some kept → length (entries_of kept.ty) ≤ MOST_ENTRIES → IsAllowed s (Map ty)
map_allowed s ty kept is few =
    let none : ¬ IsSomeAnd (type_of s ty) HasMany = λ h. let many = and_some (type_of s ty) HasMany kept is h in absurd (omega (arith, many, few)) in
    allowed s (Map ty) (is_known s ty kept is, (is_supported s ty kept is, (none, tt)))

-- whether a word stands for a basic type is told by what it stands for
pub basic_by : (s : State) (ty : List ℕ) (kept : Kept) → type_of s ty ≡ Some kept → is_basic_word s ty ≡ is_basic kept.ty
basic_by s ty kept is = ap (λ found. option_map_or (λ k. is_basic k.ty) found false) is

-- `contents TYPE`
pub contents_missing : (s : State) (ty : List ℕ) (stop : Stop) → IsMissing s.types ty stop → IsStop s (Contents ty) stop
contents_missing s ty = missing s ty (Contents ty) (refusal.NamedType when IsTrue (is_basic_word s ty) ∷ []) (λ _ first. first)

pub contents_named : (s : State) (ty : List ℕ) (kept : Kept) → type_of s ty ≡ Some kept → is_basic kept.ty ≡ true → IsRefusedBy s (Contents ty) refusal.NamedType
contents_named s ty kept is basic =
    refused s (Contents ty) refusal.NamedType (is_known s ty kept is, (is_supported s ty kept is, basic_by s ty kept is ∙ basic))

pub contents_allowed : (s : State) (ty : List ℕ) (kept : Kept) → type_of s ty ≡ Some kept → is_basic kept.ty ≡ false → IsAllowed s (Contents ty)
contents_allowed s ty kept is derived =
    allowed s (Contents ty) (is_known s ty kept is, (is_supported s ty kept is, (contrary (is_basic_word s ty) (basic_by s ty kept is ∙ derived), tt)))

-- `elements REP BYTES TYPE`
module _ (s : State) (rep : Rep) (bytes : ℤ) (ty : List ℕ) where
  pub counts_missing : (stop : Stop) → IsMissing s.types ty stop → IsStop s (Elements rep bytes ty) stop
  counts_missing = missing s ty (Elements rep bytes ty) (refusal.BadArgument when IsTrue (int_lt bytes (pos 0)) ∷ []) (λ _ first. first)

  module _ (kept : Kept) (is : type_of s ty ≡ Some kept) where
    pub counts_negative : int_lt bytes (pos 0) ≡ true → IsRefusedBy s (Elements rep bytes ty) refusal.BadArgument
    counts_negative negative = refused s (Elements rep bytes ty) refusal.BadArgument (is_known s ty kept is, (is_supported s ty kept is, negative))

    pub counts_allowed : int_lt bytes (pos 0) ≡ false → IsAllowed s (Elements rep bytes ty)
    counts_allowed some =
        allowed s (Elements rep bytes ty) (is_known s ty kept is, (is_supported s ty kept is, (contrary (int_lt bytes (pos 0)) some, tt)))

-- `show BUFFER`
pub show_unknown : (s : State) (buffer : List ℕ) → buffer_of s buffer ≡ None → IsRefusedBy s (Show buffer) refusal.UnknownName
show_unknown s buffer none = refused s (Show buffer) refusal.UnknownName (ap is_none none)

pub show_allowed : (s : State) (buffer bytes : List ℕ) → buffer_of s buffer ≡ Some bytes → IsAllowed s (Show buffer)
show_allowed s buffer bytes is = allowed s (Show buffer) (contrary (is_none (buffer_of s buffer)) (ap is_none is), tt)

-- `bytes REP COUNT TYPE BUFFER ORIGIN`
module _ (s : State) (rep : Rep) (count : ℤ) (ty buffer : List ℕ) (origin : ℤ) where
  abbrev bytes : Command
  bytes = Bytes rep count ty buffer origin

  pub bytes_unknown : buffer_of s buffer ≡ None → IsRefusedBy s bytes refusal.UnknownName
  bytes_unknown none = refused s bytes refusal.UnknownName (or_right (is_unknown s ty) (is_none (buffer_of s buffer)) (ap is_none none))

  abbrev IsOut : List ℕ → Kept → Type 0
  IsOut held kept = IsFalse (are_inside (length held) (elements_of kept count origin))

  abbrev IsLarge : Kept → Type 0
  IsLarge kept = MOST_PACKED < total rep (elements_of kept count origin)

  -- the buffer stands
  module _ (held : List ℕ) (stands : buffer_of s buffer ≡ Some held) where
    both_known : is_unknown s ty ≡ false → ¬ IsTrue (is_unknown s ty || is_none (buffer_of s buffer))
    both_known known = contrary (is_unknown s ty || is_none (buffer_of s buffer)) (or_from (is_unknown s ty) (is_none (buffer_of s buffer)) known (ap is_none stands))

    missing_first : (refusal : Refusal) → IsMissing s.types ty (Refused refusal) → IsFirst (conditions s bytes) refusal
    missing_first refusal.UnknownName is = or_left (is_unknown s ty) (is_none (buffer_of s buffer)) is
    missing_first refusal.UnsupportedKind is = (both_known (left_out_known s.types ty is), is)
    missing_first other is = absurd is

    pub bytes_missing : (stop : Stop) → IsMissing s.types ty stop → IsStop s bytes stop
    bytes_missing (Refused refusal) is = refused s bytes refusal (missing_first refusal is)
    bytes_missing NoMemory is = tt

    -- and the type
    module _ (kept : Kept) (is : type_of s ty ≡ Some kept) where
      known : ¬ IsTrue (is_unknown s ty || is_none (buffer_of s buffer))
      known = both_known (stands_known s.types ty kept is)

      outside : IsOut held kept → IsOutside s ty buffer count origin
      outside out = some_and (type_of s ty) (λ kept. IsSomeAnd (buffer_of s buffer) (λ held. IsOut held kept)) kept is (some_and (buffer_of s buffer) (λ held. IsOut held kept) held stands out)

      inside : (¬ IsOut held kept) → ¬ IsOutside s ty buffer count origin
      inside not out =
          not (and_some (buffer_of s buffer) (λ held. IsOut held kept) held stands
          (and_some (type_of s ty) (λ kept. IsSomeAnd (buffer_of s buffer) (λ held. IsOut held kept)) kept is out))

      pub bytes_allowed : IsClear (operation_row rep count kept.ty (length held) origin) → IsAllowed s bytes
      bytes_allowed clear =
          allowed s bytes
          (known, (is_supported s ty kept is, (clear.0, (inside clear.1.0, (λ large. clear.1.1.0 (and_some (type_of s ty) IsLarge kept is large), tt)))))

      pub bytes_withheld : (refusal : Refusal) → IsFirst (operation_row rep count kept.ty (length held) origin) refusal → IsRefusedBy s bytes refusal
      bytes_withheld refusal.BadArgument h = refused s bytes refusal.BadArgument (known, (is_supported s ty kept is, h))
      bytes_withheld refusal.Outside h = refused s bytes refusal.Outside (known, (is_supported s ty kept is, (h.0, outside h.1)))
      bytes_withheld refusal.TooLarge h =
          refused s bytes refusal.TooLarge (known, (is_supported s ty kept is, (h.0, (inside h.1.0, some_and (type_of s ty) IsLarge kept is h.1.1))))
      bytes_withheld other h = absurd h.1.1.1
