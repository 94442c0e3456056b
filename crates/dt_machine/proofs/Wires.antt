-- When types are told as bytes, and read from them.
use Rattle.std.proofs.Common.{◌≡◌, ℕ, true, List, [], Result, Ok, Err, Option, Some, None, IsTrue, refl, ap}
use Rattle.std.specs.Option.{MatchOption}
use Rattle.dt_type.specs.Basic.{is_basic}
use Rattle.dt_type.specs.declared.datatype.Seen.{Seen}
use Rattle.dt_type.specs.declared.fault.CtorFault.TheVariants as fault
use Rattle.dt_names.specs.declared.kept.Kept.{Kept}
use Rattle.dt_names.specs.declared.stop.Stop.{Stop}
use Rattle.dt_names.specs.declared.stop.Stop.TheVariants.{Refused, NoMemory}
use Rattle.dt_names.specs.Missing.{IsMissing}
use Rattle.dt_reply.specs.declared.reply.Reply.TheVariants.{Done}
use Rattle.dt_reply.specs.declared.refusal.Refusal.TheVariants as refusal
use Rattle.dt_script.specs.declared.command.Command.{Command}
use Rattle.dt_script.specs.declared.command.Command.TheVariants.{Export, Import}
use Rattle.dt_wire.proofs.OneAnswer.{one_answer}
use Rattle.dt_wire.specs.Fault.{IsText}
use Rattle.dt_wire.specs.Import.{IsImported, IsRead, IsRefused}
use Rattle.dt_wire.specs.declared.fault.WireFault.{WireFault}
use Rattle.dt_wire.specs.declared.fault.WireFault.TheVariants as wire
use Rattle.dt_machine.specs.Operation.{IsUnread}
use Rattle.dt_machine.specs.declared.outcome.Change.TheVariants.{AddType}
use Rattle.dt_machine.specs.Outcome.{IsStop, changed}
use Rattle.dt_machine.specs.Refusal.{IsRefusedBy, IsAllowed, NoMoreTypes}
use Rattle.dt_machine.specs.State.{State, type_of, is_type_taken, with_type, with_count}
use Rattle.dt_machine.specs.Step.{Performs}
use Rattle.dt_machine.proofs.Rows.{refused, allowed}
use Rattle.dt_machine.proofs.TypeWords.{missing, is_known, is_supported}

-- `export TYPE`
pub export_missing : (s : State) (ty : List ℕ) (stop : Stop) → IsMissing s.types ty stop → IsStop s (Export ty) stop
export_missing s ty = missing s ty (Export ty) [] (λ _ first. first)

pub export_allowed : (s : State) (ty : List ℕ) (kept : Kept) → type_of s ty ≡ Some kept → IsAllowed s (Export ty)
export_allowed s ty kept is = allowed s (Export ty) (is_known s ty kept is, (is_supported s ty kept is, tt))

-- bytes have one answer, whatever it is
other_answer : (bytes : List ℕ) (answer other : Result Seen WireFault) → IsRead bytes answer → IsRead bytes other → (¬ (answer ≡ Err wire.NoMemory))
    → (¬ (other ≡ Err wire.NoMemory)) → (¬ (answer ≡ other)) → ⊥
other_answer bytes answer other is also some more not = not (one_answer bytes answer other is also some more)

-- `import NAME = HEX`
module _ (s : State) (name bytes : List ℕ) where
  abbrev imports : Command
  imports = Import name bytes

  pub import_taken : is_type_taken s name ≡ true → IsRefusedBy s imports refusal.NameTaken
  import_taken taken = refused s imports refusal.NameTaken taken

  -- the name may be given
  module _ (new : ¬ IsTrue (is_type_taken s name)) where
    pub import_unread : (stop : Stop) → IsUnread bytes stop → IsStop s imports stop
    import_unread (Refused refusal.BadArgument) is = refused s imports refusal.BadArgument (new, is)
    import_unread (Refused refusal.Overflow) is =
        refused s imports refusal.Overflow
        (new, ((λ bad. other_answer bytes (Err wire.BadArgument) (Err wire.Overflow) bad is (λ e. cc) (λ e. cc) (λ e. cc)), is))
    import_unread (Refused refusal.TooDeep) is =
        refused s imports refusal.TooDeep (
          new,
          (
            (λ bad. other_answer bytes (Err wire.BadArgument) (Err wire.TooDeep) bad is (λ e. cc) (λ e. cc) (λ e. cc)),
            ((λ over. other_answer bytes (Err wire.Overflow) (Err wire.TooDeep) over is (λ e. cc) (λ e. cc) (λ e. cc)), is),
          ),
        )
    import_unread (Refused refusal.TooHeavy) is =
        refused s imports refusal.TooHeavy (
          new,
          (
            (λ bad. other_answer bytes (Err wire.BadArgument) (Err wire.TooHeavy) bad is (λ e. cc) (λ e. cc) (λ e. cc)),
            (
              (λ over. other_answer bytes (Err wire.Overflow) (Err wire.TooHeavy) over is (λ e. cc) (λ e. cc) (λ e. cc)),
              ((λ deep. other_answer bytes (Err wire.TooDeep) (Err wire.TooHeavy) deep is (λ e. cc) (λ e. cc) (λ e. cc)), is),
            ),
          ),
        )
    import_unread NoMemory is = tt
    import_unread (Refused other) is = absurd is

    -- no constructor refuses
    abbrev pub NoneRefuses : Type 0
    NoneRefuses =
        (¬ IsRefused bytes fault.BadArgument) × (¬ IsRefused bytes fault.Overflow) × (¬ IsRefused bytes fault.TooDeep) × (¬ IsRefused bytes fault.TooHeavy)

    pub none_spelled : (¬ IsText bytes) → NoneRefuses
    none_spelled not = ((λ r. not (r.form, r.text)), (λ r. not (r.form, r.text)), (λ r. not (r.form, r.text)), (λ r. not (r.form, r.text)))

    pub none_read : (t : Seen) → IsImported bytes t → NoneRefuses
    none_read t is = (
      (λ r. other_answer bytes (Err wire.BadArgument) (Ok t) r is (λ e. cc) (λ e. cc) (λ e. cc)),
      (λ r. other_answer bytes (Err wire.Overflow) (Ok t) r is (λ e. cc) (λ e. cc) (λ e. cc)),
      (λ r. other_answer bytes (Err wire.TooDeep) (Ok t) r is (λ e. cc) (λ e. cc) (λ e. cc)),
      (λ r. other_answer bytes (Err wire.TooHeavy) (Ok t) r is (λ e. cc) (λ e. cc) (λ e. cc)),
    )

    pub none_found : (found : Option Seen) → MatchOption found (¬ IsText bytes) (IsImported bytes) → NoneRefuses
    none_found None is = none_spelled is
    none_found (Some t) is = none_read t is

    module _ (none : NoneRefuses) where
      pub import_full : NoMoreTypes s → IsRefusedBy s imports refusal.TooManyNames
      import_full full = refused s imports refusal.TooManyNames (new, (none.0, (none.1, (none.2, (none.3, full)))))

      module _ (more : ¬ NoMoreTypes s) where
        pub import_bad : (¬ IsText bytes) → IsRefusedBy s imports refusal.BadWire
        import_bad not = refused s imports refusal.BadWire (new, (none.0, (none.1, (none.2, (none.3, (more, not))))))

        pub import_allowed : IsText bytes → IsAllowed s imports
        import_allowed text = allowed s imports (new, (none.0, (none.1, (none.2, (none.3, (more, ((λ not. not text), tt)))))))

-- the type that was read stands under the name
pub import_performs : (s : State) (name bytes : List ℕ) (t : Seen) → IsImported bytes t
    → Performs (Import name bytes) s Done (with_count (changed (AddType name (record { ty = t; committed = is_basic t })) s))
import_performs s name bytes t is =
    (is.form, is.text, refl, ap (λ x. with_count (with_type s name (record { ty = x; committed = is_basic x }))) is.value)
