-- What is known of a state stays known, whatever is obeyed.
use Rattle.std.proofs.Common.{◌≡◌, ℕ, ◌+◌, ◌-◌, ◌^◌, ◌≤◌, ◌<◌, ℤ, pos, nat_abs, Bool, true, false, List, [], ◌∷◌, map, length, Option, Some, None, inl, inr, refl, sym, ap, subst, ◌∙◌, arith}
use Rattle.std.specs.BTreeMap.{is_at, insert_entry}
use Rattle.std.specs.Cmp.Lexicographic.{slice_cmp}
use Rattle.std.specs.Map.{set_value}
use Rattle.std.specs.Option.{is_some, IsSomeAnd}
use Rattle.std.specs.Ordering.{nat_cmp}
use Rattle.std.specs.Prelude.{cond, min, IsFalse, IsTrue}
use Rattle.std.specs.List.{AllByRecursion, list_any}
use Rattle.std.proofs.lemmas.Bool.{cases_lt, false_from_ne_true}
use Rattle.dt_copy.specs.Copied.{copied}
use Rattle.dt_copy.specs.Plan.{AreInside}
use Rattle.dt_reduce.specs.Plan as reduction
use Rattle.dt_reduce.specs.Folded.{folded, words_of}
use Rattle.dt_reduce.specs.Reduced.{reduced}
use Rattle.dt_map.specs.Elements.{elements, are_inside, Overlaps}
use Rattle.dt_map.specs.Typemap.{shift}
use Rattle.dt_reply.specs.declared.reply.Reply.{Reply}
use Rattle.dt_rows.proofs.Operation.{placed_elements}
use Rattle.dt_script.specs.declared.command.Command.{Command}
use Rattle.dt_script.specs.declared.command.Command.TheVariants.{Define, Child, Commit, Free, Info, Map, Envelope, Contents, Buffer, Show, Bytes, Elements, Pack as OpenPack, Unpack as OpenUnpack, Take, Seek, Close, Give, Copy as CopyCommand, Export, Import, Reduce, Reduceall, Weights, Normalise, Rebuild}
use Rattle.dt_script.specs.Line.{Meaning, Blank, Fault, Does}
use Rattle.dt_script.specs.Name.{begins_with_mpi}
use Rattle.dt_sessions.specs.declared.session.Opened.{Opened}
use Rattle.dt_sessions.specs.declared.session.Session.{Session}
use Rattle.dt_sessions.specs.declared.session.Session.TheVariants.{Pack, Unpack}
use Rattle.dt_sessions.specs.Open.{packing, unpacking, at_byte_in, opened_at, passed_in, HoldsOpen, IsOver, IsSmall}
use Rattle.dt_sessions.proofs.OpenLemmas.{each_found, each_insert, each_remove, each_set, holds_buffer, holds_closed, holds_given, holds_moved, holds_opened, holds_set, length_found, over_at, over_found}
use Rattle.dt_type.specs.Datatype.{typemap_of}
use Rattle.dt_unpack.specs.Session as unpack
use Rattle.dt_unpack.proofs.Apart.{length_after}
use Rattle.dt_unpack.proofs.Opening.{none_held}
use Rattle.dt_unpack.proofs.Pieces.{between_any, given_within}
use Rattle.dt_names.specs.declared.kept.Kept.{Kept}
use Rattle.dt_names.specs.Names.{bytes_of}
use Rattle.dt_machine.specs.Pieces.{IsSound, IsSoundIn, SoundIsKept}
use Rattle.dt_machine.specs.Refusal.{elements_of, IsAllowed, IsOutside, lies_outside, IsSending, IsTruncated}
use Rattle.dt_machine.specs.State.{State, type_of, buffer_of, session_of, with_committed, with_count}
use Rattle.dt_machine.specs.Step.{begun, receiving, taken_by, with_piece, Performs, Obeys, Meets}
use Rattle.dt_machine.specs.Joins.{join_of}
use Rattle.dt_machine.specs.Sides.{side, copy_between, Differ}
use Rattle.dt_machine.proofs.Copies.{of_copy}
use Rattle.dt_machine.proofs.Gathered.{all_inside}
use Rattle.dt_machine.proofs.Reductions.{of_reduction}
use Rattle.dt_machine.proofs.Rows.{allowed_is_clear, some_and}
use Rattle.dt_machine.proofs.Settled.{can_copy, length_copied, length_folded, length_reduced}

-- a state that differs in nothing of which something is known
abbrev IsLike : State → State → Type 0
IsLike s t = (t.buffers ≡ s.buffers) × (t.sessions ≡ s.sessions) × (t.totals.taken ≡ s.totals.taken) × (t.totals.given ≡ s.totals.given) × (t.totals.elements ≡ s.totals.elements)

like : (s t u : State) → IsSound s → t ≡ u → IsLike s u → IsSound t
like s t u sound new same =
    let laid : IsSound u = record {
      standing = subst (λ b. HoldsOpen b u.sessions) (sym same.0) (subst (HoldsOpen s.buffers) (sym same.1) sound.standing);
      sessions = subst (λ es. AllByRecursion (λ (e : List ℕ × Opened). IsSoundIn e.1.session) es) (sym same.1) sound.sessions;
      counted = record {
        taken = subst (λ n. n < 2 ^ 64) (sym same.2) sound.counted.taken;
        given = subst (λ n. n < 2 ^ 64) (sym same.3) sound.counted.given;
        elements = subst (λ n. n < 2 ^ 64) (sym same.4) sound.counted.elements;
      };
    } in subst IsSound (sym new) laid

same : {A B C D E : Type 0} {a : A} {b : B} {c : C} {d : D} {e : E} → (a ≡ a) × (b ≡ b) × (c ≡ c) × (d ≡ d) × (e ≡ e)
same = (refl, refl, refl, refl, refl)

none_of : {A : Type 0} (o : Option A) → (¬ (is_some o ≡ true)) → o ≡ None
none_of None none = refl
none_of (Some x) none = absurd (none refl)

not_false : (b : Bool) → (¬ (b ≡ false)) → b ≡ true
not_false true not = refl
not_false false not = absurd (not refl)

sound_moved : (x : Session) (byte : ℕ) → IsSoundIn x → IsSoundIn (at_byte_in x byte)
sound_moved (Pack p) byte is = is
sound_moved (Unpack u) byte is = is

abbrev Laid : Opened → Type 0
Laid o = IsSoundIn o.session

-- a session that goes elsewhere
module _ (s : State) (sound : IsSound s) (name : List ℕ) (o : Opened) (found : session_of s name ≡ Some o) where
  moves : (byte taken commands : ℕ) → taken < 2 ^ 64
      → IsSound (record s { sessions = set_value (is_at (slice_cmp nat_cmp name)) s.sessions (opened_at o byte); totals = record s.totals { commands = commands; taken = taken } })
  moves byte taken commands few = record {
    standing = holds_moved s.buffers s.sessions (is_at (slice_cmp nat_cmp name)) (opened_at o byte) sound.standing
        (over_at s.buffers o byte (over_found s.buffers s.sessions name o sound.standing found));
    sessions = each_set Laid (is_at (slice_cmp nat_cmp name)) s.sessions (opened_at o byte) sound.sessions
        (sound_moved o.session byte (each_found Laid (is_at (slice_cmp nat_cmp name)) s.sessions o sound.sessions found));
    counted = record { taken = few; given = sound.counted.given; elements = sound.counted.elements };
  }

-- a session that is opened
module _ (s : State) (sound : IsSound s) (name : List ℕ) (commands : ℕ) where
  opens : (o : Opened) → IsOver s.buffers o → IsSoundIn o.session
      → IsSound (record s { sessions = insert_entry (slice_cmp nat_cmp) s.sessions name o; totals = record s.totals { commands = commands } })
  opens o over laid = record {
    standing = holds_opened s.buffers s.sessions name o sound.standing over;
    sessions = each_insert Laid s.sessions name o sound.sessions laid;
    counted = record { taken = sound.counted.taken; given = sound.counted.given; elements = sound.counted.elements };
  }

-- a piece that is given
module _ (s : State) (sound : IsSound s) (name buffer : List ℕ) (u : unpack.Session) (found : session_of s name ≡ Some (unpacking buffer u))
    (bytes piece : List ℕ) (stands : buffer_of s buffer ≡ Some bytes) (short : length piece ≤ unpack.rest_of u) where
  known : (number : ℕ) × unpack.IsOpen u number
  known = each_found Laid (is_at (slice_cmp nat_cmp name)) s.sessions (unpacking buffer u) sound.sessions found

  laid_after : IsSoundIn (Unpack (unpack.after u piece))
  laid_after =
      let is = known.1 in
      let within = given_within u is.before is.rest is.between in
      let next = between_any u is.before is.rest is.between piece (omega (arith, short, within)) in
      (length next.0, record { inside = is.inside; small = is.small; apart = is.apart; before = next.0; rest = next.1; between = next.2; many = refl })

  gives : (given elements commands : ℕ) → given < 2 ^ 64 → elements < 2 ^ 64 → IsSound (record s {
    buffers = set_value (is_at (slice_cmp nat_cmp buffer)) s.buffers (unpack.buffer_after u bytes piece);
    sessions = set_value (is_at (slice_cmp nat_cmp name)) s.sessions (unpacking buffer (unpack.after u piece));
    totals = record s.totals { commands = commands; given = given; elements = elements };
  })
  gives given elements commands few low =
      let long = length_after u known.0 known.1 bytes piece (length_found s.buffers s.sessions name (unpacking buffer u) sound.standing found bytes stands) in
      record {
        standing = holds_given s.buffers s.sessions name (unpacking buffer u) piece bytes (unpack.buffer_after u bytes piece) sound.standing found stands long;
        sessions = each_set Laid (is_at (slice_cmp nat_cmp name)) s.sessions (unpacking buffer (unpack.after u piece)) sound.sessions laid_after;
        counted = record { taken = sound.counted.taken; given = few; elements = low };
      }

-- a buffer with other bytes, as many as it had
module _ (s : State) (sound : IsSound s) (name held : List ℕ) (stands : buffer_of s name ≡ Some held) where
  keeps : (bytes : List ℕ) → length bytes ≡ length held → (commands : ℕ)
      → IsSound (record s { buffers = set_value (is_at (slice_cmp nat_cmp name)) s.buffers bytes; totals = record s.totals { commands = commands } })
  keeps bytes long commands = record {
    standing = holds_set s.buffers name held bytes stands long s.sessions sound.standing;
    sessions = sound.sessions;
    counted = record { taken = sound.counted.taken; given = sound.counted.given; elements = sound.counted.elements };
  }

commit_like : (s : State) (ty : List ℕ) (kept : Kept) (b : Bool) → IsLike s (with_count (cond b s (with_committed s ty kept)))
commit_like s ty kept true = same
commit_like s ty kept false = same

-- elements that aren't outside
module _ (s : State) (ty buffer : List ℕ) (kept : Kept) (bytes : List ℕ) (count origin : ℤ) (a : type_of s ty ≡ Some kept) (b : buffer_of s buffer ≡ Some bytes)
    (not : ¬ IsOutside s ty buffer count origin) where
  lie_inside : are_inside (length bytes) (shift origin (elements (typemap_of kept.ty) (nat_abs count) (pos 0))) ≡ true
  lie_inside =
      ap (are_inside (length bytes)) (placed_elements (typemap_of kept.ty) (nat_abs count) origin)
      ∙ not_false (are_inside (length bytes) (elements_of kept count origin)) (λ out.
      not (some_and (type_of s ty) (λ k. IsSomeAnd (buffer_of s buffer) (λ held. IsFalse (are_inside (length held) (elements_of k count origin)))) kept a
      (some_and (buffer_of s buffer) (λ held. IsFalse (are_inside (length held) (elements_of kept count origin))) bytes b out)))

performs_sound : (command : Command) (s t : State) (reply : Reply) → IsSound s → IsAllowed s command → Performs command s reply t → IsSound t
performs_sound (Define name ctor) s t reply sound may (form, a, said, new) = like s t _ sound new same
performs_sound (Child name ty k) s t reply sound may (kept, old, a, b, said, new) = like s t _ sound new same
performs_sound (Commit ty) s t reply sound may (kept, a, said, new) = like s t _ sound new (commit_like s ty kept (begins_with_mpi ty))
performs_sound (Free ty) s t reply sound may (said, new) = like s t _ sound new same
performs_sound (Info ty) s t reply sound may (kept, a, said, new) = like s t _ sound new same
performs_sound (Map ty) s t reply sound may (kept, a, said, new) = like s t _ sound new same
performs_sound (Envelope ty) s t reply sound may (kept, a, said, new) = like s t _ sound new same
performs_sound (Contents ty) s t reply sound may (kept, a, said, new) = like s t _ sound new same
performs_sound (Buffer name fill) s t reply sound may (said, new) =
    let clear = (allowed_is_clear s (Buffer name fill)).0 may in
    let small : length (bytes_of fill) ≤ 16777216 =
    elim (cases_lt 16777216 (length (bytes_of fill))) [ inl large ↦ absurd (clear.1.1.1.0 (inl large)) | inr few ↦ few ] in
    subst IsSound (sym new) (record {
      standing = holds_buffer s.buffers s.sessions name (bytes_of fill) sound.standing (none_of (buffer_of s name) clear.0) small;
      sessions = sound.sessions;
      counted = record { taken = sound.counted.taken; given = sound.counted.given; elements = sound.counted.elements };
    })
performs_sound (Show buffer) s t reply sound may (bytes, a, said, new) = like s t _ sound new same
performs_sound (Bytes rep count ty buffer origin) s t reply sound may (kept, bytes, a, b, said, new) = like s t _ sound new same
performs_sound (Elements rep bytes ty) s t reply sound may (kept, a, said, new) = like s t _ sound new same
performs_sound (OpenPack name rep count ty buffer origin) s t reply sound may (kept, bytes, a, b, said, new) =
    let clear = (allowed_is_clear s (OpenPack name rep count ty buffer origin)).0 may in
    subst IsSound (sym new) (opens s sound name (with_count s).totals.commands (packing buffer (begun kept rep count origin (length bytes)))
    (some_and (buffer_of s buffer) (λ held. length held ≡ length bytes) bytes b refl)
    (lie_inside s ty buffer kept bytes count origin a b clear.1.1.1.1.1.1.0))
performs_sound (OpenUnpack name rep count ty buffer origin) s t reply sound may (kept, bytes, a, b, said, new) =
    let clear = (allowed_is_clear s (OpenUnpack name rep count ty buffer origin)).0 may in
    let m = typemap_of kept.ty in
    let rest = elements m (nat_abs count) (pos 0) in
    let is : unpack.IsOpen (receiving kept rep count origin (length bytes)) 0 = record {
      inside = lie_inside s ty buffer kept bytes count origin a b clear.1.1.1.1.1.1.0;
      small = each_found IsSmall (is_at (slice_cmp nat_cmp buffer)) s.buffers bytes sound.standing.small b;
      apart = λ over. clear.1.1.1.1.1.1.1.0
          (some_and (type_of s ty) (λ k. Overlaps (elements_of k count origin)) kept a (subst Overlaps (placed_elements m (nat_abs count) origin) over));
      before = [];
      rest = rest;
      between = record { all = refl; place = refl; within = none_held rep rest };
      many = refl;
    } in
    subst IsSound (sym new) (opens s sound name (with_count s).totals.commands (unpacking buffer (receiving kept rep count origin (length bytes)))
    (some_and (buffer_of s buffer) (λ held. length held ≡ length bytes) bytes b refl) (0, is))
performs_sound (Take session len) s t reply sound may (o, bytes, found, stands, said, new) =
    subst IsSound (sym new) (moves s sound session o found (passed_in o.session + taken_by o len) (min (s.totals.taken + taken_by o len) (2 ^ 64 - 1)) (with_count s).totals.commands (omega arith))
performs_sound (Seek session byte) s t reply sound may (o, found, said, new) =
    subst IsSound (sym new) (moves s sound session o found (nat_abs byte) s.totals.taken (with_count s).totals.commands sound.counted.taken)
performs_sound (Close session) s t reply sound may (o, found, said, new) =
    subst IsSound (sym new) (record {
      standing = holds_closed s.buffers s.sessions (is_at (slice_cmp nat_cmp session)) sound.standing;
      sessions = each_remove Laid (is_at (slice_cmp nat_cmp session)) s.sessions sound.sessions;
      counted = record { taken = sound.counted.taken; given = sound.counted.given; elements = sound.counted.elements };
    })
performs_sound (Give session piece) s t reply sound may (o, bytes, found, stands, said, new) = by o.session found new
  where
    by : (x : Session) → session_of s session ≡ Some (record { buffer = o.buffer; session = x })
        → t ≡ with_count (with_piece s session (record { buffer = o.buffer; session = x }) bytes piece) → IsSound t
    by (Pack p) at is =
        absurd (((allowed_is_clear s (Give session piece)).0 may).1.0 (some_and (session_of s session) IsSending (packing o.buffer p) at refl))
    by (Unpack u) at is =
        let clear = (allowed_is_clear s (Give session piece)).0 may in
        let short : length piece ≤ unpack.rest_of u =
        elim (cases_lt (unpack.rest_of u) (length piece)) [
          | inl less ↦ absurd (clear.1.1.0 (some_and (session_of s session) (IsTruncated piece) (unpacking o.buffer u) at less))
          | inr few ↦ few
        ] in
        subst IsSound (sym is) (gives s sound session o.buffer u at bytes piece stands short (min (s.totals.given + length piece) (2 ^ 64 - 1))
        (min (s.totals.elements + length (unpack.completed u piece)) (2 ^ 64 - 1)) (with_count s).totals.commands (omega arith) (omega arith))
performs_sound (CopyCommand source_count source_type source source_origin target_count target_type target target_origin) s t reply sound may (from, onto, old, held, a, b, c, d, (said, new)) =
    let clear = (allowed_is_clear s (CopyCommand source_count source_type source source_origin target_count target_type target target_origin)).0 may in
    let into = copied (elements_of from source_count source_origin) (elements_of onto target_count target_origin) old held in
    let of = side source_count source_type source source_origin in
    let to = side target_count target_type target target_origin in
    let holds = of_copy s source_count source_type source source_origin target_count target_type target target_origin old held c d from onto a b in
    let can = can_copy (copy_between of to from onto old held) (λ out. clear.1.1.1.1.0 (holds (λ c. ¬ AreInside c) out))
    (λ over. clear.1.1.1.1.1.0 (holds (λ c. Overlaps c.target) over)) (λ longer. clear.1.1.1.1.1.1.0 (holds (λ c. length c.target < length c.source) longer))
    (λ differ. clear.1.1.1.1.1.1.1.0 (holds Differ differ)) in
    subst IsSound (sym new) (keeps s sound target held d into (length_copied (copy_between of to from onto old held) old held refl refl can) (with_count s).totals.commands)
performs_sound (Export ty) s t reply sound may (kept, a, said, new) = like s t _ sound new same
performs_sound (Import name wire) s t reply sound may (form, a, said, new) = like s t _ sound new same
performs_sound (Reduce op count ty source source_origin target target_origin) s t reply sound may (kept, old, held, a, b, c, (said, new)) =
    let clear = (allowed_is_clear s (Reduce op count ty source source_origin target target_origin)).0 may in
    let into = reduced (join_of op) (elements_of kept count source_origin) (elements_of kept count target_origin) old held in
    let holds = of_reduction s op count ty source source_origin target target_origin old held b c kept a in
    subst IsSound (sym new) (keeps s sound target held c into (length_reduced (join_of op) (typemap_of kept.ty) (nat_abs count) source_origin (length old) target_origin old held
    (λ out. clear.1.1.1.1.0 (holds (λ r. ¬ reduction.AreInside r) out))) (with_count s).totals.commands)
performs_sound (Reduceall op how count ty origin target ranks) s t reply sound may (kept, held, buffers, a, b, c, (said, new)) =
    let clear = (allowed_is_clear s (Reduceall op how count ty origin target ranks)).0 may in
    let fs = elements_of kept count origin in
    let into = folded (join_of op) fs (map (words_of fs) buffers) held in
    let inside = all_inside s fs target ranks held b (false_from_ne_true (list_any (lies_outside s fs) (target ∷ ranks)) (λ out. clear.1.1.1.1.0
    (some_and (type_of s ty) (λ k. IsTrue (list_any (lies_outside s (elements_of k count origin)) (target ∷ ranks))) kept a out))) in
    subst IsSound (sym new) (keeps s sound target held b into (length_folded (join_of op) fs buffers held inside.0) (with_count s).totals.commands)
performs_sound (Weights leaf vector index place group part) s t reply sound may (said, new) = like s t _ sound new same
performs_sound (Normalise ty) s t reply sound may (kept, base, tree, a, b, said, new) = like s t _ sound new same
performs_sound (Rebuild name ty) s t reply sound may (kept, base, tree, a, b, said, new) = like s t _ sound new same

obeys_sound : (command : Command) (s t : State) (reply : Reply) → IsSound s → Obeys command s reply t → IsSound t
obeys_sound command s t reply sound (inl (refusal, is, said, stays)) = subst IsSound (sym stays) sound
obeys_sound command s t reply sound (inr (may, does)) = performs_sound command s t reply sound may does

meets_sound : (meaning : Meaning) (s t : State) (reply : Reply) → IsSound s → Meets meaning s reply t → IsSound t
meets_sound Blank s t reply sound (said, stays) = subst IsSound (sym stays) sound
meets_sound Fault s t reply sound (said, stays) = subst IsSound (sym stays) sound
meets_sound (Does command) s t reply sound does = obeys_sound command s t reply sound does

pub sound_is_kept : SoundIsKept
sound_is_kept = (
  record { standing = record { small = tt; over = tt }; sessions = tt; counted = record { taken = omega arith; given = omega arith; elements = omega arith } },
  λ s t line reply sound (meaning, means, meets). meets_sound meaning s t reply sound meets,
)
