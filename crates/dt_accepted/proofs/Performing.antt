-- Each command of a generated script, where nothing refuses it: what it leaves, and that the text behind it may go on from there.
use Rattle.std.proofs.Common.{◌≡◌, ℕ, ◌+◌, ◌≤◌, ◌<◌, true, false, ◌||◌, pos, List, ◌++◌, length, Option, Some, None, inl, inr, is_none, is_some, refl, sym, ap, subst, ◌∙◌, arith}
use Rattle.std.specs.Prelude.{int_lt, IsFalse, cond}
use Rattle.std.specs.Option.{IsSomeAnd}
use Rattle.dt_kinds.specs.declared.kind.Rep.TheVariants.{Native}
use Rattle.dt_kinds.specs.Name.{is_left_out}
use Rattle.dt_form.specs.declared.form.FormOf.{FormOf}
use Rattle.dt_form.specs.Arguments.{takes_arguments}
use Rattle.dt_gen.specs.Script.{line}
use Rattle.dt_map.specs.Elements.{are_inside, Overlaps}
use Rattle.dt_map.specs.Packed.{total}
use Rattle.dt_names.specs.declared.kept.Kept.{Kept}
use Rattle.dt_names.specs.Names.{bytes_of}
use Rattle.dt_names.proofs.WordLemmas.{stands_known, stands_supported}
use Rattle.dt_reply.specs.declared.reply.Reply.{Reply}
use Rattle.dt_reply.specs.Reply.{is_accepted}
use Rattle.dt_script.specs.declared.command.Command.TheVariants.{Define, Commit, Buffer, Pack, Take, Close, Unpack, Give, Normalise}
use Rattle.dt_script.specs.declared.command.Ctor.{Ctor}
use Rattle.dt_script.specs.declared.command.Fill.{Fill}
use Rattle.dt_script.specs.Name.{begins_with_mpi}
use Rattle.dt_script.specs.Olds.{any_old}
use Rattle.dt_sessions.specs.declared.session.Opened.{Opened}
use Rattle.dt_sessions.specs.Open.{is_packing, passed_in, packing, unpacking}
use Rattle.dt_type.specs.Answer as answer
use Rattle.dt_type.specs.declared.datatype.Seen.{Seen}
use Rattle.dt_type.specs.declared.fault.CtorFault.{CtorFault}
use Rattle.dt_type.specs.declared.fault.CtorFault.TheVariants as fault
use Rattle.dt_type.specs.Datatype.{entries_of}
use Rattle.dt_type.specs.Form.{result_of}
use Rattle.dt_unpack.specs.Session as unpack
use Rattle.dt_machine.specs.Made.{form_in, is_committed_by, IsFaultIn}
use Rattle.dt_machine.specs.Pieces.{IsSound}
use Rattle.dt_machine.specs.Refusal.{IsAllowed, IsNegativeFill, IsOutside, IsTooMuch, IsReceiving, IsSending, IsTruncated, elements_of}
use Rattle.dt_machine.specs.State.{State, type_of, buffer_of, session_of, is_unknown, is_type_taken, is_buffer_taken, is_session_taken, packed_open, bytes_held, with_type, with_committed, with_buffer, with_session, with_moved, without_session, with_taken, with_cost, with_count}
use Rattle.dt_machine.specs.Step.{begun, receiving, taken_by, with_piece}
use Rattle.dt_machine.proofs.Rows.{allowed, contrary, and_some}
use Rattle.dt_accepted.proofs.Commands.{Means}
use Rattle.dt_accepted.proofs.Rules.{Good, good_line}

-- from what a command leaves, which is accepted
goes_on : (reply other : Reply) (t u : State) (rest : List ℕ) → reply ≡ other → is_accepted other ≡ true → t ≡ u → IsSound t → (IsSound u → Good u rest)
    → (is_accepted reply ≡ true) × Good t rest
goes_on reply other t u rest said good new sound next =
    (ap is_accepted said ∙ good, subst (λ v. Good v rest) (sym new) (next (subst IsSound new sound)))

one_found : {A : Type 0} (o : Option A) (x y : A) → o ≡ Some x → o ≡ Some y → y ≡ x
one_found o x y a b = let both : Some x ≡ Some y = sym a ∙ b in cc

-- no condition that asks of what stands holds, where it doesn't of what stands there
never : {A : Type 0} (o : Option A) (P : A → Type 0) (x : A) → o ≡ Some x → (¬ P x) → ¬ IsSomeAnd o P
never o P x is not holds = not (and_some o P x is holds)

-- a new type
abbrev pub derived : FormOf Seen → Kept
derived form = record { ty = result_of form; committed = false }

pub record CanDefine (s : State) (name : List ℕ) (ctor : Ctor) (form : FormOf Seen) : Type 0 where
  pub known : any_old (is_unknown s) ctor ≡ false
  pub free : is_type_taken s name ≡ false
  pub supported : any_old is_left_out ctor ≡ false
  pub says : form_in s ctor ≡ Some form
  pub takes : takes_arguments form ≡ true
  pub within : answer.IsAllowed form
  pub few : length s.types < 1024
  pub made : s.made < 18446744073709551615
  pub new : is_committed_by s ctor ≡ false

no_fault : (s : State) (ctor : Ctor) (form : FormOf Seen) (f : CtorFault) → form_in s ctor ≡ Some form → (¬ answer.IsCause form f) → ¬ IsFaultIn s ctor f
no_fault s ctor form f says not (other, is, cause) =
    not (subst (λ (x : FormOf Seen). answer.IsCause x f) (one_found (form_in s ctor) form other says is) cause)

define_allowed : (s : State) (name : List ℕ) (ctor : Ctor) (form : FormOf Seen) → CanDefine s name ctor form → IsAllowed s (Define name ctor)
define_allowed s name ctor form can =
    let shallow = can.within.shallow in
    let light = can.within.light in
    let few = can.few in
    let made = can.made in
    allowed s (Define name ctor) (
      contrary (any_old (is_unknown s) ctor) can.known,
      (
        contrary (is_type_taken s name) can.free,
        (
          contrary (any_old is_left_out ctor) can.supported,
          (
            no_fault s ctor form fault.BadArgument can.says (λ bad. bad can.takes),
            (
              no_fault s ctor form fault.Overflow can.says (λ over. over.1 can.within.in_range),
              (
                no_fault s ctor form fault.TooDeep can.says (λ deep. let h = deep.2 in absurd (omega (arith, h, shallow))),
                (
                  no_fault s ctor form fault.TooHeavy can.says (λ heavy. let h = heavy.3 in absurd (omega (arith, h, light))),
                  ((λ more. elim more [ inl many ↦ absurd (omega (arith, many, few)) | inr many ↦ absurd (omega (arith, many, made)) ]), tt),
                ),
              ),
            ),
          ),
        ),
      ),
    )

pub good_define : (s : State) (first : List ℕ) (words : List (List ℕ)) (name : List ℕ) (ctor : Ctor) (form : FormOf Seen) (rest : List ℕ)
    → Means first words (Define name ctor) → IsSound s → CanDefine s name ctor form
    → (IsSound (with_count (with_type s name (derived form))) → Good (with_count (with_type s name (derived form))) rest)
    → Good s (line first words ++ rest)
good_define s first words name ctor form rest means sound can next =
    good_line s first words (Define name ctor) rest means sound (define_allowed s name ctor form can) (λ t reply after (other, is, said, new).
    goes_on reply _ t (with_count (with_type s name (derived form))) rest said refl
    (new ∙ (ap (λ f. with_count (with_type s name (record { ty = result_of f; committed = is_committed_by s ctor }))) (one_found (form_in s ctor) form other can.says is)
    ∙ ap (λ b. with_count (with_type s name (record { ty = result_of form; committed = b }))) can.new)) after next)

-- `commit`
pub good_commit : (s : State) (first : List ℕ) (words : List (List ℕ)) (ty : List ℕ) (kept : Kept) (rest : List ℕ)
    → Means first words (Commit ty) → IsSound s → type_of s ty ≡ Some kept → begins_with_mpi ty ≡ false
    → (IsSound (with_count (with_committed s ty kept)) → Good (with_count (with_committed s ty kept)) rest)
    → Good s (line first words ++ rest)
good_commit s first words ty kept rest means sound stands plain next =
    good_line s first words (Commit ty) rest means sound
    (allowed s (Commit ty) (contrary (is_unknown s ty) (stands_known s.types ty kept stands), (contrary (is_left_out ty) (stands_supported s.types ty kept stands), tt)))
    (λ t reply after (other, is, said, new).
    goes_on reply _ t (with_count (with_committed s ty kept)) rest said refl
    (new ∙ (ap (λ b. with_count (cond b s (with_committed s ty other))) plain
    ∙ ap (λ (k : Kept). with_count (with_committed s ty k)) (one_found (type_of s ty) kept other stands is))) after next)

-- `buffer`
pub good_buffer : (s : State) (first : List ℕ) (words : List (List ℕ)) (name : List ℕ) (fill : Fill) (rest : List ℕ)
    → Means first words (Buffer name fill) → IsSound s → buffer_of s name ≡ None → (¬ IsNegativeFill fill) → length s.buffers < 256
    → length (bytes_of fill) ≤ 16777216 → bytes_held s + length (bytes_of fill) ≤ 67108864
    → (IsSound (with_count (with_buffer s name (bytes_of fill))) → Good (with_count (with_buffer s name (bytes_of fill))) rest)
    → Good s (line first words ++ rest)
good_buffer s first words name fill rest means sound free plain few small held next =
    good_line s first words (Buffer name fill) rest means sound
    (allowed s (Buffer name fill) (
      contrary (is_buffer_taken s name) (ap is_some free),
      (
        plain,
        (
          (λ many. absurd (omega (arith, many, few))),
          ((λ large. elim large [ inl a ↦ absurd (omega (arith, a, small)) | inr b ↦ absurd (omega (arith, b, held)) ]), tt),
        ),
      ),
    ))
    (λ t reply after (said, new). goes_on reply _ t (with_count (with_buffer s name (bytes_of fill))) rest said refl new after next)

-- a session that is opened over a whole buffer
module _ (s : State) (name ty buffer : List ℕ) (kept : Kept) (bytes : List ℕ) where
  pub record CanOpen : Type 0 where
    pub stands : type_of s ty ≡ Some kept
    pub over : buffer_of s buffer ≡ Some bytes
    pub free : session_of s name ≡ None
    pub committed : kept.committed ≡ true
    pub few : length s.sessions < 256
    pub inside : are_inside (length bytes) (elements_of kept (pos 1) (pos 0)) ≡ true
    pub small : packed_open s + total Native (elements_of kept (pos 1) (pos 0)) ≤ 16777216

  module _ (can : CanOpen) where
    both_stand : (is_unknown s ty || is_none (buffer_of s buffer)) ≡ false
    both_stand = ap (λ b. b || is_none (buffer_of s buffer)) (stands_known s.types ty kept can.stands) ∙ ap is_none can.over

    not_false : ¬ (kept.committed ≡ false)
    not_false other = let apart : true ≡ false = sym can.committed ∙ other in cc

    lies_inside : ¬ IsOutside s ty buffer (pos 1) (pos 0)
    lies_inside =
        never (type_of s ty) (λ kept. IsSomeAnd (buffer_of s buffer) (λ bytes. IsFalse (are_inside (length bytes) (elements_of kept (pos 1) (pos 0))))) kept can.stands
        (never (buffer_of s buffer) (λ bytes. IsFalse (are_inside (length bytes) (elements_of kept (pos 1) (pos 0)))) bytes can.over
        (λ out. let apart : true ≡ false = sym can.inside ∙ out in cc))

    is_small : ¬ IsSomeAnd (type_of s ty) (IsTooMuch s Native (pos 1) (pos 0))
    is_small =
        let small = can.small in
        never (type_of s ty) (IsTooMuch s Native (pos 1) (pos 0)) kept can.stands (λ many. absurd (omega (arith, many, small)))

    opens_few : ¬ (256 ≤ length s.sessions)
    opens_few many = let few = can.few in absurd (omega (arith, many, few))

    pub pack_allowed : IsAllowed s (Pack name Native (pos 1) ty buffer (pos 0))
    pack_allowed =
        allowed s (Pack name Native (pos 1) ty buffer (pos 0)) (
          contrary (is_unknown s ty || is_none (buffer_of s buffer)) both_stand,
          (
            contrary (is_session_taken s name) (ap is_some can.free),
            (
              contrary (is_left_out ty) (stands_supported s.types ty kept can.stands),
              (
                never (type_of s ty) (λ kept. kept.committed ≡ false) kept can.stands not_false,
                (contrary (int_lt (pos 1) (pos 0)) refl, (opens_few, (lies_inside, (is_small, tt)))),
              ),
            ),
          ),
        )

    pub unpack_allowed : (¬ Overlaps (elements_of kept (pos 1) (pos 0))) → IsAllowed s (Unpack name Native (pos 1) ty buffer (pos 0))
    unpack_allowed apart =
        allowed s (Unpack name Native (pos 1) ty buffer (pos 0)) (
          contrary (is_unknown s ty || is_none (buffer_of s buffer)) both_stand,
          (
            contrary (is_session_taken s name) (ap is_some can.free),
            (
              contrary (is_left_out ty) (stands_supported s.types ty kept can.stands),
              (
                never (type_of s ty) (λ kept. kept.committed ≡ false) kept can.stands not_false,
                (
                  contrary (int_lt (pos 1) (pos 0)) refl,
                  (
                    opens_few,
                    (
                      lies_inside,
                      (never (type_of s ty) (λ kept. Overlaps (elements_of kept (pos 1) (pos 0))) kept can.stands apart, (is_small, tt)),
                    ),
                  ),
                ),
              ),
            ),
          ),
        )

pub good_pack : (s : State) (first : List ℕ) (words : List (List ℕ)) (name ty buffer : List ℕ) (kept : Kept) (bytes rest : List ℕ)
    → Means first words (Pack name Native (pos 1) ty buffer (pos 0)) → IsSound s → CanOpen s name ty buffer kept bytes
    → (let t = with_count (with_session s name (packing buffer (begun kept Native (pos 1) (pos 0) (length bytes)))) in IsSound t → Good t rest)
    → Good s (line first words ++ rest)
good_pack s first words name ty buffer kept bytes rest means sound can next =
    good_line s first words (Pack name Native (pos 1) ty buffer (pos 0)) rest means sound (pack_allowed s name ty buffer kept bytes can)
    (λ t reply after (other, held, is, there, said, new).
    goes_on reply _ t (with_count (with_session s name (packing buffer (begun kept Native (pos 1) (pos 0) (length bytes))))) rest said refl
    (new ∙ (ap (λ (k : Kept). with_count (with_session s name (packing buffer (begun k Native (pos 1) (pos 0) (length held))))) (one_found (type_of s ty) kept other can.stands is)
    ∙ ap (λ (b : List ℕ). with_count (with_session s name (packing buffer (begun kept Native (pos 1) (pos 0) (length b))))) (one_found (buffer_of s buffer) bytes held can.over there)))
    after next)

pub good_unpack : (s : State) (first : List ℕ) (words : List (List ℕ)) (name ty buffer : List ℕ) (kept : Kept) (bytes rest : List ℕ)
    → Means first words (Unpack name Native (pos 1) ty buffer (pos 0)) → IsSound s → CanOpen s name ty buffer kept bytes
    → (¬ Overlaps (elements_of kept (pos 1) (pos 0)))
    → (let t = with_count (with_session s name (unpacking buffer (receiving kept Native (pos 1) (pos 0) (length bytes)))) in IsSound t → Good t rest)
    → Good s (line first words ++ rest)
good_unpack s first words name ty buffer kept bytes rest means sound can apart next =
    good_line s first words (Unpack name Native (pos 1) ty buffer (pos 0)) rest means sound (unpack_allowed s name ty buffer kept bytes can apart)
    (λ t reply after (other, held, is, there, said, new).
    goes_on reply _ t (with_count (with_session s name (unpacking buffer (receiving kept Native (pos 1) (pos 0) (length bytes))))) rest said refl
    (new ∙ (ap (λ (k : Kept). with_count (with_session s name (unpacking buffer (receiving k Native (pos 1) (pos 0) (length held))))) (one_found (type_of s ty) kept other can.stands is)
    ∙ ap (λ (b : List ℕ). with_count (with_session s name (unpacking buffer (receiving kept Native (pos 1) (pos 0) (length b))))) (one_found (buffer_of s buffer) bytes held can.over there)))
    after next)

-- no length is negative
pub not_below : (n : ℕ) → int_lt (pos n) (pos 0) ≡ false
not_below n = grind arith

-- `take`
abbrev pub taken_from : State → List ℕ → Opened → ℕ → State
taken_from s session o asked =
    with_count (with_taken (with_moved s session o (passed_in o.session + taken_by o (pos asked))) (taken_by o (pos asked)))

pub good_take : (s : State) (first : List ℕ) (words : List (List ℕ)) (session : List ℕ) (o : Opened) (asked : ℕ) (rest : List ℕ)
    → Means first words (Take session (pos asked)) → IsSound s → session_of s session ≡ Some o → is_packing o.session ≡ true
    → (IsSound (taken_from s session o asked) → Good (taken_from s session o asked) rest)
    → Good s (line first words ++ rest)
good_take s first words session o asked rest means sound stands packs next =
    good_line s first words (Take session (pos asked)) rest means sound
    (allowed s (Take session (pos asked)) (
      contrary (is_none (session_of s session)) (ap is_none stands),
      (
        contrary (int_lt (pos asked) (pos 0)) (not_below asked),
        (never (session_of s session) IsReceiving o stands (λ other. let apart : true ≡ false = sym packs ∙ other in cc), tt),
      ),
    ))
    (λ t reply after (other, held, is, there, said, new).
    goes_on reply _ t (taken_from s session o asked) rest said refl
    (new ∙ ap (λ (x : Opened). taken_from s session x asked) (one_found (session_of s session) o other stands is)) after next)

-- `give`
pub good_give : (s : State) (first : List ℕ) (words : List (List ℕ)) (session buffer : List ℕ) (u : unpack.Session) (piece rest : List ℕ)
    → Means first words (Give session piece) → IsSound s → session_of s session ≡ Some (unpacking buffer u) → length piece ≤ unpack.rest_of u
    → ((bytes : List ℕ) → buffer_of s buffer ≡ Some bytes → (let t = with_count (with_piece s session (unpacking buffer u) bytes piece) in IsSound t → Good t rest))
    → Good s (line first words ++ rest)
good_give s first words session buffer u piece rest means sound stands short next =
    good_line s first words (Give session piece) rest means sound
    (allowed s (Give session piece) (
      contrary (is_none (session_of s session)) (ap is_none stands),
      (
        never (session_of s session) IsSending (unpacking buffer u) stands (λ other. cc),
        (never (session_of s session) (IsTruncated piece) (unpacking buffer u) stands (λ long. absurd (omega (arith, long, short))), tt),
      ),
    ))
    (λ t reply after (other, held, is, there, said, new).
    let same = one_found (session_of s session) (unpacking buffer u) other stands is in
    goes_on reply _ t (with_count (with_piece s session (unpacking buffer u) held piece)) rest said refl
    (new ∙ ap (λ (x : Opened). with_count (with_piece s session x held piece)) same) after
    (next held (ap (λ (x : Opened). buffer_of s x.buffer) (sym same) ∙ there)))

-- `close`
pub good_close : (s : State) (first : List ℕ) (words : List (List ℕ)) (session : List ℕ) (o : Opened) (rest : List ℕ)
    → Means first words (Close session) → IsSound s → session_of s session ≡ Some o
    → (IsSound (with_count (without_session s session)) → Good (with_count (without_session s session)) rest)
    → Good s (line first words ++ rest)
good_close s first words session o rest means sound stands next =
    good_line s first words (Close session) rest means sound
    (allowed s (Close session) (contrary (is_none (session_of s session)) (ap is_none stands), tt))
    (λ t reply after (other, is, said, new). goes_on reply _ t (with_count (without_session s session)) rest said refl new after next)

-- `normalise`
pub good_normalise : (s : State) (first : List ℕ) (words : List (List ℕ)) (ty : List ℕ) (kept : Kept) (rest : List ℕ)
    → Means first words (Normalise ty) → IsSound s → type_of s ty ≡ Some kept → length (entries_of kept.ty) ≤ 1024
    → ((cost : ℕ) → IsSound (with_count (with_cost s cost)) → Good (with_count (with_cost s cost)) rest)
    → Good s (line first words ++ rest)
good_normalise s first words ty kept rest means sound stands few next =
    good_line s first words (Normalise ty) rest means sound
    (allowed s (Normalise ty) (
      contrary (is_unknown s ty) (stands_known s.types ty kept stands),
      (
        contrary (is_left_out ty) (stands_supported s.types ty kept stands),
        (never (type_of s ty) (λ kept. 1024 < length (entries_of kept.ty)) kept stands (λ many. absurd (omega (arith, many, few))), tt),
      ),
    ))
    (λ t reply after (other, base, tree, is, told, said, new). goes_on reply _ t _ rest said refl new after (next _))
