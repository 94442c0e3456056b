-- A step is a function, and so are the answers to an input.
use Rattle.std.proofs.Common.{◌≡◌, ℕ, ◌+◌, ◌<◌, ℤ, pos, nat_abs, false, cond, List, [], ◌∷◌, map, length, Option, Some, None, inl, inr, refl, sym, ap, subst, ◌∙◌, arith}
use Rattle.std.proofs.lemmas.Bool.{cases_lt}
use Rattle.std.specs.List.{AllByRecursion}
use Rattle.std.specs.Option.{IsSomeAnd}
use Rattle.dt_map.specs.Bounds.{bounds_of}
use Rattle.dt_map.specs.Counts.{received_elements, received_copies}
use Rattle.dt_map.specs.declared.entry.Entry.{Entry}
use Rattle.dt_map.specs.Packed.{packed, total}
use Rattle.dt_copy.proofs.Alike.{some_same}
use Rattle.dt_copy.specs.Copied.{copied}
use Rattle.dt_kinds.specs.declared.kind.Rep.TheVariants.{Native}
use Rattle.dt_reduce.specs.Folded.{folded, words_of}
use Rattle.dt_reduce.specs.Reduced.{reduced}
use Rattle.dt_reply.specs.declared.refusal.Refusal.{Refusal}
use Rattle.dt_reply.specs.declared.reply.Reply.{Reply}
use Rattle.dt_reply.specs.declared.reply.Reply.TheVariants.{Done, Packed, Shown, Told, Listed, Described, Contained, Counted, Opened, Given, Closed, Copied, Wire, Reduced, ReducedAll, Refused}
use Rattle.dt_reply.specs.Refusal.{number_of}
use Rattle.dt_reply.proofs.Numbers.{one_refusal}
use Rattle.dt_script.specs.declared.command.Command.{Command}
use Rattle.dt_script.specs.declared.command.How.{How}
use Rattle.dt_script.specs.declared.command.Op.{Op}
use Rattle.dt_script.specs.declared.command.Command.TheVariants.{Define, Child, Commit, Free, Info, Map, Envelope, Contents, Buffer, Show, Bytes, Elements, Pack, Take, Seek, Close, Unpack, Give, Copy as CopyCommand, Export, Import, Reduce, Reduceall, Weights, Normalise, Rebuild}
use Rattle.dt_script.specs.Line.{Meaning, Blank, Fault, Does, IsLine}
use Rattle.dt_script.specs.Lines.{script_lines}
use Rattle.dt_script.specs.Name.{begins_with_mpi}
use Rattle.dt_script.proofs.LineLemmas.{one_meaning}
use Rattle.dt_type.specs.Basic.{is_basic}
use Rattle.dt_form.specs.Contents.{old_at, envelope_of, contents_of}
use Rattle.dt_type.specs.Datatype.{typemap_of, entries_of, marks_of, form_of}
use Rattle.dt_form.specs.Form.{olds_of}
use Rattle.dt_type.specs.Form.{result_of}
use Rattle.dt_names.specs.declared.kept.Kept.{Kept}
use Rattle.dt_rebuild.specs.Built.{built}
use Rattle.dt_tree.specs.Tree.{Tree}
use Rattle.dt_machine.specs.Answers.{Run, text_of_all, are_accepted}
use Rattle.dt_machine.specs.Choice.{cost_told, tells}
use Rattle.dt_machine.specs.Laws.{sought, Chooses, StepIsFunction, AnswersAreOne}
use Rattle.dt_machine.specs.Joins.{join_of}
use Rattle.dt_machine.specs.Made.{form_in, is_committed_by}
use Rattle.dt_machine.specs.Refusal.{elements_of, IsRefusedBy}
use Rattle.dt_machine.specs.State.{State, first_state, type_of, buffer_of, session_of, with_session, with_moved, without_session, with_taken, with_bytes, with_type, with_committed, with_cost, with_count}
use Rattle.dt_pack.specs.Session as pack
use Rattle.dt_sessions.specs.declared.session.Opened as opened
use Rattle.dt_sessions.specs.Open.{total_in, passed_in, next_in, receipt_in, packing, unpacking}
use Rattle.dt_unpack.specs.Session as unpack
use Rattle.dt_wire.proofs.Uniques.{one_spelling}
use Rattle.dt_wire.specs.Spelling.{text_of}
use Rattle.dt_machine.specs.Step.{begun, receiving, taken_by, with_piece, Performs, Obeys, Meets}
use Rattle.dt_machine.proofs.Rows.{some_and}
use Rattle.dt_machine.proofs.Telling.{no_choice}

-- one reply and one state
abbrev IsOne : Reply → Reply → State → State → Type 0
IsOne reply other t u = (reply ≡ other) × (t ≡ u)

-- what is replied and changed is told by what stands
by_one : {A : Type 0} (found : Option A) (to : A → Reply) (of : A → State) (reply other : Reply) (t u : State)
    → ((x : A) × (found ≡ Some x) × (reply ≡ to x) × (t ≡ of x)) → ((x : A) × (found ≡ Some x) × (other ≡ to x) × (u ≡ of x)) → IsOne reply other t u
by_one found to of reply other t u (x, a, b, c) (y, d, e, f) =
    let both : Some x ≡ Some y = sym a ∙ d in
    let same : x ≡ y = cc in
    (b ∙ ap to same ∙ sym e, c ∙ ap of same ∙ sym f)

by_two : {A B : Type 0} (found : Option A) (held : A → Option B) (to : A → B → Reply) (of : A → B → State) (reply other : Reply) (t u : State)
    → ((x : A) × (y : B) × (found ≡ Some x) × (held x ≡ Some y) × (reply ≡ to x y) × (t ≡ of x y))
    → ((x : A) × (y : B) × (found ≡ Some x) × (held x ≡ Some y) × (other ≡ to x y) × (u ≡ of x y)) → IsOne reply other t u
by_two found held to of reply other t u (x, y, a, b, c, d) (x2, y2, e, f, g, h) =
    let both : Some x ≡ Some x2 = sym a ∙ e in
    let same : x ≡ x2 = cc in
    let also : Some y ≡ Some y2 = sym b ∙ (ap held same ∙ f) in
    let one : y ≡ y2 = cc in
    (c ∙ (ap (λ x. to x y) same ∙ (ap (to x2) one ∙ sym g)), d ∙ (ap (λ x. of x y) same ∙ (ap (of x2) one ∙ sym h)))

abbrev HasEntries : Kept → Type 0
HasEntries kept = 0 < length (entries_of kept.ty)

-- a command that may choose a tree
abbrev ChoosesBy : State → Command → Type 0
ChoosesBy s command = IsSomeAnd (sought command) (λ ty. IsSomeAnd (type_of s ty) HasEntries)

told_nothing : (s : State) (base : ℤ) (tree : Option Tree) → (base ≡ pos 0) × (tree ≡ None) → tells s.weights base tree ≡ tells s.weights (pos 0) None
told_nothing s base tree (a, b) = rw (a, b) refl

cost_nothing : (s : State) (base : ℤ) (tree : Option Tree) → (base ≡ pos 0) × (tree ≡ None) → with_count (with_cost s (cost_told s.weights tree)) ≡ with_count (with_cost s 0)
cost_nothing s base tree (a, b) = rw b refl

abbrev with_built : State → List ℕ → ℤ → Option Tree → Kept → State
with_built s name base tree kept = with_count (with_type s name (record { ty = built base tree (marks_of kept.ty); committed = false }))

built_nothing : (s : State) (name : List ℕ) (kept : Kept) (base : ℤ) (tree : Option Tree) → (base ≡ pos 0) × (tree ≡ None)
    → with_built s name base tree kept ≡ with_built s name (pos 0) None kept
built_nothing s name kept base tree (a, b) = rw (a, b) refl

-- the elements of both sides of a copy, and of a reduction, are told by what stands
abbrev with_copied : State → List ℕ → List Entry → List Entry → List ℕ → List ℕ → State
with_copied s target es fs old held = with_count (with_bytes s target (copied es fs old held))

copies_one : (s : State) (source_count : ℤ) (source_type source : List ℕ) (source_origin target_count : ℤ) (target_type target : List ℕ) (target_origin : ℤ)
    (t u : State) (reply other : Reply)
    → let command = CopyCommand source_count source_type source source_origin target_count target_type target target_origin in
    Performs command s reply t → Performs command s other u → IsOne reply other t u
copies_one s source_count source_type source source_origin target_count target_type target target_origin t u reply other
    (from, onto, old, held, a, b, c, d, (said, new)) (from2, onto2, old2, held2, e, f, g, h, (told, now)) =
    let one : from ≡ from2 = some_same from from2 (sym a ∙ e) in
    let two : onto ≡ onto2 = some_same onto onto2 (sym b ∙ f) in
    let three : old ≡ old2 = some_same old old2 (sym c ∙ g) in
    let four : held ≡ held2 = some_same held held2 (sym d ∙ h) in
    let es = elements_of from source_count source_origin in
    let es2 = elements_of from2 source_count source_origin in
    let fs = elements_of onto target_count target_origin in
    let fs2 = elements_of onto2 target_count target_origin in
    let first : es ≡ es2 = ap (λ k. elements_of k source_count source_origin) one in
    let second : fs ≡ fs2 = ap (λ k. elements_of k target_count target_origin) two in (
      said ∙ (ap (λ xs. Copied (length xs) (total Native xs)) first ∙ sym told),
      new
          ∙ (ap (λ xs. with_copied s target xs fs old held) first
          ∙ (ap (λ xs. with_copied s target es2 xs old held) second
          ∙ (ap (λ x. with_copied s target es2 fs2 x held) three ∙ (ap (with_copied s target es2 fs2 old2) four ∙ sym now)))),
    )

abbrev with_reduced : State → Op → List ℕ → List Entry → List Entry → List ℕ → List ℕ → State
with_reduced s op target es fs old held = with_count (with_bytes s target (reduced (join_of op) es fs old held))

reduces_one : (s : State) (op : Op) (count : ℤ) (ty source : List ℕ) (source_origin : ℤ) (target : List ℕ) (target_origin : ℤ) (t u : State) (reply other : Reply)
    → let command = Reduce op count ty source source_origin target target_origin in
    Performs command s reply t → Performs command s other u → IsOne reply other t u
reduces_one s op count ty source source_origin target target_origin t u reply other (kept, old, held, a, b, c, (said, new)) (kept2, old2, held2, d, e, f, (told, now)) =
    let one : kept ≡ kept2 = some_same kept kept2 (sym a ∙ d) in
    let two : old ≡ old2 = some_same old old2 (sym b ∙ e) in
    let three : held ≡ held2 = some_same held held2 (sym c ∙ f) in
    let es = elements_of kept count source_origin in
    let es2 = elements_of kept2 count source_origin in
    let fs = elements_of kept count target_origin in
    let fs2 = elements_of kept2 count target_origin in
    let first : es ≡ es2 = ap (λ k. elements_of k count source_origin) one in
    let second : fs ≡ fs2 = ap (λ k. elements_of k count target_origin) one in (
      said ∙ (ap (λ xs. Reduced (length xs)) second ∙ sym told),
      new
          ∙ (ap (λ xs. with_reduced s op target xs fs old held) first
          ∙ (ap (λ xs. with_reduced s op target es2 xs old held) second
          ∙ (ap (λ x. with_reduced s op target es2 fs2 x held) two ∙ (ap (with_reduced s op target es2 fs2 old2) three ∙ sym now)))),
    )

abbrev with_folded : State → Op → List ℕ → List Entry → List (List ℕ) → List ℕ → State
with_folded s op target fs buffers held = with_count (with_bytes s target (folded (join_of op) fs (map (words_of fs) buffers) held))

ranks_one : (s : State) (op : Op) (how : How) (count : ℤ) (ty : List ℕ) (origin : ℤ) (target : List ℕ) (ranks : List (List ℕ)) (t u : State) (reply other : Reply)
    → let command = Reduceall op how count ty origin target ranks in Performs command s reply t → Performs command s other u → IsOne reply other t u
ranks_one s op how count ty origin target ranks t u reply other (kept, held, buffers, a, b, c, (said, new)) (kept2, held2, buffers2, d, e, f, (told, now)) =
    let one : kept ≡ kept2 = some_same kept kept2 (sym a ∙ d) in
    let two : held ≡ held2 = some_same held held2 (sym b ∙ e) in
    let three : buffers ≡ buffers2 = some_same buffers buffers2 (sym c ∙ f) in
    let fs = elements_of kept count origin in
    let fs2 = elements_of kept2 count origin in
    let same : fs ≡ fs2 = ap (λ k. elements_of k count origin) one in (
      said ∙ (ap (λ xs. ReducedAll (length xs) (length ranks)) same ∙ sym told),
      new
          ∙ (ap (λ xs. with_folded s op target xs buffers held) same
          ∙ (ap (λ bs. with_folded s op target fs2 bs held) three ∙ (ap (with_folded s op target fs2 buffers2) two ∙ sym now))),
    )

performs_one : (command : Command) (s t u : State) (reply other : Reply) → (¬ ChoosesBy s command) → Performs command s reply t → Performs command s other u
    → IsOne reply other t u
performs_one (Define name ctor) s t u reply other none p q =
    by_one (form_in s ctor) (λ _. Done) (λ form. with_count (with_type s name (record { ty = result_of form; committed = is_committed_by s ctor }))) reply other t u p q
performs_one (Child name ty k) s t u reply other none (kept, old, a, b, c, d) (kept2, old2, e, f, g, h) =
    let both : Some kept ≡ Some kept2 = sym a ∙ e in
    let same : kept ≡ kept2 = cc in
    let olds : Some old ≡ Some old2 = sym b ∙ (ap (λ (x : Kept). old_at (olds_of (form_of x.ty)) k) same ∙ f) in
    let one : old ≡ old2 = cc in
    (c ∙ sym g, d ∙ (ap (λ o. with_count (with_type s name (record { ty = o; committed = is_basic o }))) one ∙ sym h))
performs_one (Commit ty) s t u reply other none p q =
    by_one (type_of s ty) (λ _. Done) (λ kept. with_count (cond (begins_with_mpi ty) s (with_committed s ty kept))) reply other t u p q
performs_one (Free ty) s t u reply other none p q = (p.0 ∙ sym q.0, p.1 ∙ sym q.1)
performs_one (Info ty) s t u reply other none p q =
    by_one (type_of s ty) (λ kept. Told (bounds_of (typemap_of kept.ty)) kept.committed) (λ _. with_count s) reply other t u p q
performs_one (Map ty) s t u reply other none p q = by_one (type_of s ty) (λ kept. Listed (typemap_of kept.ty)) (λ _. with_count s) reply other t u p q
performs_one (Envelope ty) s t u reply other none p q =
    by_one (type_of s ty) (λ kept. Described (envelope_of (form_of kept.ty))) (λ _. with_count s) reply other t u p q
performs_one (Contents ty) s t u reply other none p q =
    by_one (type_of s ty) (λ kept. Contained (contents_of (form_of kept.ty))) (λ _. with_count s) reply other t u p q
performs_one (Buffer name fill) s t u reply other none p q = (p.0 ∙ sym q.0, p.1 ∙ sym q.1)
performs_one (Show buffer) s t u reply other none p q = by_one (buffer_of s buffer) Shown (λ _. with_count s) reply other t u p q
performs_one (Bytes rep count ty buffer origin) s t u reply other none (kept, held, a, b, c, d) (kept2, held2, e, f, g, h) =
    let both : Some kept ≡ Some kept2 = sym a ∙ e in
    let same : kept ≡ kept2 = cc in
    let buffers : Some held ≡ Some held2 = sym b ∙ f in
    let one : held ≡ held2 = cc in
    let text = ap (λ (x : Kept). Packed (packed rep (elements_of x count origin) held)) same ∙ ap (λ (x : List ℕ). Packed (packed rep (elements_of kept2 count origin) x)) one in
    (c ∙ (text ∙ sym g), d ∙ sym h)
performs_one (Elements rep bytes ty) s t u reply other none p q =
    by_one (type_of s ty)
    (λ kept. Counted (received_elements rep (typemap_of kept.ty) (nat_abs bytes)) (received_copies rep (typemap_of kept.ty) (nat_abs bytes))) (λ _. with_count s) reply
    other t u p q
performs_one (Pack name rep count ty buffer origin) s t u reply other none p q =
    by_two (type_of s ty) (λ _. buffer_of s buffer) (λ kept bytes. Opened (pack.total_of (begun kept rep count origin (length bytes))))
    (λ kept bytes. with_count (with_session s name (packing buffer (begun kept rep count origin (length bytes))))) reply other t u p q
performs_one (Take session len) s t u reply other none p q =
    by_two (session_of s session) (λ (o : opened.Opened). buffer_of s o.buffer) (λ o bytes. Packed (next_in o.session bytes (taken_by o len)))
    (λ o bytes. with_count (with_taken (with_moved s session o (passed_in o.session + taken_by o len)) (taken_by o len))) reply other t u p q
performs_one (Seek session byte) s t u reply other none p q =
    by_one (session_of s session) (λ _. Done) (λ o. with_count (with_moved s session o (nat_abs byte))) reply other t u p q
performs_one (Close session) s t u reply other none p q =
    by_one (session_of s session) (λ (o : opened.Opened). Closed (passed_in o.session) (total_in o.session)) (λ _. with_count (without_session s session)) reply other t
    u p q
performs_one (Unpack name rep count ty buffer origin) s t u reply other none p q =
    by_two (type_of s ty) (λ _. buffer_of s buffer) (λ kept bytes. Opened (unpack.total_of (receiving kept rep count origin (length bytes))))
    (λ kept bytes. with_count (with_session s name (unpacking buffer (receiving kept rep count origin (length bytes))))) reply other t u p q
performs_one (Give session piece) s t u reply other none p q =
    by_two (session_of s session) (λ (o : opened.Opened). buffer_of s o.buffer) (λ o _. Given (receipt_in o.session piece))
    (λ o bytes. with_count (with_piece s session o bytes piece)) reply other t u p q
performs_one (CopyCommand source_count source_type source source_origin target_count target_type target target_origin) s t u reply other none p q =
    copies_one s source_count source_type source source_origin target_count target_type target target_origin t u reply other p q
performs_one (Export ty) s t u reply other none p q = by_one (type_of s ty) (λ kept. Wire (text_of (form_of kept.ty))) (λ _. with_count s) reply other t u p q
performs_one (Import name wire) s t u reply other none (form, a, b, c) (form2, d, e, f) =
    let same : form ≡ form2 = (one_spelling wire wire form form2 a d).0 refl in
    (b ∙ sym e, c ∙ (ap (λ x. with_count (with_type s name (record { ty = result_of x; committed = is_basic (result_of x) }))) same ∙ sym f))
performs_one (Reduce op count ty source source_origin target target_origin) s t u reply other none p q =
    reduces_one s op count ty source source_origin target target_origin t u reply other p q
performs_one (Reduceall op how count ty origin target ranks) s t u reply other none p q = ranks_one s op how count ty origin target ranks t u reply other p q
performs_one (Weights leaf vector index place group part) s t u reply other none p q = (p.0 ∙ sym q.0, p.1 ∙ sym q.1)
performs_one (Normalise ty) s t u reply other none (kept, base, tree, a, b, c, d) (kept2, base2, tree2, e, f, g, h) =
    let few = no_choice s.weights (entries_of kept.ty) base tree (λ some. none (some_and (type_of s ty) HasEntries kept a some)) b in
    let also = no_choice s.weights (entries_of kept2.ty) base2 tree2 (λ some. none (some_and (type_of s ty) HasEntries kept2 e some)) f in (
      c ∙ (told_nothing s base tree few ∙ (sym (told_nothing s base2 tree2 also) ∙ sym g)),
      d ∙ (cost_nothing s base tree few ∙ (sym (cost_nothing s base2 tree2 also) ∙ sym h)),
    )
performs_one (Rebuild name ty) s t u reply other none (kept, base, tree, a, b, c, d) (kept2, base2, tree2, e, f, g, h) =
    let both : Some kept ≡ Some kept2 = sym a ∙ e in
    let same : kept ≡ kept2 = cc in
    let few = no_choice s.weights (entries_of kept.ty) base tree (λ some. none (some_and (type_of s ty) HasEntries kept a some)) b in
    let also = no_choice s.weights (entries_of kept2.ty) base2 tree2 (λ some. none (some_and (type_of s ty) HasEntries kept2 e some)) f in (
      c ∙ (told_nothing s base tree few ∙ (sym (told_nothing s base2 tree2 also) ∙ sym g)),
      d ∙ (built_nothing s name kept base tree few ∙ (ap (with_built s name (pos 0) None) same ∙ (sym (built_nothing s name kept2 base2 tree2 also) ∙ sym h))),
    )

-- the least number is one
least_one : (s : State) (command : Command) (a b : Refusal) → IsRefusedBy s command a → IsRefusedBy s command b → a ≡ b
least_one s command a b p q =
    one_refusal a b (elim (cases_lt (number_of a) (number_of b)) [
      | inl lt ↦ absurd (q.1 a lt p.0)
      | inr le ↦ elim (cases_lt (number_of b) (number_of a)) [ inl lt ↦ absurd (p.1 b lt q.0) | inr ge ↦ omega arith ]
    ])

obeys_one : (command : Command) (s t u : State) (reply other : Reply) → (¬ ChoosesBy s command) → Obeys command s reply t → Obeys command s other u → IsOne reply other t u
obeys_one command s t u reply other none (inl (a, is, said, stays)) (inl (b, also, answered, stood)) =
    (said ∙ (ap Refused (least_one s command a b is also) ∙ sym answered), stays ∙ sym stood)
obeys_one command s t u reply other none (inl (a, is, said, stays)) (inr q) = absurd (q.0 a is.0)
obeys_one command s t u reply other none (inr p) (inl (b, also, answered, stood)) = absurd (p.0 b also.0)
obeys_one command s t u reply other none (inr p) (inr q) = performs_one command s t u reply other none p.1 q.1

meets_one : (meaning : Meaning) (s t u : State) (reply other : Reply) → ((command : Command) → meaning ≡ Does command → ¬ ChoosesBy s command)
    → Meets meaning s reply t → Meets meaning s other u → IsOne reply other t u
meets_one Blank s t u reply other none p q = (p.0 ∙ sym q.0, p.1 ∙ sym q.1)
meets_one Fault s t u reply other none p q = (p.0 ∙ sym q.0, p.1 ∙ sym q.1)
meets_one (Does command) s t u reply other none p q = obeys_one command s t u reply other (none command refl) p q

pub step_is_function : StepIsFunction
step_is_function s t u line reply other none (m, means, meets) (n, also, met) =
    meets_one m s t u reply other (λ command is chooses. none (command, subst (IsLine line) is means, chooses)) meets
    (subst (λ n. Meets n s other u) (one_meaning line n m also means) met)

run_one : (s t u : State) (lines : List (List ℕ)) (replies others : List Reply) → AllByRecursion (λ line. (s : State) → ¬ Chooses s line) lines
    → Run s lines replies t → Run s lines others u → replies ≡ others
run_one s t u [] [] [] none p q = refl
run_one s t u [] [] (o ∷ others) none p q = absurd q
run_one s t u [] (r ∷ replies) others none p q = absurd p
run_one s t u (line ∷ lines) [] others none p q = absurd p
run_one s t u (line ∷ lines) (r ∷ replies) [] none p q = absurd q
run_one s t u (line ∷ lines) (r ∷ replies) (o ∷ others) none (mid, step, run) (mid2, step2, run2) =
    let one = step_is_function s mid mid2 line r o (none.0 s) step step2 in
    let rest : replies ≡ others = run_one mid t u lines replies others none.1 run (subst (λ x. Run x lines others u) (sym one.1) run2) in
    ap (λ x. x ∷ replies) one.0 ∙ ap (λ xs. o ∷ xs) rest

pub answers_are_one : AnswersAreOne
answers_are_one input text other accepted also none p q =
    let one = run_one first_state p.last q.last (script_lines input) p.replies q.replies none p.run q.run in
    (p.written ∙ (ap text_of_all one ∙ sym q.written), p.told ∙ (ap are_accepted one ∙ sym q.told))
