-- A round is accepted.
use Rattle.std.proofs.Common.{◌≡◌, ℕ, suc, ◌≤◌, true, cond, ◌&&◌, pos, List, [], ◌∷◌, ◌++◌, length, codes, decimal, Option, Some, is_some, refl, sym, ap, subst, ◌∙◌, append_assoc, arith}
use Rattle.std.specs.Map.{remove_entry}
use Rattle.std.specs.Option.{option_map}
use Rattle.std.specs.Result.{result_ok}
use Rattle.dt_kinds.specs.declared.kind.Kind.{Kind}
use Rattle.dt_kinds.specs.declared.kind.Kind.TheVariants.{Byte}
use Rattle.dt_kinds.specs.declared.kind.Rep.TheVariants.{Native}
use Rattle.dt_kinds.specs.Kind.{name_of}
use Rattle.dt_kinds.specs.Name.{kind_of}
use Rattle.dt_kinds.proofs.Table.{reads_name}
use Rattle.dt_form.specs.declared.form.FormOf.TheVariants as form
use Rattle.dt_form.specs.Arguments.{is_count}
use Rattle.dt_gen.specs.Script.{line, name, round_at, row_step, rows_len, packed_len, vector_line, rows_line, type_lines, buffer_lines, session_line, session_lines, turns_at, end_lines, round_text_at}
use Rattle.dt_map.specs.Elements.{are_inside}
use Rattle.dt_names.specs.declared.kept.Kept.{Kept}
use Rattle.dt_names.specs.Names.{under, basic, type_in, bytes_of}
use Rattle.dt_names.proofs.WordLemmas.{stands_known, stands_supported}
use Rattle.dt_script.specs.declared.command.Ctor.TheVariants.{Vector, Hvector}
use Rattle.dt_script.specs.declared.command.Fill.TheVariants.{Zero, Count}
use Rattle.dt_script.specs.Name.{begins_with_mpi}
use Rattle.dt_sessions.specs.declared.session.Opened.{Opened}
use Rattle.dt_sessions.specs.Open.{packed_in, total_in, packing, unpacking}
use Rattle.dt_machine.specs.Pieces.{IsSound}
use Rattle.dt_machine.specs.Refusal.{elements_of}
use Rattle.dt_machine.specs.State.{State, type_of, with_type, with_committed, with_buffer, with_session, without_session, with_cost, with_count}
use Rattle.dt_machine.specs.Step.{begun, receiving}
use Rattle.dt_machine.proofs.Rows.{contrary}
use Rattle.dt_accepted.proofs.Commands.{vector_means, rows_means, commit_means, counted_means, zeros_means, pack_means, unpack_means, close_means, normalise_means}
use Rattle.dt_accepted.proofs.Entries.{at, more, one_more, sum_more, new_stands, others_stand, set_stands, letters_differ}
use Rattle.dt_accepted.proofs.Known.{TypesBefore, BuffersBefore, types_after, buffers_after, first_free, second_free, count_length, zero_length, opened_two, sender, alone, without_sender, without_receiver}
use Rattle.dt_accepted.proofs.Performing.{CanDefine, CanOpen, derived, good_define, good_commit, good_buffer, good_pack, good_unpack, good_close, good_normalise, not_below}
use Rattle.dt_accepted.proofs.Rounds.{Round, IsRound, round_is, vector_form, rows_in, rows_form, vector_allowed, rows_allowed, rows_small, packed_small, rows_few, elements_inside, elements_apart, elements_packed}
use Rattle.dt_accepted.proofs.Rules.{Good}
use Rattle.dt_accepted.proofs.Turns.{Turning, good_turns}

-- between two rounds: two types and two buffers of each round before stand, and no session is open
pub record Before (r : ℕ) (s : State) : Type 0 where
  pub types : TypesBefore r s.types s.made
  pub buffers : BuffersBefore r s.buffers
  pub closed : s.sessions ≡ []

-- what the name of a kind stands for
reserved : (kind : Kind) → begins_with_mpi (name_of kind) ≡ true
reserved Byte = refl
reserved _ = refl

pub kind_stands : (types : List (List ℕ × Kept)) (kind : Kind) → type_in types (name_of kind) ≡ Some (basic kind)
kind_stands types kind =
    ap (λ b. cond b (option_map basic (result_ok (kind_of (name_of kind)))) (under (name_of kind) types)) (reserved kind)
    ∙ ap (λ k. option_map basic (result_ok k)) (reads_name kind)

-- counts aren't negative
pub counts : (n : ℕ) → is_count (pos n) ≡ true
counts n = grind arith

two_counts : (m n : ℕ) → (is_count (pos m) && is_count (pos n)) ≡ true
two_counts m n = ap (λ b. b && is_count (pos n)) (counts m) ∙ counts n

module _ (r : ℕ) (few : r ≤ 99) (d : Round) (is : IsRound d) where
  -- the states behind the lines of its types
  abbrev one : State → State
  one s = with_count (with_type s (name (codes "v") r) (derived (vector_form d)))

  abbrev other : State → State
  other s = with_count (with_type (one s) (name (codes "h") r) (derived (rows_form d)))

  abbrev typed : State → State
  typed s = with_count (with_committed (other s) (name (codes "h") r) (derived (rows_form d)))

  can_vector : (s : State) → TypesBefore r s.types s.made
      → CanDefine s (name (codes "v") r) (Vector (pos d.count) (pos d.block) (pos d.stride) (name_of d.kind)) (vector_form d)
  can_vector s before =
      let many = before.few in
      let ever = before.ever in
      record {
        known = stands_known s.types (name_of d.kind) (basic d.kind) (kind_stands s.types d.kind);
        free = ap is_some (first_free 118 104 r few (λ same. absurd (omega (arith, same))) s.types (basic Byte) (basic Byte) before.free);
        supported = stands_supported s.types (name_of d.kind) (basic d.kind) (kind_stands s.types d.kind);
        says = ap (λ (found : Option Kept). option_map (form.Vector (pos d.count) (pos d.block) (pos d.stride)) (option_map (λ (kept : Kept). kept.ty) found)) (kind_stands s.types d.kind);
        takes = two_counts d.count d.block;
        within = vector_allowed d is;
        few = omega (arith, many);
        made = omega (arith, ever);
        new = refl;
      }

  vector_stands : (s : State) → type_of (one s) (name (codes "v") r) ≡ Some (derived (vector_form d))
  vector_stands s = new_stands (name (codes "v") r) (derived (vector_form d)) s.types

  can_rows : (s : State) → TypesBefore r s.types s.made
      → CanDefine (one s) (name (codes "h") r) (Hvector (pos d.rows) (pos 1) (pos (row_step d)) (name (codes "v") r)) (rows_form d)
  can_rows s before =
      let many = before.few in
      let ever = before.ever in
      let made = types_many s before in
      record {
        known = stands_known (one s).types (name (codes "v") r) (derived (vector_form d)) (vector_stands s);
        free = ap is_some (second_free 118 104 r few (λ same. absurd (omega (arith, same))) s.types (derived (vector_form d)) (basic Byte) before.free);
        supported = stands_supported (one s).types (name (codes "v") r) (derived (vector_form d)) (vector_stands s);
        says = ap (λ (found : Option Kept). option_map (form.Hvector (pos d.rows) (pos 1) (pos (row_step d))) (option_map (λ (kept : Kept). kept.ty) found)) (vector_stands s);
        takes = two_counts d.rows 1;
        within = rows_allowed d is;
        few = omega (arith, made);
        made = omega (arith, ever);
        new = refl;
      }
    where
      types_many : (s : State) → TypesBefore r s.types s.made → length (one s).types ≤ 199
      types_many s before =
          let h = one_more (name (codes "v") r) (derived (vector_form d)) s.types in
          let many = before.few in
          omega (arith, h, many)

  rows_stand : (s : State) → type_of (other s) (name (codes "h") r) ≡ Some (derived (rows_form d))
  rows_stand s = new_stands (name (codes "h") r) (derived (rows_form d)) (one s).types

  good_types : (s : State) (rest : List ℕ) → IsSound s → TypesBefore r s.types s.made → (IsSound (typed s) → Good (typed s) rest)
      → Good s (type_lines r d ++ rest)
  unfolding type_lines vector_line rows_line
  good_types s rest sound before next =
      let a = vector_line r d in
      let b = rows_line r d in
      let c = line (codes "commit") (name (codes "h") r ∷ []) in
      subst (Good s) (sym (append_assoc (a ++ b) c rest ∙ append_assoc a b (c ++ rest)))
      (good_define s (codes "type") _ (name (codes "v") r) _ (vector_form d) (b ++ (c ++ rest)) (vector_means r few d is) sound (can_vector s before) (λ first.
      good_define (one s) (codes "type") _ (name (codes "h") r) _ (rows_form d) (c ++ rest) (rows_means r few d is) first (can_rows s before) (λ second.
      good_commit (other s) (codes "commit") _ (name (codes "h") r) (derived (rows_form d)) rest (commit_means r few) second (rows_stand s) refl next)))

  types_known : (s : State) → TypesBefore r s.types s.made → TypesBefore (suc r) (typed s).types (typed s).made
  types_known s before =
      types_after r s.types s.made (derived (vector_form d)) (derived (rows_form d)) (record { ty = rows_in d; committed = true }) few before

  rows_known : (s : State) → under (name (codes "h") r) (typed s).types ≡ Some (record { ty = rows_in d; committed = true })
  rows_known s =
      set_stands (at (name (codes "h") r)) (other s).types (derived (rows_form d)) (record { ty = rows_in d; committed = true })
      (new_stands (name (codes "h") r) (derived (rows_form d)) (one s).types)

  -- the states behind the lines of its buffers
  abbrev bytes_counted : List ℕ
  bytes_counted = bytes_of (Count (pos (rows_len d)))

  abbrev bytes_empty : List ℕ
  bytes_empty = bytes_of (Zero (pos (rows_len d)))

  abbrev counted : State → State
  counted s = with_count (with_buffer s (name (codes "b") r) bytes_counted)

  abbrev filled : State → State
  filled s = with_count (with_buffer (counted s) (name (codes "z") r) bytes_empty)

  counted_differs : ¬ (◌≡◌ {A = ℕ} 98 122)
  counted_differs same = omega (arith, same)

  good_buffers : (s : State) (rest : List ℕ) → IsSound s → BuffersBefore r s.buffers → (IsSound (filled s) → Good (filled s) rest)
      → Good s (buffer_lines r d ++ rest)
  unfolding buffer_lines
  good_buffers s rest sound before next =
      let a = line (codes "buffer") (name (codes "b") r ∷ codes "count" ∷ decimal (rows_len d) ∷ []) in
      let b = line (codes "buffer") (name (codes "z") r ∷ codes "zero" ∷ decimal (rows_len d) ∷ []) in
      let small = rows_small d is in
      let many = before.few in
      let held = before.held in
      let long = count_length (rows_len d) in
      let empty = zero_length (rows_len d) in
      let one = one_more (name (codes "b") r) bytes_counted s.buffers in
      let sum = sum_more (name (codes "b") r) bytes_counted length s.buffers in
      subst (Good s) (sym (append_assoc a b rest))
      (good_buffer s (codes "buffer") _ (name (codes "b") r) (Count (pos (rows_len d))) (b ++ rest) (counted_means r few (rows_len d) (omega (arith, small))) sound
      (first_free 98 122 r few counted_differs s.buffers bytes_counted bytes_empty before.free) (contrary _ (not_below (rows_len d))) (omega (arith, many))
      (omega (arith, long, small)) (omega (arith, long, small, held)) (λ first.
      good_buffer (counted s) (codes "buffer") _ (name (codes "z") r) (Zero (pos (rows_len d))) rest (zeros_means r few (rows_len d) (omega (arith, small))) first
      (second_free 98 122 r few counted_differs s.buffers bytes_counted bytes_empty before.free) (contrary _ (not_below (rows_len d))) (omega (arith, many, one))
      (omega (arith, empty, small)) (omega (arith, long, empty, small, held, sum)) next))

  -- the states behind the lines of its sessions
  abbrev rows_kept : Kept
  rows_kept = record { ty = rows_in d; committed = true }

  abbrev sending : Opened
  sending = packing (name (codes "b") r) (begun rows_kept Native (pos 1) (pos 0) (length bytes_counted))

  abbrev getting : Opened
  getting = unpacking (name (codes "z") r) (receiving rows_kept Native (pos 1) (pos 0) (length bytes_empty))

  abbrev packed : State → State
  packed s = with_count (with_session s (name (codes "p") r) sending)

  abbrev opened : State → State
  opened s = with_count (with_session (packed s) (name (codes "u") r) getting)

  counted_stands : (s : State) → under (name (codes "b") r) (filled s).buffers ≡ Some bytes_counted
  counted_stands s =
      others_stand (name (codes "z") r) bytes_empty (name (codes "b") r) (letters_differ 98 122 r r (λ same. absurd (omega (arith, same)))) (counted s).buffers
      ∙ new_stands (name (codes "b") r) bytes_counted s.buffers

  empty_stands : (s : State) → under (name (codes "z") r) (filled s).buffers ≡ Some bytes_empty
  empty_stands s = new_stands (name (codes "z") r) bytes_empty (counted s).buffers

  can_pack : (s : State) → under (name (codes "h") r) s.types ≡ Some rows_kept → s.sessions ≡ []
      → CanOpen (filled s) (name (codes "p") r) (name (codes "h") r) (name (codes "b") r) rows_kept bytes_counted
  can_pack s stands closed =
      let none : packed_in s.sessions ≡ 0 = ap packed_in closed in
      let no_session : length s.sessions ≡ 0 = ap length closed in
      let all = elements_packed d is in
      let small = packed_small d is in
      record {
        stands = stands;
        over = counted_stands s;
        free = ap (under (name (codes "p") r)) closed;
        committed = refl;
        few = omega (arith, no_session);
        inside = ap (λ n. are_inside n (elements_of rows_kept (pos 1) (pos 0))) (count_length (rows_len d)) ∙ elements_inside d is;
        small = omega (arith, none, all, small);
      }

  can_unpack : (s : State) → under (name (codes "h") r) s.types ≡ Some rows_kept → s.sessions ≡ []
      → CanOpen (packed (filled s)) (name (codes "u") r) (name (codes "h") r) (name (codes "z") r) rows_kept bytes_empty
  can_unpack s stands closed =
      let p = name (codes "p") r in
      let none : packed_in s.sessions ≡ 0 = ap packed_in closed in
      let no_session : length s.sessions ≡ 0 = ap length closed in
      let first = one_more p sending s.sessions in
      let sum = sum_more p sending (λ (o : Opened). total_in o.session) s.sessions in
      let all = elements_packed d is in
      let small = packed_small d is in
      record {
        stands = stands;
        over = empty_stands s;
        free =
            others_stand p sending (name (codes "u") r) (letters_differ 117 112 r r (λ same. absurd (omega (arith, same)))) s.sessions
            ∙ ap (under (name (codes "u") r)) closed;
        committed = refl;
        few = omega (arith, no_session, first);
        inside = ap (λ n. are_inside n (elements_of rows_kept (pos 1) (pos 0))) (zero_length (rows_len d)) ∙ elements_inside d is;
        small = omega (arith, none, all, small, sum);
      }

  good_sessions : (s : State) (rest : List ℕ) → IsSound (filled s) → under (name (codes "h") r) s.types ≡ Some rows_kept → s.sessions ≡ []
      → (IsSound (opened (filled s)) → Good (opened (filled s)) rest) → Good (filled s) (session_lines r ++ rest)
  unfolding session_lines session_line
  good_sessions s rest sound stands closed next =
      let a = session_line (codes "pack") (codes "p") (codes "b") r in
      let b = session_line (codes "unpack") (codes "u") (codes "z") r in
      subst (Good (filled s)) (sym (append_assoc a b rest))
      (good_pack (filled s) (codes "pack") _ (name (codes "p") r) (name (codes "h") r) (name (codes "b") r) rows_kept bytes_counted (b ++ rest) (pack_means r few) sound
      (can_pack s stands closed) (λ first.
      good_unpack (packed (filled s)) (codes "unpack") _ (name (codes "u") r) (name (codes "h") r) (name (codes "z") r) rows_kept bytes_empty rest (unpack_means r few) first
      (can_unpack s stands closed) (elements_apart d is) next))

  -- what is known then
  turning : (s : State) → TypesBefore (suc r) s.types s.made → under (name (codes "h") r) s.types ≡ Some rows_kept → BuffersBefore r s.buffers → s.sessions ≡ []
      → Turning r (packed_len d) 0 (rows_in d) (opened (filled s))
  turning s types stands buffers closed =
      let small = rows_small d is in
      let long = count_length (rows_len d) in
      let empty = zero_length (rows_len d) in
      record {
        types = types;
        stands = stands;
        buffers = buffers_after r s.buffers bytes_counted bytes_empty few (omega (arith, long, small)) (omega (arith, empty, small)) buffers;
        sender = begun rows_kept Native (pos 1) (pos 0) (length bytes_counted);
        receiver = receiving rows_kept Native (pos 1) (pos 0) (length bytes_empty);
        sessions =
            ap (λ (es : List (List ℕ × Opened)). more (more es (name (codes "p") r) sending) (name (codes "u") r) getting) closed
            ∙ opened_two r sending getting;
        so_far = refl;
        all = elements_packed d is;
      }

  -- the lines of its end
  good_ends : (s : State) (now : ℕ) (rest : List ℕ) → IsSound s → Turning r (packed_len d) now (rows_in d) s
      → ((t : State) → IsSound t → Before (suc r) t → Good t rest) → Good s (end_lines r ++ rest)
  unfolding end_lines
  good_ends s now rest sound turning next =
      let p = name (codes "p") r in
      let u = name (codes "u") r in
      let h = name (codes "h") r in
      let a = line (codes "close") (p ∷ []) in
      let b = line (codes "close") (u ∷ []) in
      let c = line (codes "normalise") (h ∷ []) in
      let o = packing (name (codes "b") r) turning.sender in
      let w = unpacking (name (codes "z") r) turning.receiver in
      let mid = with_count (without_session s p) in
      let end = with_count (without_session mid u) in
      let left = ap (λ (es : List (List ℕ × Opened)). remove_entry (at p) es) turning.sessions ∙ without_sender r o w in
      subst (Good s) (sym (append_assoc (a ++ b) c rest ∙ append_assoc a b (c ++ rest)))
      (good_close s (codes "close") _ p o (b ++ (c ++ rest)) (close_means r few 112 refl) sound (ap (under p) turning.sessions ∙ sender r o w) (λ first.
      good_close mid (codes "close") _ u w (c ++ rest) (close_means r few 117 refl) first (ap (under u) left ∙ alone r o w) (λ second.
      good_normalise end (codes "normalise") _ h rows_kept rest (normalise_means r few) second turning.stands (let n = rows_few d is in omega (arith, n)) (λ cost third.
      next (with_count (with_cost end cost)) third (record {
        types = turning.types;
        buffers = turning.buffers;
        closed = ap (λ (es : List (List ℕ × Opened)). remove_entry (at u) es) left ∙ without_receiver r o w;
      })))))

  -- all of it
  good_lines : (s : State) (word : ℕ) (rest : List ℕ) → IsSound s → Before r s → ((t : State) → IsSound t → Before (suc r) t → Good t rest)
      → Good s ((type_lines r d ++ buffer_lines r d ++ session_lines r ++ (turns_at (packed_len d) r 0 (packed_len d) word).0 ++ end_lines r) ++ rest)
  good_lines s word rest sound before next =
      let a = type_lines r d in
      let b = buffer_lines r d in
      let c = session_lines r in
      let e = (turns_at (packed_len d) r 0 (packed_len d) word).0 in
      let f = end_lines r in
      let parts =
      append_assoc (((a ++ b) ++ c) ++ e) f rest
      ∙ (append_assoc ((a ++ b) ++ c) e (f ++ rest) ∙ (append_assoc (a ++ b) c (e ++ (f ++ rest)) ∙ append_assoc a b (c ++ (e ++ (f ++ rest))))) in
      subst (Good s) (sym parts)
      (good_types s (b ++ (c ++ (e ++ (f ++ rest)))) sound before.types (λ first.
      good_buffers (typed s) (c ++ (e ++ (f ++ rest))) first before.buffers (λ second.
      good_sessions (typed s) (e ++ (f ++ rest)) second (rows_known s) before.closed (λ third.
      good_turns r (packed_len d) few (rows_in d) (packed_len d) 0 (packed_len d) word (opened (filled (typed s))) (f ++ rest) (omega arith) third
      (turning (typed s) (types_known s before.types) (rows_known s) before.buffers before.closed) (λ t now fourth turned.
      good_ends t now rest fourth turned next)))))

pub good_round : (r : ℕ) → r ≤ 99 → (s : State) (word : ℕ) (rest : List ℕ) → IsSound s → Before r s
    → ((t : State) → IsSound t → Before (suc r) t → Good t rest) → Good s ((round_text_at r word).0 ++ rest)
unfolding round_text_at
good_round r few s word rest sound before next =
    good_lines r few (round_at word).0 (round_is word) s (round_at word).1 rest sound before next
