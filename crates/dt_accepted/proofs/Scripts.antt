-- A whole script is accepted.
use Rattle.std.proofs.Common.{◌≡◌, ℕ, zero, suc, ◌+◌, ◌≤◌, pos, List, [], ◌∷◌, ◌++◌, map, codes, Option, Some, is_some, refl, sym, ap, subst, ◌∙◌, append_assoc, append-nil, arith}
use Rattle.std.specs.Option.{option_map}
use Rattle.dt_kinds.specs.declared.kind.Kind.TheVariants.{Short}
use Rattle.dt_form.specs.declared.form.FormOf.TheVariants as form
use Rattle.dt_gen.specs.Script.{line, round_text_at, rounds_at, big_at, script_at, script_of}
use Rattle.dt_names.specs.declared.kept.Kept.{Kept}
use Rattle.dt_names.specs.Names.{basic}
use Rattle.dt_names.proofs.WordLemmas.{stands_known, stands_supported}
use Rattle.dt_script.specs.declared.command.Ctor.TheVariants.{IndexedBlock}
use Rattle.dt_machine.specs.Pieces.{IsSound}
use Rattle.dt_machine.specs.State.{State, first_state, type_of, with_type, with_count}
use Rattle.dt_machine.proofs.Sound.{sound_is_kept}
use Rattle.dt_accepted.specs.Accepted.{EveryCommandIsAllowed, EveryCommandIsAccepted, EveryAnswerIsAccepted}
use Rattle.dt_accepted.proofs.Drawn.{drawn, large_means, large_normalise_means, large_form, large_many, large_allowed, large_text}
use Rattle.dt_accepted.proofs.Entries.{new_stands}
use Rattle.dt_accepted.proofs.OneRound.{Before, kind_stands, counts, good_round}
use Rattle.dt_accepted.proofs.Performing.{CanDefine, derived, good_define, good_normalise}
use Rattle.dt_accepted.proofs.Rules.{Good, good_end}

-- rounds one after another
good_rounds : (n r word : ℕ) (s : State) (rest : List ℕ) → r + n ≤ 100 → IsSound s → Before r s
    → ((t : State) → IsSound t → Before (r + n) t → Good t rest) → Good s ((rounds_at n r word).0 ++ rest)
unfolding rounds_at
good_rounds zero r word s rest most sound before next =
    let same : r ≡ r + 0 = omega arith in
    next s sound (subst (λ m. Before m s) same before)
good_rounds (suc n) r word s rest most sound before next =
    let text = (round_text_at r word).0 in
    let later = (rounds_at n (suc r) (round_text_at r word).1).0 in
    let same : suc r + n ≡ r + suc n = omega arith in
    subst (Good s) (sym (append_assoc text later rest))
    (good_round r (omega arith) s word (later ++ rest) sound before (λ t after known.
    good_rounds n (suc r) (round_text_at r word).1 t rest (omega arith) after known (λ u end all. next u end (subst (λ m. Before m u) same all))))

-- the large type
module _ (s : State) (before : Before 100 s) (word : ℕ) where
  short_stands : type_of s (codes "MPI_SHORT") ≡ Some (basic Short)
  short_stands = kind_stands s.types Short

  can_large : CanDefine s (codes "big") (IndexedBlock (codes "MPI_SHORT") (pos 1) (map pos (drawn 1024 0 word))) (large_form (drawn 1024 0 word))
  can_large =
      let many = before.types.few in
      let ever = before.types.ever in
      record {
        known = stands_known s.types (codes "MPI_SHORT") (basic Short) short_stands;
        free = ap is_some before.types.large;
        supported = stands_supported s.types (codes "MPI_SHORT") (basic Short) short_stands;
        says = ap (λ (found : Option Kept). option_map (form.IndexedBlock (pos 1) (map pos (drawn 1024 0 word))) (option_map (λ (kept : Kept). kept.ty) found)) short_stands;
        takes = counts 1;
        within = large_allowed 1023 word (omega arith);
        few = omega (arith, many);
        made = omega (arith, ever);
        new = refl;
      }

good_large : (s : State) (word : ℕ) → IsSound s → Before 100 s → Good s (big_at word).0
good_large s word sound before =
    let last = line (codes "normalise") (codes "big" ∷ []) in
    let kept = derived (large_form (drawn 1024 0 word)) in
    let many = large_many 1024 0 word in
    subst (Good s) (sym (large_text word))
    (good_define s (codes "type") _ (codes "big") _ (large_form (drawn 1024 0 word)) last (large_means 1024 word (omega arith)) sound (can_large s before word) (λ first.
    subst (Good (with_count (with_type s (codes "big") kept))) (append-nil last)
    (good_normalise (with_count (with_type s (codes "big") kept)) (codes "normalise") _ (codes "big") kept [] large_normalise_means first
    (new_stands (codes "big") kept s.types) (omega (arith, many)) (λ cost second. good_end _))))

-- at first nothing stands
nothing_before : Before 0 first_state
nothing_before = record {
  types = record { few = omega arith; ever = omega arith; free = λ i above most. (refl, refl); large = refl };
  buffers = record { few = omega arith; held = omega arith; free = λ i above most. (refl, refl) };
  closed = refl;
}

good_script : (n : ℕ) → Good first_state (script_of n)
unfolding script_at
good_script n =
    good_rounds 100 0 n first_state (big_at (rounds_at 100 0 n).1).0 (omega arith) sound_is_kept.0 nothing_before (λ t sound before.
    good_large t (rounds_at 100 0 n).1 sound before)

pub every_command_is_allowed : EveryCommandIsAllowed
every_command_is_allowed n front rest l replies s same run = (good_script n).1 front rest l replies s same run

pub every_command_is_accepted : EveryCommandIsAccepted
every_command_is_accepted n replies last run = (good_script n).0 last replies run

pub every_answer_is_accepted : EveryAnswerIsAccepted
every_answer_is_accepted n text accepted a = a.told ∙ every_command_is_accepted n a.replies a.last a.run
