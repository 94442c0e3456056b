-- Pieces, one after another, come to what they do joined.
use Rattle.std.proofs.Common.{◌≡◌, ℕ, ◌+◌, ◌-◌, ◌^◌, ◌≤◌, ◌<◌, min, pos, false, List, [], ◌∷◌, ◌++◌, Option, Some, None, inl, inr, refl, sym, ap, subst, ◌∙◌, arith}
use Rattle.std.specs.List.{sum, AllByRecursion}
use Rattle.std.specs.BTreeMap.{is_at}
use Rattle.std.specs.Cmp.Lexicographic.{slice_cmp}
use Rattle.std.specs.Map.{set_value}
use Rattle.std.specs.Option.{is_none}
use Rattle.std.specs.Ordering.{nat_cmp}
use Rattle.std.specs.Prelude.{int_lt}
use Rattle.std.proofs.lemmas.Int.{ints}
use Rattle.std.proofs.lemmas.List.Sums.{sum_by-cons}
use Rattle.std.proofs.lemmas.Map.Steps.{set_value_same}
use Rattle.dt_pack.specs.Session as pack
use Rattle.dt_pack.proofs.Taking.{takes_are_joined as pieces_taken}
use Rattle.dt_reply.specs.declared.reply.Reply.{Reply}
use Rattle.dt_reply.specs.declared.reply.Reply.TheVariants.{Packed}
use Rattle.dt_script.specs.declared.command.Command.{Command}
use Rattle.dt_script.specs.declared.command.Command.TheVariants.{Take}
use Rattle.dt_sessions.specs.declared.session.Opened.{Opened}
use Rattle.dt_sessions.specs.declared.session.Session.{Session}
use Rattle.dt_sessions.specs.declared.session.Session.TheVariants.{Pack, Unpack}
use Rattle.dt_sessions.specs.Open.{passed_in, next_in, packing}
use Rattle.dt_sessions.proofs.OpenLemmas.{found_set, set_twice, one_found}
use Rattle.dt_machine.specs.Pieces.{ObeysAll, takes, bytes_told, all_told, but_commands, TakesAreJoined}
use Rattle.dt_machine.specs.Refusal.{IsAllowed, IsReceiving}
use Rattle.dt_machine.specs.State.{State, session_of, buffer_of, with_moved, with_taken, with_count}
use Rattle.dt_machine.specs.Step.{taken_by, Obeys}
use Rattle.dt_machine.proofs.Moving.{take_allowed}
use Rattle.dt_machine.proofs.Rows.{allowed_is_clear, some_and}

-- a count that stands still at its type's end
pub cap : (total m n most : ℕ) → min (min (total + m) most + n) most ≡ min (total + (m + n)) most
cap total m n most = omega arith

pub kept_count : (total most : ℕ) → total ≤ most → min (total + 0) most ≡ total
kept_count total most within = omega (arith, within)

-- commands that are refused change nothing, and tell no bytes
pub all_refused : (commands : List Command) (replies : List Reply) (s t : State) → AllByRecursion (λ command. ¬ IsAllowed s command) commands
    → ObeysAll s commands replies t → (t ≡ s) × (all_told replies ≡ [])
all_refused [] [] s t none same = (same, refl)
all_refused [] (reply ∷ replies) s t none h = absurd h
all_refused (command ∷ commands) [] s t none h = absurd h
all_refused (command ∷ commands) (reply ∷ replies) s t none (mid, step, rest) =
    by step (λ stays. all_refused commands replies s t none.1 (subst (λ x. ObeysAll x commands replies t) stays rest))
  where
    by : Obeys command s reply mid → (mid ≡ s → (t ≡ s) × (all_told replies ≡ [])) → (t ≡ s) × (all_told (reply ∷ replies) ≡ [])
    by (inl (refusal, is, said, stays)) behind = let more = behind stays in (more.0, ap (λ r. bytes_told r ++ all_told replies) said ∙ more.1)
    by (inr (may, does)) behind = absurd (none.0 may)

-- the state after so many bytes were taken from a session
abbrev after_taking : State → List ℕ → List ℕ → pack.Session → ℕ → State
after_taking s session buffer p n = with_taken (with_moved s session (packing buffer p) (p.position + n)) n

-- a state with other sessions and another total of bytes taken, but for the total of commands
abbrev remade : State → List (List ℕ × Opened) → ℕ → State
remade s sessions taken = record s { sessions = sessions; totals = record s.totals { commands = 0; taken = taken } }

abbrev told_of : Option (List ℕ) → pack.Session → ℕ → List ℕ
told_of None p n = []
told_of (Some bytes) p n = pack.next_bytes p bytes n

module _ (session buffer : List ℕ) where
  abbrev put : List (List ℕ × Opened) → pack.Session → List (List ℕ × Opened)
  put sessions p = set_value (is_at (slice_cmp nat_cmp session)) sessions (packing buffer p)

  never_negative : (n : ℕ) → int_lt (pos n) (pos 0) ≡ false
  never_negative n = grind (arith, ints)

  nothing_taken : (s : State) (p : pack.Session) → session_of s session ≡ Some (packing buffer p) → s.totals.taken < 2 ^ 64
      → but_commands (after_taking s session buffer p 0) ≡ but_commands s
  nothing_taken s p at few =
      let here : p.position + 0 ≡ p.position = omega arith in
      ap (λ n. remade s (put s.sessions (pack.at_byte p n)) (min (s.totals.taken + 0) (2 ^ 64 - 1))) here
      ∙ ap (λ sessions. remade s sessions (min (s.totals.taken + 0) (2 ^ 64 - 1))) (set_value_same (is_at (slice_cmp nat_cmp session)) s.sessions (packing buffer p) at)
      ∙ ap (remade s s.sessions) (kept_count s.totals.taken (2 ^ 64 - 1) (omega (arith, few)))

  nothing_told : (o : Option (List ℕ)) (p : pack.Session) → [] ≡ told_of o p 0
  nothing_told None p = refl
  nothing_told (Some bytes) p = refl

  -- one take
  take_is : (s mid : State) (p : pack.Session) (n : ℕ) (reply : Reply) → session_of s session ≡ Some (packing buffer p) → Obeys (Take session (pos n)) s reply mid
      → (bytes : List ℕ) × (buffer_of s buffer ≡ Some bytes) × (reply ≡ Packed (pack.next_bytes p bytes (min n (pack.rest_of p))))
      × (mid ≡ with_count (after_taking s session buffer p (min n (pack.rest_of p))))
  take_is s mid p n reply at (inl (refusal, is, said, stays)) =
      absurd (take_allowed s session (pos n) (packing buffer p) at refl (never_negative n) refusal is.0)
  take_is s mid p n reply at (inr (may, (o, bytes, found, stands, said, new))) =
      let one : o ≡ packing buffer p = one_found (session_of s session) o (packing buffer p) found at in (
        bytes,
        ap (λ (x : Opened). buffer_of s x.buffer) (sym one) ∙ stands,
        said ∙ ap (λ (x : Opened). Packed (next_in x.session bytes (taken_by x (pos n)))) one,
        new ∙ ap (λ (x : Opened). with_count (with_taken (with_moved s session x (passed_in x.session + taken_by x (pos n))) (taken_by x (pos n)))) one,
      )

  record AreTaken (s t : State) (p : pack.Session) (n : ℕ) (replies : List Reply) : Type 0 where
    state : but_commands t ≡ but_commands (after_taking s session buffer p n)
    bytes : all_told replies ≡ told_of (buffer_of s buffer) p n

  all_taken : (sizes : List ℕ) (replies : List Reply) (s t : State) (p : pack.Session) → session_of s session ≡ Some (packing buffer p) → s.totals.taken < 2 ^ 64
      → ObeysAll s (takes session sizes) replies t → AreTaken s t p (min (sum sizes) (pack.rest_of p)) replies
  all_taken [] [] s t p at few same =
      let none : 0 ≡ min (sum []) (pack.rest_of p) = omega arith in
      subst (λ n. AreTaken s t p n []) none (record { state = ap but_commands same ∙ sym (nothing_taken s p at few); bytes = nothing_told (buffer_of s buffer) p })
  all_taken [] (reply ∷ replies) s t p at few h = absurd h
  all_taken (n ∷ sizes) [] s t p at few h = absurd h
  all_taken (n ∷ sizes) (reply ∷ replies) s t p at few (mid, step, rest) =
      let here = take_is s mid p n reply at step in
      let bytes = here.0 in
      let stands = here.1 in
      let said = here.2 in
      let new = here.3 in
      let k : ℕ = min n (pack.rest_of p) in
      let q = pack.after p k in
      let l : ℕ = min (sum sizes) (pack.rest_of q) in
      let at_q : session_of mid session ≡ Some (packing buffer q) =
      ap (λ (x : State). session_of x session) new ∙ found_set (is_at (slice_cmp nat_cmp session)) s.sessions (packing buffer p) (packing buffer q) at in
      let count = ap (λ (x : State). x.totals.taken) new in
      let more = all_taken sizes replies mid t q at_q (omega (arith, count)) rest in
      let left : pack.rest_of q ≡ pack.rest_of p - k = omega arith in
      let all : k + l ≡ min (sum (n ∷ sizes)) (pack.rest_of p) = omega (arith, left, sum_by-cons (λ (m : ℕ). m) n sizes) in
      let place : (p.position + k) + l ≡ p.position + (k + l) = omega arith in
      subst (λ m. AreTaken s t p m (reply ∷ replies)) all (record {
        state = more.state ∙ ap (λ (x : State). but_commands (after_taking x session buffer q l)) new
            ∙ ap (λ sessions. remade s sessions (min (min (s.totals.taken + k) (2 ^ 64 - 1) + l) (2 ^ 64 - 1)))
            (set_twice (is_at (slice_cmp nat_cmp session)) s.sessions (packing buffer q) (packing buffer (pack.after q l)) ∙ ap (λ m. put s.sessions (pack.at_byte p m)) place)
            ∙ ap (remade s (put s.sessions (pack.after p (k + l)))) (cap s.totals.taken k l (2 ^ 64 - 1));
        bytes = ap (λ r. bytes_told r ++ all_told replies) said
            ∙ ap (λ told. pack.next_bytes p bytes k ++ told)
            (more.bytes ∙ ap (λ (x : State). told_of (buffer_of x buffer) q l) new ∙ ap (λ o. told_of o q l) stands)
            ∙ (pieces_taken p bytes k l).0 ∙ sym (ap (λ o. told_of o p (k + l)) stands);
      })

takes_refused : (s : State) (session sizes : List ℕ) → ((n : ℕ) → ¬ IsAllowed s (Take session (pos n)))
    → AllByRecursion (λ command. ¬ IsAllowed s command) (takes session sizes)
takes_refused s session [] none = tt
takes_refused s session (n ∷ sizes) none = (none n, takes_refused s session sizes none)

pub takes_are_joined : TakesAreJoined
takes_are_joined s t u session sizes others replies also counted same one other = by (session_of s session) refl
  where
    Same : Type 0
    Same = (all_told replies ≡ all_told also) × (but_commands t ≡ but_commands u)

    stuck : ((n : ℕ) → ¬ IsAllowed s (Take session (pos n))) → Same
    stuck none =
        let a = all_refused (takes session sizes) replies s t (takes_refused s session sizes none) one in
        let b = all_refused (takes session others) also s u (takes_refused s session others none) other in
        (a.1 ∙ sym b.1, ap but_commands (a.0 ∙ sym b.0))

    of : (buffer : List ℕ) (x : Session) → session_of s session ≡ Some (record { buffer = buffer; session = x }) → Same
    of buffer (Pack p) at =
        let a = all_taken session buffer sizes replies s t p at counted.taken one in
        let b = all_taken session buffer others also s u p at counted.taken other in (
          a.bytes ∙ ap (λ n. told_of (buffer_of s buffer) p (min n (pack.rest_of p))) same ∙ sym b.bytes,
          a.state ∙ ap (λ n. but_commands (after_taking s session buffer p (min n (pack.rest_of p)))) same ∙ sym b.state,
        )
    of buffer (Unpack v) at =
        stuck (λ n may. ((allowed_is_clear s (Take session (pos n))).0 may).1.1.0 (some_and (session_of s session) IsReceiving (record { buffer = buffer; session = Unpack v }) at refl))

    by : (o : Option Opened) → session_of s session ≡ o → Same
    by None none = stuck (λ n may. ((allowed_is_clear s (Take session (pos n))).0 may).0 (ap is_none none))
    by (Some o) at = of o.buffer o.session at
