-- Pieces that are given one after another come to what they do joined.
use Rattle.std.proofs.Common.{◌≡◌, ℕ, ◌+◌, ◌-◌, ◌^◌, ◌≤◌, min, true, false, List, [], ◌∷◌, ◌++◌, length, Option, Some, None, inl, inr, refl, sym, ap, ◌∙◌, arith, length-append}
use Rattle.std.specs.List.{AllByRecursion}
use Rattle.std.specs.BTreeMap.{is_at}
use Rattle.std.specs.Cmp.Lexicographic.{slice_cmp}
use Rattle.std.specs.Map.{set_value}
use Rattle.std.specs.Option.{is_none, IsSomeAnd}
use Rattle.std.specs.Ordering.{nat_cmp}
use Rattle.std.proofs.lemmas.Bool.{cases_lt}
use Rattle.std.proofs.lemmas.Map.Steps.{set_value_same}
use Rattle.dt_map.specs.declared.entry.Entry.{Entry}
use Rattle.dt_reply.specs.declared.reply.Reply.{Reply}
use Rattle.dt_script.specs.declared.command.Command.TheVariants.{Give}
use Rattle.dt_sessions.specs.declared.session.Opened.{Opened}
use Rattle.dt_sessions.specs.declared.session.Session.{Session}
use Rattle.dt_sessions.specs.declared.session.Session.TheVariants.{Pack, Unpack}
use Rattle.dt_sessions.specs.Open.{unpacking}
use Rattle.dt_sessions.proofs.OpenLemmas.{found_set, set_twice, each_found, one_found, over_found}
use Rattle.dt_unpack.specs.Session as unpack
use Rattle.dt_unpack.proofs.Pieces.{after_both, after_nothing, between_any, buffer_both, buffer_nothing, completed_both, completed_nothing, given_within}
use Rattle.dt_machine.specs.Pieces.{AreCounted, IsSoundIn, ObeysAll, gives, joined, but_commands, GivesAreJoined}
use Rattle.dt_machine.specs.Refusal.{IsAllowed, IsSending, IsTruncated}
use Rattle.dt_machine.specs.State.{State, session_of, buffer_of, with_count}
use Rattle.dt_machine.specs.Step.{with_piece, Obeys}
use Rattle.dt_machine.proofs.Joining.{all_refused, cap, kept_count}
use Rattle.dt_machine.proofs.Rows.{allowed, allowed_is_clear, and_some, contrary, some_and}

-- a state with other buffers, sessions and totals of what was given, but for the total of commands
abbrev remade : State → List (List ℕ × List ℕ) → List (List ℕ × Opened) → ℕ → ℕ → State
remade s buffers sessions given elements =
    record s { buffers = buffers; sessions = sessions; totals = record s.totals { commands = 0; given = given; elements = elements } }

module _ (session buffer : List ℕ) where
  abbrev put : List (List ℕ × Opened) → unpack.Session → List (List ℕ × Opened)
  put sessions u = set_value (is_at (slice_cmp nat_cmp session)) sessions (unpacking buffer u)

  abbrev put_bytes : List (List ℕ × List ℕ) → List ℕ → List (List ℕ × List ℕ)
  put_bytes buffers bytes = set_value (is_at (slice_cmp nat_cmp buffer)) buffers bytes

  abbrev after_giving : State → unpack.Session → List ℕ → List ℕ → State
  after_giving s u bytes piece = with_piece s session (unpacking buffer u) bytes piece

  nothing_given : (s : State) (u : unpack.Session) (bytes : List ℕ) → session_of s session ≡ Some (unpacking buffer u) → buffer_of s buffer ≡ Some bytes
      → AreCounted s.totals → but_commands (after_giving s u bytes []) ≡ but_commands s
  nothing_given s u bytes at stands counted =
      let few = counted.given in
      let low = counted.elements in
      let most : ℕ = 2 ^ 64 - 1 in
      ap (λ b. remade s (put_bytes s.buffers b) (put s.sessions (unpack.after u [])) (min (s.totals.given + 0) most) (min (s.totals.elements + length (unpack.completed u [])) most))
      (buffer_nothing u bytes)
      ∙ ap (λ bs. remade s bs (put s.sessions (unpack.after u [])) (min (s.totals.given + 0) most) (min (s.totals.elements + length (unpack.completed u [])) most))
      (set_value_same (is_at (slice_cmp nat_cmp buffer)) s.buffers bytes stands)
      ∙ ap (λ v. remade s s.buffers (put s.sessions v) (min (s.totals.given + 0) most) (min (s.totals.elements + length (unpack.completed u [])) most)) (after_nothing u)
      ∙ ap (λ ss. remade s s.buffers ss (min (s.totals.given + 0) most) (min (s.totals.elements + length (unpack.completed u [])) most))
      (set_value_same (is_at (slice_cmp nat_cmp session)) s.sessions (unpacking buffer u) at)
      ∙ ap (λ es. remade s s.buffers s.sessions (min (s.totals.given + 0) most) (min (s.totals.elements + length es) most)) (completed_nothing u)
      ∙ ap (λ n. remade s s.buffers s.sessions n (min (s.totals.elements + 0) most)) (kept_count s.totals.given most (omega (arith, few)))
      ∙ ap (remade s s.buffers s.sessions s.totals.given) (kept_count s.totals.elements most (omega (arith, low)))

  -- two gives and one of both pieces
  both_given : (s : State) (u : unpack.Session) (before rest : List Entry) → unpack.IsBetween u before rest → (bytes p q : List ℕ)
      → but_commands (after_giving (with_count (after_giving s u bytes p)) (unpack.after u p) (unpack.buffer_after u bytes p) q)
      ≡ but_commands (after_giving s u bytes (p ++ q))
  both_given s u before rest b bytes p q =
      let most : ℕ = 2 ^ 64 - 1 in
      let mid = unpack.after u p in
      let end = unpack.buffer_after mid (unpack.buffer_after u bytes p) q in
      let m : ℕ = length (unpack.completed u p) in
      let n : ℕ = length (unpack.completed mid q) in
      let given = min (min (s.totals.given + length p) most + length q) most in
      let elements = min (min (s.totals.elements + m) most + n) most in
      let long : length p + length q ≡ length (p ++ q) = sym (length-append p q) in
      let many : m + n ≡ length (unpack.completed u (p ++ q)) =
      sym (ap length (completed_both u before rest b p q) ∙ length-append (unpack.completed u p) (unpack.completed mid q)) in
      ap (λ bs. remade s bs (put (put s.sessions mid) (unpack.after mid q)) given elements) (set_twice (is_at (slice_cmp nat_cmp buffer)) s.buffers (unpack.buffer_after u bytes p) end)
      ∙ ap (λ ss. remade s (put_bytes s.buffers end) ss given elements) (set_twice (is_at (slice_cmp nat_cmp session)) s.sessions (unpacking buffer mid) (unpacking buffer (unpack.after mid q)))
      ∙ ap (λ b. remade s (put_bytes s.buffers b) (put s.sessions (unpack.after mid q)) given elements) (buffer_both u before rest b p q bytes)
      ∙ ap (λ v. remade s (put_bytes s.buffers (unpack.buffer_after u bytes (p ++ q))) (put s.sessions v) given elements) (after_both u before rest b p q)
      ∙ ap (λ k. remade s (put_bytes s.buffers (unpack.buffer_after u bytes (p ++ q))) (put s.sessions (unpack.after u (p ++ q))) k elements)
      (cap s.totals.given (length p) (length q) most ∙ ap (λ k. min (s.totals.given + k) most) long)
      ∙ ap (λ k. remade s (put_bytes s.buffers (unpack.buffer_after u bytes (p ++ q))) (put s.sessions (unpack.after u (p ++ q))) (min (s.totals.given + length (p ++ q)) most) k)
      (cap s.totals.elements m n most ∙ ap (λ k. min (s.totals.elements + k) most) many)

  -- one give
  give_is : (s mid : State) (u : unpack.Session) (bytes piece : List ℕ) (reply : Reply) → session_of s session ≡ Some (unpacking buffer u) → buffer_of s buffer ≡ Some bytes
      → u.given + length piece ≤ unpack.total_of u → Obeys (Give session piece) s reply mid → mid ≡ with_count (after_giving s u bytes piece)
  give_is s mid u bytes piece reply at stands fits (inl (refusal, is, said, stays)) =
      let wrong : ¬ IsSomeAnd (session_of s session) IsSending =
      λ h. let sends : false ≡ true = and_some (session_of s session) IsSending (unpacking buffer u) at h in cc in
      let long : ¬ IsSomeAnd (session_of s session) (IsTruncated piece) =
      λ h. let less = and_some (session_of s session) (IsTruncated piece) (unpacking buffer u) at h in absurd (omega (arith, less, fits)) in
      absurd (allowed s (Give session piece) (contrary (is_none (session_of s session)) (ap is_none at), (wrong, (long, tt))) refusal is.0)
  give_is s mid u bytes piece reply at stands fits (inr (may, (o, held, found, held_by, said, new))) =
      let one : o ≡ unpacking buffer u = one_found (session_of s session) o (unpacking buffer u) found at in
      let same : held ≡ bytes = one_found (buffer_of s buffer) held bytes (ap (λ (x : Opened). buffer_of s x.buffer) (sym one) ∙ held_by) stands in
      new ∙ ap (λ (x : Opened). with_count (with_piece s session x held piece)) one ∙ ap (λ b. with_count (after_giving s u b piece)) same

  all_given : (pieces : List (List ℕ)) (replies : List Reply) (s t : State) (u : unpack.Session) (before rest : List Entry) → unpack.IsBetween u before rest
      → (bytes : List ℕ) → session_of s session ≡ Some (unpacking buffer u) → buffer_of s buffer ≡ Some bytes → AreCounted s.totals
      → u.given + length (joined pieces) ≤ unpack.total_of u → ObeysAll s (gives session pieces) replies t
      → but_commands t ≡ but_commands (after_giving s u bytes (joined pieces))
  all_given [] [] s t u before rest b bytes at stands counted fits same = ap but_commands same ∙ sym (nothing_given s u bytes at stands counted)
  all_given [] (reply ∷ replies) s t u before rest b bytes at stands counted fits h = absurd h
  all_given (p ∷ pieces) [] s t u before rest b bytes at stands counted fits h = absurd h
  all_given (p ∷ pieces) (reply ∷ replies) s t u before rest b bytes at stands counted fits (mid, step, later) =
      let long = length-append p (joined pieces) in
      let new = give_is s mid u bytes p reply at stands (omega (arith, fits, long)) step in
      let v = unpack.after u p in
      let c = unpack.buffer_after u bytes p in
      let next = between_any u before rest b p (omega (arith, fits, long)) in
      let at_v : session_of mid session ≡ Some (unpacking buffer v) =
      ap (λ (x : State). session_of x session) new ∙ found_set (is_at (slice_cmp nat_cmp session)) s.sessions (unpacking buffer u) (unpacking buffer v) at in
      let stands_c : buffer_of mid buffer ≡ Some c = ap (λ (x : State). buffer_of x buffer) new ∙ found_set (is_at (slice_cmp nat_cmp buffer)) s.buffers bytes c stands in
      let taken = ap (λ (x : State). x.totals.taken) new in
      let given = ap (λ (x : State). x.totals.given) new in
      let elements = ap (λ (x : State). x.totals.elements) new in
      let few = counted.taken in
      let still : AreCounted mid.totals = record { taken = omega (arith, taken, few); given = omega (arith, given); elements = omega (arith, elements) } in
      all_given pieces replies mid t v next.0 next.1 next.2 c at_v stands_c still (omega (arith, fits, long)) later
      ∙ ap (λ (x : State). but_commands (after_giving x v c (joined pieces))) new
      ∙ both_given s u before rest b bytes p (joined pieces)

gives_refused : (s : State) (session : List ℕ) (pieces : List (List ℕ)) → ((piece : List ℕ) → ¬ IsAllowed s (Give session piece))
    → AllByRecursion (λ command. ¬ IsAllowed s command) (gives session pieces)
gives_refused s session [] none = tt
gives_refused s session (p ∷ pieces) none = (none p, gives_refused s session pieces none)

pub gives_are_joined : GivesAreJoined
gives_are_joined s t u session pieces others replies also sound same fits one other = by (session_of s session) refl
  where
    Same : Type 0
    Same = but_commands t ≡ but_commands u

    stuck : ((piece : List ℕ) → ¬ IsAllowed s (Give session piece)) → Same
    stuck none =
        let a = all_refused (gives session pieces) replies s t (gives_refused s session pieces none) one in
        let b = all_refused (gives session others) also s u (gives_refused s session others none) other in
        ap but_commands (a.0 ∙ sym b.0)

    open_at : (buffer : List ℕ) (v : unpack.Session) → session_of s session ≡ Some (unpacking buffer v) → (number : ℕ) → unpack.IsOpen v number
        → (o : Option (List ℕ)) → buffer_of s buffer ≡ o → IsSomeAnd o (λ bytes. length bytes ≡ v.buf_len) → Same
    open_at buffer v at number is None none over = absurd over
    open_at buffer v at number is (Some bytes) stands over =
        let within = given_within v is.before is.rest is.between in
        let room : v.given + length (joined pieces) ≤ unpack.total_of v =
        elim (cases_lt (unpack.rest_of v) (length (joined pieces))) [
          | inl less ↦ absurd (fits (some_and (session_of s session) (IsTruncated (joined pieces)) (unpacking buffer v) at less))
          | inr few ↦ omega (arith, few, within)
        ] in
        let long = ap length same in
        all_given session buffer pieces replies s t v is.before is.rest is.between bytes at stands sound.counted room one
        ∙ ap (λ piece. but_commands (after_giving session buffer s v bytes piece)) same
        ∙ sym (all_given session buffer others also s u v is.before is.rest is.between bytes at stands sound.counted (omega (arith, room, long)) other)

    of : (buffer : List ℕ) (x : Session) → session_of s session ≡ Some (record { buffer = buffer; session = x }) → Same
    of buffer (Pack p) at =
        stuck (λ piece may. ((allowed_is_clear s (Give session piece)).0 may).1.0 (some_and (session_of s session) IsSending (record { buffer = buffer; session = Pack p }) at refl))
    of buffer (Unpack v) at =
        let known = each_found (λ (o : Opened). IsSoundIn o.session) (is_at (slice_cmp nat_cmp session)) s.sessions (unpacking buffer v) sound.sessions at in
        open_at buffer v at known.0 known.1 (buffer_of s buffer) refl (over_found s.buffers s.sessions session (unpacking buffer v) sound.standing at)

    by : (o : Option Opened) → session_of s session ≡ o → Same
    by None none = stuck (λ piece may. ((allowed_is_clear s (Give session piece)).0 may).0 (ap is_none none))
    by (Some o) at = of o.buffer o.session at
