-- Commands on different sessions, in either order.
use Rattle.std.proofs.Common.{◌≡◌, ℕ, ◌+◌, ◌-◌, ◌^◌, ◌<◌, min, pos, nat_abs, Bool, true, false, List, [], ◌∷◌, length, Option, Some, None, inl, inr, refl, sym, ap, subst, ◌∙◌, arith}
use Rattle.std.specs.BTreeMap.{is_at}
use Rattle.std.specs.Cmp.Lexicographic.{slice_cmp}
use Rattle.std.specs.Map.{set_value}
use Rattle.std.specs.Option.{is_none, IsSomeAnd}
use Rattle.std.specs.Ordering.{nat_cmp}
use Rattle.std.specs.Prelude.{int_lt, IsTrue, take, drop}
use Rattle.std.proofs.lemmas.Map.Steps.{set_value_same}
use Rattle.std.proofs.lemmas.Map.Text.{is_eq-slice_cmp}
use Rattle.std.proofs.lemmas.Slice.Eq.{bytes_eq-Decides}
use Rattle.dt_map.specs.Elements.{are_inside}
use Rattle.dt_names.specs.Names.{under}
use Rattle.dt_pack.specs.Session as pack
use Rattle.dt_reply.specs.declared.refusal.Refusal.{Refusal}
use Rattle.dt_reply.specs.declared.refusal.Refusal.TheVariants.{UnknownName, BadArgument, WrongDirection, Truncated}
use Rattle.dt_reply.specs.declared.reply.Reply.{Reply}
use Rattle.dt_reply.specs.declared.reply.Reply.TheVariants.{Silent, Packed, Done, Given}
use Rattle.dt_reply.specs.Refusal.{number_of}
use Rattle.dt_script.specs.declared.command.Command.{Command}
use Rattle.dt_script.specs.declared.command.Command.TheVariants.{Take, Seek, Give}
use Rattle.dt_sessions.specs.declared.session.Opened.{Opened}
use Rattle.dt_sessions.specs.declared.session.Session.{Session}
use Rattle.dt_sessions.specs.declared.session.Session.TheVariants.{Pack, Unpack}
use Rattle.dt_sessions.specs.Open.{IsOver, buf_len_in, passed_in, next_in, receipt_in, buffer_in, opened_at, opened_given}
use Rattle.dt_sessions.proofs.Beside.{found_beside_set, set_turned}
use Rattle.dt_sessions.proofs.OpenLemmas.{found_set, set_twice, each_found, one_found, over_found}
use Rattle.dt_unpack.specs.Laws.{AreApart}
use Rattle.dt_unpack.proofs.Apart.{others_are_kept, order_is_free as pieces_turned}
use Rattle.dt_machine.specs.declared.state.Totals.{Totals}
use Rattle.dt_machine.specs.Pieces.{IsSound, IsSoundIn, IsOn, placed_in, completed_by, OrderIsFree}
use Rattle.dt_machine.specs.Refusal.{IsRefusedBy, IsAllowed, IsBeyond, IsReceiving, IsSending, IsTruncated}
use Rattle.dt_machine.specs.Row.{Row, ◌when◌, condition}
use Rattle.dt_machine.specs.State.{State, session_of, buffer_of}
use Rattle.dt_machine.specs.Step.{taken_by, Performs, Obeys}

abbrev at : List ℕ → List ℕ → Bool
at name other = is_at (slice_cmp nat_cmp name) other

-- what a command on a session replies and changes, by the session and its buffer
abbrev reply_by : Command → Opened → List ℕ → Reply
reply_by (Take session len) o bytes = Packed (next_in o.session bytes (taken_by o len))
reply_by (Seek session byte) o bytes = Done
reply_by (Give session piece) o bytes = Given (receipt_in o.session piece)
reply_by command o bytes = Silent

abbrev opened_by : Command → Opened → Opened
opened_by (Take session len) o = opened_at o (passed_in o.session + taken_by o len)
opened_by (Seek session byte) o = opened_at o (nat_abs byte)
opened_by (Give session piece) o = opened_given o piece
opened_by command o = o

abbrev bytes_by : Command → Opened → List ℕ → List ℕ
bytes_by (Give session piece) o bytes = buffer_in o.session bytes piece
bytes_by command o bytes = bytes

abbrev counted : Totals → Totals
counted totals = record totals { commands = min (totals.commands + 1) (2 ^ 64 - 1) }

abbrev more_taken : ℕ → Totals → Totals
more_taken n totals = record totals { taken = min (totals.taken + n) (2 ^ 64 - 1) }

abbrev more_given : ℕ → ℕ → Totals → Totals
more_given n k totals = record totals { given = min (totals.given + n) (2 ^ 64 - 1); elements = min (totals.elements + k) (2 ^ 64 - 1) }

abbrev totals_by : Command → Opened → Totals → Totals
totals_by (Take session len) o totals = counted (more_taken (taken_by o len) totals)
totals_by (Give session piece) o totals = counted (more_given (length piece) (receipt_in o.session piece).completed totals)
totals_by command o totals = counted totals

abbrev made : State → List (List ℕ × List ℕ) → List (List ℕ × Opened) → Totals → State
made s buffers sessions totals = record s { buffers = buffers; sessions = sessions; totals = totals }

abbrev act : Command → State → List ℕ → Opened → List ℕ → State
act command s name o bytes =
    made s (set_value (at o.buffer) s.buffers (bytes_by command o bytes)) (set_value (at name) s.sessions (opened_by command o)) (totals_by command o s.totals)

record Acts (command : Command) (s : State) (name : List ℕ) (reply : Reply) (t : State) : Type 0 where
  opened : Opened
  bytes : List ℕ
  found : session_of s name ≡ Some opened
  stands : buffer_of s opened.buffer ≡ Some bytes
  said : reply ≡ reply_by command opened bytes
  new : t ≡ act command s name opened bytes

-- each session's buffer stands
abbrev Stands : State → List ℕ → Type 0
Stands s name = (o : Opened) → session_of s name ≡ Some o → (bytes : List ℕ) × (buffer_of s o.buffer ≡ Some bytes)

same_buffers : (s : State) (o : Opened) (bytes : List ℕ) (sessions : List (List ℕ × Opened)) (totals : Totals) → buffer_of s o.buffer ≡ Some bytes
    → made s (set_value (at o.buffer) s.buffers bytes) sessions totals ≡ made s s.buffers sessions totals
same_buffers s o bytes sessions totals stands = ap (λ bs. made s bs sessions totals) (set_value_same (at o.buffer) s.buffers bytes stands)

acts : (command : Command) (s t : State) (name : List ℕ) (reply : Reply) → IsOn name command → Stands s name → Performs command s reply t → Acts command s name reply t
acts (Take session len) s t name reply on here (o, bytes, found, stands, said, new) =
    let command = Take session len in
    subst (λ n. Acts command s n reply t) on (record {
      opened = o;
      bytes = bytes;
      found = found;
      stands = stands;
      said = said;
      new = new ∙ sym (same_buffers s o bytes (set_value (at session) s.sessions (opened_by command o)) (totals_by command o s.totals) stands);
    })
acts (Seek session byte) s t name reply on here (o, found, said, new) =
    let command = Seek session byte in
    let there = here o (ap (session_of s) (sym on) ∙ found) in
    subst (λ n. Acts command s n reply t) on (record {
      opened = o;
      bytes = there.0;
      found = found;
      stands = there.1;
      said = said;
      new = new ∙ sym (same_buffers s o there.0 (set_value (at session) s.sessions (opened_by command o)) (totals_by command o s.totals) there.1);
    })
acts (Give session piece) s t name reply on here (o, bytes, found, stands, said, new) =
    let command = Give session piece in
    subst (λ n. Acts command s n reply t) on (record { opened = o; bytes = bytes; found = found; stands = stands; said = said; new = new })
acts other s t name reply on here does = absurd on

performs : (command : Command) (s t : State) (name : List ℕ) (reply : Reply) → IsOn name command → Acts command s name reply t → Performs command s reply t
performs (Take session len) s t name reply on acting =
    let command = Take session len in
    let a = subst (λ n. Acts command s n reply t) (sym on) acting in
    (a.opened, a.bytes, a.found, a.stands, a.said, a.new ∙ same_buffers s a.opened a.bytes (set_value (at session) s.sessions (opened_by command a.opened)) (totals_by command a.opened s.totals) a.stands)
performs (Seek session byte) s t name reply on acting =
    let command = Seek session byte in
    let a = subst (λ n. Acts command s n reply t) (sym on) acting in
    (a.opened, a.found, a.said, a.new ∙ same_buffers s a.opened a.bytes (set_value (at session) s.sessions (opened_by command a.opened)) (totals_by command a.opened s.totals) a.stands)
performs (Give session piece) s t name reply on acting =
    let command = Give session piece in
    let a = subst (λ n. Acts command s n reply t) (sym on) acting in
    (a.opened, a.bytes, a.found, a.stands, a.said, a.new)
performs other s t name reply on acting = absurd on

-- whether a command is refused hangs on its own session alone
abbrev row_for : Command → Option Opened → Row
row_for (Take session len) o = UnknownName when IsTrue (is_none o) ∷ BadArgument when IsTrue (int_lt len (pos 0)) ∷ WrongDirection when IsSomeAnd o IsReceiving ∷ []
row_for (Seek session byte) o = UnknownName when IsTrue (is_none o) ∷ BadArgument when IsSomeAnd o (IsBeyond byte) ∷ WrongDirection when IsSomeAnd o IsReceiving ∷ []
row_for (Give session piece) o = UnknownName when IsTrue (is_none o) ∷ WrongDirection when IsSomeAnd o IsSending ∷ Truncated when IsSomeAnd o (IsTruncated piece) ∷ []
row_for command o = []

abbrev RefusedBy : Row → Refusal → Type 0
RefusedBy row refusal = condition row refusal × ((lesser : Refusal) → number_of lesser < number_of refusal → ¬ condition row lesser)

abbrev AllowedBy : Row → Type 0
AllowedBy row = (refusal : Refusal) → ¬ condition row refusal

refused_still : (command : Command) (s t : State) (name : List ℕ) (refusal : Refusal) → IsOn name command → session_of s name ≡ session_of t name
    → IsRefusedBy s command refusal → IsRefusedBy t command refusal
refused_still (Take session len) s t name refusal on same is =
    subst (λ o. RefusedBy (row_for (Take session len) o) refusal) (ap (session_of s) on ∙ same ∙ sym (ap (session_of t) on)) is
refused_still (Seek session byte) s t name refusal on same is =
    subst (λ o. RefusedBy (row_for (Seek session byte) o) refusal) (ap (session_of s) on ∙ same ∙ sym (ap (session_of t) on)) is
refused_still (Give session piece) s t name refusal on same is =
    subst (λ o. RefusedBy (row_for (Give session piece) o) refusal) (ap (session_of s) on ∙ same ∙ sym (ap (session_of t) on)) is
refused_still other s t name refusal on same is = absurd on

allowed_still : (command : Command) (s t : State) (name : List ℕ) → IsOn name command → session_of s name ≡ session_of t name → IsAllowed s command → IsAllowed t command
allowed_still (Take session len) s t name on same may =
    subst (λ o. AllowedBy (row_for (Take session len) o)) (ap (session_of s) on ∙ same ∙ sym (ap (session_of t) on)) may
allowed_still (Seek session byte) s t name on same may =
    subst (λ o. AllowedBy (row_for (Seek session byte) o)) (ap (session_of s) on ∙ same ∙ sym (ap (session_of t) on)) may
allowed_still (Give session piece) s t name on same may =
    subst (λ o. AllowedBy (row_for (Give session piece) o)) (ap (session_of s) on ∙ same ∙ sym (ap (session_of t) on)) may
allowed_still other s t name on same may = absurd on

-- totals rise in either order
cap_turned : (total m n limit : ℕ) → min (min (total + m) limit + n) limit ≡ min (min (total + n) limit + m) limit
cap_turned total m n limit = omega arith

totals_turned : (one other : Command) (a b : List ℕ) (o p : Opened) (totals : Totals) → IsOn a one → IsOn b other
    → totals_by other p (totals_by one o totals) ≡ totals_by one o (totals_by other p totals)
totals_turned (Take s l) (Take r k) a b o p totals on too = ap (λ n. record (counted (counted totals)) { taken = n }) (cap_turned totals.taken (taken_by o l) (taken_by p k) (2 ^ 64 - 1))
totals_turned (Take s l) (Seek r k) a b o p totals on too = refl
totals_turned (Take s l) (Give r k) a b o p totals on too = refl
totals_turned (Seek s l) (Take r k) a b o p totals on too = refl
totals_turned (Seek s l) (Seek r k) a b o p totals on too = refl
totals_turned (Seek s l) (Give r k) a b o p totals on too = refl
totals_turned (Give s l) (Take r k) a b o p totals on too = refl
totals_turned (Give s l) (Seek r k) a b o p totals on too = refl
totals_turned (Give s l) (Give r k) a b o p totals on too =
    let m : ℕ = (receipt_in o.session l).completed in
    let n : ℕ = (receipt_in p.session k).completed in
    ap (λ g. record (counted (counted totals)) { given = g; elements = min (min (totals.elements + m) (2 ^ 64 - 1) + n) (2 ^ 64 - 1) })
    (cap_turned totals.given (length l) (length k) (2 ^ 64 - 1))
    ∙ ap (λ e. record (counted (counted totals)) { given = min (min (totals.given + length k) (2 ^ 64 - 1) + length l) (2 ^ 64 - 1); elements = e })
    (cap_turned totals.elements m n (2 ^ 64 - 1))
totals_turned (Take s l) other a b o p totals on too = absurd too
totals_turned (Seek s l) other a b o p totals on too = absurd too
totals_turned (Give s l) other a b o p totals on too = absurd too
totals_turned one other a b o p totals on too = absurd on

-- in one buffer: what the one sets leaves what the other replies, and either may set first
reads_same : (x y : Session) (bytes piece : List ℕ) (n : ℕ) → IsSoundIn x → IsSoundIn y → length bytes ≡ buf_len_in x → length bytes ≡ buf_len_in y
    → AreApart (completed_by (Give [] piece) (record { buffer = []; session = x })) (placed_in y) → next_in y (buffer_in x bytes piece) n ≡ next_in y bytes n
reads_same (Pack u) y bytes piece n one other same also apart = refl
reads_same (Unpack u) (Unpack v) bytes piece n one other same also apart = refl
reads_same (Unpack u) (Pack q) bytes piece n one other same also apart =
    ap (λ all. take n (drop q.position all)) (others_are_kept u one.0 bytes piece q.rep (pack.placed q) one.1 same
    (subst (λ k. IsTrue (are_inside k (pack.placed q))) (sym also) other) apart)

replies_same : (one other : Command) (o p : Opened) (bytes : List ℕ) → IsSoundIn o.session → IsSoundIn p.session → length bytes ≡ buf_len_in o.session
    → length bytes ≡ buf_len_in p.session → AreApart (completed_by one o) (placed_in p.session) → reply_by other p (bytes_by one o bytes) ≡ reply_by other p bytes
replies_same (Give s piece) (Take r len) o p bytes x y same also apart =
    ap Packed (reads_same o.session p.session bytes piece (taken_by p len) x y same also apart)
replies_same (Give s piece) (Seek r byte) o p bytes x y same also apart = refl
replies_same (Give s piece) (Give r more) o p bytes x y same also apart = refl
replies_same (Give s piece) other o p bytes x y same also apart = refl
replies_same one other o p bytes x y same also apart = refl

gives_turned : (x y : Session) (bytes piece more : List ℕ) → IsSoundIn x → IsSoundIn y → length bytes ≡ buf_len_in x → length bytes ≡ buf_len_in y
    → AreApart (completed_by (Give [] piece) (record { buffer = []; session = x })) (placed_in y)
    → buffer_in y (buffer_in x bytes piece) more ≡ buffer_in x (buffer_in y bytes more) piece
gives_turned (Pack u) y bytes piece more one other same also apart = refl
gives_turned (Unpack u) (Pack q) bytes piece more one other same also apart = refl
gives_turned (Unpack u) (Unpack v) bytes piece more one other same also apart = pieces_turned u v one.0 other.0 bytes piece more one.1 other.1 same also apart

bytes_turned : (one other : Command) (o p : Opened) (bytes : List ℕ) → IsSoundIn o.session → IsSoundIn p.session → length bytes ≡ buf_len_in o.session
    → length bytes ≡ buf_len_in p.session → AreApart (completed_by one o) (placed_in p.session)
    → bytes_by other p (bytes_by one o bytes) ≡ bytes_by one o (bytes_by other p bytes)
bytes_turned (Give s piece) (Give r more) o p bytes x y same also apart = gives_turned o.session p.session bytes piece more x y same also apart
bytes_turned (Give s piece) other o p bytes x y same also apart = refl
bytes_turned one other o p bytes x y same also apart = refl

-- another session's name finds what it did
untouched : (command : Command) (s t : State) (name other : List ℕ) (reply : Reply) → IsOn name command → (¬ (name ≡ other)) → Stands s name → Obeys command s reply t
    → session_of t other ≡ session_of s other
untouched command s t name other reply on differ here (inl (refusal, is, said, stays)) = ap (λ (x : State). session_of x other) stays
untouched command s t name other reply on differ here (inr (may, does)) =
    let a = acts command s t name reply on here does in
    ap (λ (x : State). session_of x other) a.new ∙ found_beside_set name other s.sessions (opened_by command a.opened) differ

sound_at : (s : State) → IsSound s → (name : List ℕ) (o : Opened) → session_of s name ≡ Some o → IsOver s.buffers o × IsSoundIn o.session
sound_at s sound name o found = (
  over_found s.buffers s.sessions name o sound.standing found,
  each_found (λ (x : Opened). IsSoundIn x.session) (at name) s.sessions o sound.sessions found,
)

stands_by : (o : Option (List ℕ)) (n : ℕ) → IsSomeAnd o (λ bytes. length bytes ≡ n) → (bytes : List ℕ) × (o ≡ Some bytes) × (length bytes ≡ n)
stands_by None n h = absurd h
stands_by (Some bytes) n h = (bytes, refl, h)

all_stand : (s : State) → IsSound s → (name : List ℕ) → Stands s name
all_stand s sound name o found =
    let there = stands_by (buffer_of s o.buffer) (buf_len_in o.session) (sound_at s sound name o found).0 in
    (there.0, there.1)

-- the buffers after both, in either order: what the one session's buffer has at first (x), the other's after the one (y), the other's at
-- first (w), and the one's after the other (z)
record Turned (s : State) (one other : Command) (o p : Opened) (x y : List ℕ) : Type 0 where
  w : List ℕ
  z : List ℕ
  first : reply_by other p y ≡ reply_by other p w
  second : reply_by one o x ≡ reply_by one o z
  stands : buffer_of s p.buffer ≡ Some w
  behind : under o.buffer (set_value (at p.buffer) s.buffers (bytes_by other p w)) ≡ Some z
  buffers : set_value (at p.buffer) (set_value (at o.buffer) s.buffers (bytes_by one o x)) (bytes_by other p y)
      ≡ set_value (at o.buffer) (set_value (at p.buffer) s.buffers (bytes_by other p w)) (bytes_by one o z)

module _ (s : State) (sound : IsSound s) (one other : Command) (a b : List ℕ) (o p : Opened) (found : session_of s a ≡ Some o) (also : session_of s b ≡ Some p)
    (x y : List ℕ) (stands : buffer_of s o.buffer ≡ Some x)
    (after : under p.buffer (set_value (at o.buffer) s.buffers (bytes_by one o x)) ≡ Some y) where
  known : (bytes : List ℕ) × (buffer_of s p.buffer ≡ Some bytes) × (length bytes ≡ buf_len_in p.session)
  known = stands_by (buffer_of s p.buffer) (buf_len_in p.session) (sound_at s sound b p also).0

  long : length x ≡ buf_len_in o.session
  long =
      let there = stands_by (buffer_of s o.buffer) (buf_len_in o.session) (sound_at s sound a o found).0 in
      ap length (one_found (buffer_of s o.buffer) x there.0 stands there.1) ∙ there.2

  -- over different buffers
  beside : (¬ (o.buffer ≡ p.buffer)) → Turned s one other o p x y
  beside differ =
      let same : y ≡ known.0 =
      one_found (buffer_of s p.buffer) y known.0 (sym (found_beside_set o.buffer p.buffer s.buffers (bytes_by one o x) differ) ∙ after) known.1 in
      record {
        w = known.0;
        z = x;
        first = ap (reply_by other p) same;
        second = refl;
        stands = known.1;
        behind = found_beside_set p.buffer o.buffer s.buffers (bytes_by other p known.0) (λ e. differ (sym e)) ∙ stands;
        buffers = ap (λ bytes. set_value (at p.buffer) (set_value (at o.buffer) s.buffers (bytes_by one o x)) (bytes_by other p bytes)) same
            ∙ set_turned o.buffer p.buffer s.buffers (bytes_by one o x) (bytes_by other p known.0) differ;
      }

  -- over one buffer
  within : o.buffer ≡ p.buffer → AreApart (completed_by one o) (placed_in p.session) → AreApart (completed_by other p) (placed_in o.session) → Turned s one other o p x y
  within same apart away =
      let sound_o = (sound_at s sound a o found).1 in
      let sound_p = (sound_at s sound b p also).1 in
      let there : buffer_of s p.buffer ≡ Some x = ap (buffer_of s) (sym same) ∙ stands in
      let long_p : length x ≡ buf_len_in p.session = ap length (one_found (buffer_of s p.buffer) x known.0 there known.1) ∙ known.2 in
      let is : y ≡ bytes_by one o x =
      one_found (under p.buffer (set_value (at o.buffer) s.buffers (bytes_by one o x))) y (bytes_by one o x) after
      (ap (λ n. under n (set_value (at o.buffer) s.buffers (bytes_by one o x))) (sym same) ∙ found_set (at o.buffer) s.buffers x (bytes_by one o x) stands) in
      let first = replies_same one other o p x sound_o sound_p long long_p apart in
      let second = replies_same other one p o x sound_p sound_o long_p long away in
      let turned = bytes_turned one other o p x sound_o sound_p long long_p apart in
      record {
        w = x;
        z = bytes_by other p x;
        first = ap (reply_by other p) is ∙ first;
        second = sym second;
        stands = there;
        behind = ap (λ n. under n (set_value (at p.buffer) s.buffers (bytes_by other p x))) same ∙ found_set (at p.buffer) s.buffers x (bytes_by other p x) there;
        buffers = ap (λ bytes. set_value (at p.buffer) (set_value (at o.buffer) s.buffers (bytes_by one o x)) (bytes_by other p bytes)) is
            ∙ ap (λ n. set_value (at p.buffer) (set_value (at n) s.buffers (bytes_by one o x)) (bytes_by other p (bytes_by one o x))) same
            ∙ set_twice (at p.buffer) s.buffers (bytes_by one o x) (bytes_by other p (bytes_by one o x))
            ∙ ap (set_value (at p.buffer) s.buffers) turned
            ∙ sym (set_twice (at p.buffer) s.buffers (bytes_by other p x) (bytes_by one o (bytes_by other p x)))
            ∙ ap (λ n. set_value (at n) (set_value (at p.buffer) s.buffers (bytes_by other p x)) (bytes_by one o (bytes_by other p x))) (sym same);
      }

  either : (o.buffer ≡ p.buffer → AreApart (completed_by one o) (placed_in p.session)) → (p.buffer ≡ o.buffer → AreApart (completed_by other p) (placed_in o.session))
      → Turned s one other o p x y
  either apart away = by (at o.buffer p.buffer) refl
    where
      by : (c : Bool) → at o.buffer p.buffer ≡ c → Turned s one other o p x y
      by true e =
          let same : o.buffer ≡ p.buffer = (bytes_eq-Decides o.buffer p.buffer).0 (sym (is_eq-slice_cmp o.buffer p.buffer) ∙ e) in
          within same (apart same) (away (sym same))
      by false e =
          beside (λ same.
          let yes : at o.buffer p.buffer ≡ true = is_eq-slice_cmp o.buffer p.buffer ∙ (bytes_eq-Decides o.buffer p.buffer).1 same in
          let no : true ≡ false = sym yes ∙ e in cc)

-- a buffer that stands still stands where another or itself is set
stands_still : (buffers : List (List ℕ × List ℕ)) (name other x new y : List ℕ) → under name buffers ≡ Some x → under other buffers ≡ Some y
    → (bytes : List ℕ) × (under other (set_value (at name) buffers new) ≡ Some bytes)
stands_still buffers name other x new y is also = by (at name other) refl
  where
    by : (c : Bool) → at name other ≡ c → (bytes : List ℕ) × (under other (set_value (at name) buffers new) ≡ Some bytes)
    by true e =
        let same : name ≡ other = (bytes_eq-Decides name other).0 (sym (is_eq-slice_cmp name other) ∙ e) in
        (new, ap (λ n. under n (set_value (at name) buffers new)) (sym same) ∙ found_set (at name) buffers x new is)
    by false e = (
      y,
      found_beside_set name other buffers new (λ same.
          let yes : at name other ≡ true = is_eq-slice_cmp name other ∙ (bytes_eq-Decides name other).1 same in
          let no : true ≡ false = sym yes ∙ e in cc) ∙ also,
    )

pub order_is_free : OrderIsFree
order_is_free s mid t one other a b reply also sound on too differ apart away (inl (refusal, is, said, stays)) second =
    let here : Obeys other s also t = subst (λ x. Obeys other x also t) stays second in
    let same = untouched other s t b a also too (λ e. differ (sym e)) (all_stand s sound b) here in
    (t, here, inl (refusal, refused_still one s t a refusal on (sym same) is, said, refl))
order_is_free s mid t one other a b reply also sound on too differ apart away (inr (may, does)) (inl (refusal, is, said, stays)) =
    let same = untouched one s mid a b reply on differ (all_stand s sound a) (inr (may, does)) in
    (s, inl (refusal, refused_still other mid s b refusal too same is, said, refl), subst (λ x. Obeys one s reply x) (sym stays) (inr (may, does)))
order_is_free s mid t one other a b reply also sound on too differ apart away (inr (may, does)) (inr (may_too, does_too)) =
    let first = acts one s mid a reply on (all_stand s sound a) does in
    let o = first.opened in
    let x = first.bytes in
    let same = untouched one s mid a b reply on differ (all_stand s sound a) (inr (may, does)) in
    let may_first : IsAllowed s other = allowed_still other mid s b too same may_too in
    let stands_mid : Stands mid b = λ p found.
    let there = all_stand s sound b p (sym same ∙ found) in
    let still = stands_still s.buffers o.buffer p.buffer x (bytes_by one o x) there.0 first.stands there.1 in
    (still.0, ap (λ (m : State). buffer_of m p.buffer) first.new ∙ still.1) in
    let second = acts other mid t b also too stands_mid does_too in
    let p = second.opened in
    let y = second.bytes in
    let found_p : session_of s b ≡ Some p = sym same ∙ second.found in
    let turned = either s sound one other a b o p first.found found_p x y first.stands
    (sym (ap (λ (m : State). buffer_of m p.buffer) first.new) ∙ second.stands)
    (λ e. apart o p first.found found_p e may) (λ e. away p o found_p first.found e may_first) in
    let w = turned.w in
    let z = turned.z in
    let between : State = act other s b p w in
    let found_o : session_of between a ≡ Some o = found_beside_set b a s.sessions (opened_by other p) (λ e. differ (sym e)) ∙ first.found in
    let done : Acts other s b also between = record { opened = p; bytes = w; found = found_p; stands = turned.stands; said = second.said ∙ turned.first; new = refl } in
    let last : t ≡ act one between a o z =
    second.new ∙ ap (λ (m : State). act other m b p y) first.new
    ∙ ap (λ bs. made s bs (set_value (at b) (set_value (at a) s.sessions (opened_by one o)) (opened_by other p)) (totals_by other p (totals_by one o s.totals))) turned.buffers
    ∙ ap (λ ss. made s (set_value (at o.buffer) (set_value (at p.buffer) s.buffers (bytes_by other p w)) (bytes_by one o z)) ss (totals_by other p (totals_by one o s.totals)))
    (set_turned a b s.sessions (opened_by one o) (opened_by other p) differ)
    ∙ ap (made s (set_value (at o.buffer) (set_value (at p.buffer) s.buffers (bytes_by other p w)) (bytes_by one o z))
    (set_value (at a) (set_value (at b) s.sessions (opened_by other p)) (opened_by one o))) (totals_turned one other a b o p s.totals on too) in
    let also_done : Acts one between a reply t =
    record { opened = o; bytes = z; found = found_o; stands = turned.behind; said = first.said ∙ turned.second; new = last } in (
      between,
      inr (may_first, performs other s between b also too done),
      inr (allowed_still one s between a on (first.found ∙ sym found_o) may, performs one between t a reply on also_done),
    )
