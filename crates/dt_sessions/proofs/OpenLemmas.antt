-- Each session stays over its buffer, as buffers and sessions come and go.
use Rattle.std.proofs.Common.{◌≡◌, ℕ, ◌≤◌, Bool, true, false, cond, List, [], ◌∷◌, length, Option, Some, None, refl, sym, ap, subst, ◌∙◌}
use Rattle.std.proofs.lemmas.Bool.{false_from_ne_true}
use Rattle.std.proofs.lemmas.Map.Text.{is_eq-slice_cmp}
use Rattle.std.proofs.lemmas.Slice.Eq.{bytes_eq-Decides}
use Rattle.std.specs.BTreeMap.{is_at, insert_entry}
use Rattle.std.specs.Cmp.Lexicographic.{slice_cmp}
use Rattle.std.specs.declared.cmp.Ordering.{Ordering}
use Rattle.std.specs.declared.cmp.Ordering.TheVariants.{Less, Equal, Greater}
use Rattle.std.specs.List.{AllByRecursion}
use Rattle.std.specs.Map.{lookup, set_value, remove_entry}
use Rattle.std.specs.Option.{IsSomeAnd}
use Rattle.std.specs.Ordering.{is_eq, match_ordering, nat_cmp}
use Rattle.dt_names.specs.Names.{under}
use Rattle.dt_sessions.specs.declared.session.Opened.{Opened}
use Rattle.dt_sessions.specs.declared.session.Session.{Session}
use Rattle.dt_sessions.specs.declared.session.Session.TheVariants.{Pack, Unpack}
use Rattle.dt_sessions.specs.Open.{buf_len_in, at_byte_in, given_in, opened_at, opened_given, IsOver, IsSmall, HoldsOpen}

-- what holds of each thing that stands under a name
module _ {A : Type 0} (P : A → Type 0) where
  abbrev pub Each : List (List ℕ × A) → Type 0
  Each es = AllByRecursion (λ e. P e.1) es

  pub each_insert : (es : List (List ℕ × A)) (name : List ℕ) (x : A) → Each es → P x → Each (insert_entry (slice_cmp nat_cmp) es name x)
  each_insert [] name x all is = (is, tt)
  each_insert (e ∷ es) name x all is = by (slice_cmp nat_cmp name e.0) (each_insert es name x all.1 is)
    where
      by : (o : Ordering) → Each (insert_entry (slice_cmp nat_cmp) es name x)
          → Each (match_ordering o ((name, x) ∷ e ∷ es) ((e.0, x) ∷ es) (e ∷ insert_entry (slice_cmp nat_cmp) es name x))
      by Less rest = (is, all)
      by Equal rest = (is, all.1)
      by Greater rest = (all.0, rest)

  pub each_remove : (test : List ℕ → Bool) (es : List (List ℕ × A)) → Each es → Each (remove_entry test es)
  each_remove test [] all = tt
  each_remove test (e ∷ es) all = by (test e.0) (each_remove test es all.1)
    where
      by : (b : Bool) → Each (remove_entry test es) → Each (cond b es (e ∷ remove_entry test es))
      by true rest = all.1
      by false rest = (all.0, rest)

  pub each_set : (test : List ℕ → Bool) (es : List (List ℕ × A)) (x : A) → Each es → P x → Each (set_value test es x)
  each_set test [] x all is = tt
  each_set test (e ∷ es) x all is = by (test e.0) (each_set test es x all.1 is)
    where
      by : (b : Bool) → Each (set_value test es x) → Each (cond b ((e.0, x) ∷ es) (e ∷ set_value test es x))
      by true rest = (is, all.1)
      by false rest = (all.0, rest)

  pub each_found : (test : List ℕ → Bool) (es : List (List ℕ × A)) (x : A) → Each es → lookup test es ≡ Some x → P x
  each_found test [] x all is = cc
  each_found test (e ∷ es) x all is = by (test e.0) is (each_found test es x all.1)
    where
      first : (y : A) → P y → Some y ≡ Some x → P x
      first y holds same = let one : y ≡ x = cc in subst P one holds

      by : (b : Bool) → cond b (Some e.1) (lookup test es) ≡ Some x → (lookup test es ≡ Some x → P x) → P x
      by true same rest = first e.1 all.0 same
      by false same rest = rest same

-- two names that stand for different things differ
apart_names : {A : Type 0} (es : List (List ℕ × A)) (name other : List ℕ) (y : A) → under name es ≡ None → under other es ≡ Some y
    → is_at (slice_cmp nat_cmp other) name ≡ false
apart_names es name other y none is =
    false_from_ne_true (is_at (slice_cmp nat_cmp other) name) (λ same.
    let one : other ≡ name = (bytes_eq-Decides other name).0 (sym (is_eq-slice_cmp other name) ∙ same) in
    let both : Some y ≡ None = sym is ∙ (ap (λ n. under n es) one ∙ none) in
    cc)

-- a new name changes nothing under another
found_insert : {A : Type 0} (es : List (List ℕ × A)) (name other : List ℕ) (x y : A) → is_at (slice_cmp nat_cmp other) name ≡ false
    → under name es ≡ None → under other es ≡ Some y → under other (insert_entry (slice_cmp nat_cmp) es name x) ≡ Some y
found_insert [] name other x y apart none is = cc
found_insert {A} (e ∷ es) name other x y apart none is = by (slice_cmp nat_cmp name e.0) none (found_insert es name other x y apart)
  where
    at : Bool
    at = is_at (slice_cmp nat_cmp other) e.0

    behind : (b : Bool) → cond b (Some e.1) (under other es) ≡ Some y → (under other es ≡ Some y → under other (insert_entry (slice_cmp nat_cmp) es name x) ≡ Some y)
        → cond b (Some e.1) (under other (insert_entry (slice_cmp nat_cmp) es name x)) ≡ Some y
    behind true same rest = same
    behind false same rest = rest same

    by : (o : Ordering) → cond (is_eq o) (Some e.1) (under name es) ≡ None
        → (under name es ≡ None → under other es ≡ Some y → under other (insert_entry (slice_cmp nat_cmp) es name x) ≡ Some y)
        → under other (match_ordering o ((name, x) ∷ e ∷ es) ((e.0, x) ∷ es) (e ∷ insert_entry (slice_cmp nat_cmp) es name x)) ≡ Some y
    by Less free rest = ap (λ b. cond b (Some x) (under other (e ∷ es))) apart ∙ is
    by Equal free rest = cc
    by Greater free rest = behind (is_at (slice_cmp nat_cmp other) e.0) is (rest free)

pub found_beside : {A : Type 0} (es : List (List ℕ × A)) (name other : List ℕ) (x y : A) → under name es ≡ None → under other es ≡ Some y
    → under other (insert_entry (slice_cmp nat_cmp) es name x) ≡ Some y
found_beside es name other x y none is = found_insert es name other x y (apart_names es name other y none is) none is

-- a session stays over its buffer
over_more : (buffers : List (List ℕ × List ℕ)) (name bytes : List ℕ) → under name buffers ≡ None → (opened : Opened) → IsOver buffers opened
    → IsOver (insert_entry (slice_cmp nat_cmp) buffers name bytes) opened
over_more buffers name bytes none opened over = by (under opened.buffer buffers) refl over
  where
    by : (o : Option (List ℕ)) → under opened.buffer buffers ≡ o → IsSomeAnd o (λ held. length held ≡ buf_len_in opened.session)
        → IsOver (insert_entry (slice_cmp nat_cmp) buffers name bytes) opened
    by None is h = absurd h
    by (Some held) is h =
        subst (λ o. IsSomeAnd o (λ held. length held ≡ buf_len_in opened.session)) (sym (found_beside buffers name opened.buffer bytes held none is)) h

all_over_more : (buffers : List (List ℕ × List ℕ)) (name bytes : List ℕ) → under name buffers ≡ None → (sessions : List (List ℕ × Opened))
    → Each (IsOver buffers) sessions → Each (IsOver (insert_entry (slice_cmp nat_cmp) buffers name bytes)) sessions
all_over_more buffers name bytes none [] all = tt
all_over_more buffers name bytes none (e ∷ es) all = (over_more buffers name bytes none e.1 all.0, all_over_more buffers name bytes none es all.1)

pub holds_buffer : (buffers : List (List ℕ × List ℕ)) (sessions : List (List ℕ × Opened)) (name bytes : List ℕ) → HoldsOpen buffers sessions
    → under name buffers ≡ None → IsSmall bytes → HoldsOpen (insert_entry (slice_cmp nat_cmp) buffers name bytes) sessions
holds_buffer buffers sessions name bytes holds none small =
    record { small = each_insert IsSmall buffers name bytes holds.small small; over = all_over_more buffers name bytes none sessions holds.over }

pub holds_opened : (buffers : List (List ℕ × List ℕ)) (sessions : List (List ℕ × Opened)) (name : List ℕ) (opened : Opened) → HoldsOpen buffers sessions
    → IsOver buffers opened → HoldsOpen buffers (insert_entry (slice_cmp nat_cmp) sessions name opened)
holds_opened buffers sessions name opened holds over =
    record { small = holds.small; over = each_insert (IsOver buffers) sessions name opened holds.over over }

pub holds_closed : (buffers : List (List ℕ × List ℕ)) (sessions : List (List ℕ × Opened)) (test : List ℕ → Bool) → HoldsOpen buffers sessions
    → HoldsOpen buffers (remove_entry test sessions)
holds_closed buffers sessions test holds = record { small = holds.small; over = each_remove (IsOver buffers) test sessions holds.over }

pub holds_moved : (buffers : List (List ℕ × List ℕ)) (sessions : List (List ℕ × Opened)) (test : List ℕ → Bool) (opened : Opened) → HoldsOpen buffers sessions
    → IsOver buffers opened → HoldsOpen buffers (set_value test sessions opened)
holds_moved buffers sessions test opened holds over =
    record { small = holds.small; over = each_set (IsOver buffers) test sessions opened holds.over over }

-- one thing stands under a name
pub one_found : {A : Type 0} (o : Option A) (x y : A) → o ≡ Some x → o ≡ Some y → x ≡ y
one_found o x y a b = let both : Some x ≡ Some y = sym a ∙ b in cc

-- what holds of what stands
pub and_found : {A : Type 0} (o : Option A) (P : A → Type 0) (x : A) → o ≡ Some x → IsSomeAnd o P → P x
and_found o P x is holds = subst (λ o. IsSomeAnd o P) is holds

-- where a session is open
module _ (buffers : List (List ℕ × List ℕ)) (sessions : List (List ℕ × Opened)) (name : List ℕ) (opened : Opened) (holds : HoldsOpen buffers sessions)
    (at : under name sessions ≡ Some opened) where
  pub over_found : IsOver buffers opened
  over_found = each_found (IsOver buffers) (is_at (slice_cmp nat_cmp name)) sessions opened holds.over at

  pub never_without : ¬ (under opened.buffer buffers ≡ None)
  never_without none = subst (λ o. IsSomeAnd o (λ held. length held ≡ buf_len_in opened.session)) none over_found

  pub length_found : (bytes : List ℕ) → under opened.buffer buffers ≡ Some bytes → length bytes ≡ buf_len_in opened.session
  length_found bytes is = and_found (under opened.buffer buffers) (λ held. length held ≡ buf_len_in opened.session) bytes is over_found

-- a session keeps its buffer where it goes
len_at : (session : Session) (byte : ℕ) → buf_len_in (at_byte_in session byte) ≡ buf_len_in session
len_at (Pack s) byte = refl
len_at (Unpack s) byte = refl

pub over_at : (buffers : List (List ℕ × List ℕ)) (opened : Opened) (byte : ℕ) → IsOver buffers opened → IsOver buffers (opened_at opened byte)
over_at buffers opened byte over =
    subst (λ n. IsSomeAnd (under opened.buffer buffers) (λ held. length held ≡ n)) (sym (len_at opened.session byte)) over

-- and where a piece is given to it
len_given : (session : Session) (piece : List ℕ) → buf_len_in (given_in session piece) ≡ buf_len_in session
len_given (Pack s) piece = refl
len_given (Unpack s) piece = refl

over_given : (buffers : List (List ℕ × List ℕ)) (opened : Opened) (piece : List ℕ) → IsOver buffers opened → IsOver buffers (opened_given opened piece)
over_given buffers opened piece over =
    subst (λ n. IsSomeAnd (under opened.buffer buffers) (λ held. length held ≡ n)) (sym (len_given opened.session piece)) over

-- what is put in the place of something stands there, and the last thing that is put there stays
module _ {A : Type 0} (test : List ℕ → Bool) where
  pub found_set : (es : List (List ℕ × A)) (x y : A) → lookup test es ≡ Some x → lookup test (set_value test es y) ≡ Some y
  found_set [] x y at = cc
  found_set (e ∷ es) x y at = by (test e.0) refl at (found_set es x y)
    where
      by : (b : Bool) → test e.0 ≡ b → cond b (Some e.1) (lookup test es) ≡ Some x
          → (lookup test es ≡ Some x → lookup test (set_value test es y) ≡ Some y)
          → lookup test (cond b ((e.0, y) ∷ es) (e ∷ set_value test es y)) ≡ Some y
      by true is at rest = ap (λ b. cond b (Some y) (lookup test es)) is
      by false is at rest = ap (λ b. cond b (Some e.1) (lookup test (set_value test es y))) is ∙ rest at

  pub set_twice : (es : List (List ℕ × A)) (x y : A) → set_value test (set_value test es x) y ≡ set_value test es y
  set_twice [] x y = refl
  set_twice (e ∷ es) x y = by (test e.0) refl (set_twice es x y)
    where
      by : (b : Bool) → test e.0 ≡ b → set_value test (set_value test es x) y ≡ set_value test es y
          → set_value test (cond b ((e.0, x) ∷ es) (e ∷ set_value test es x)) y ≡ cond b ((e.0, y) ∷ es) (e ∷ set_value test es y)
      by true is rest = ap (λ b. cond b ((e.0, y) ∷ es) ((e.0, x) ∷ set_value test es y)) is
      by false is rest = ap (λ b. cond b ((e.0, y) ∷ set_value test es x) (e ∷ set_value test (set_value test es x) y)) is ∙ ap (λ l. e ∷ l) rest

  -- what holds of a thing under another name still holds, where it passes from the old thing to the new one
  pub still_found : (P : A → Type 0) (other : List ℕ → Bool) (es : List (List ℕ × A)) (x y : A) → lookup test es ≡ Some x → (P x → P y)
      → IsSomeAnd (lookup other es) P → IsSomeAnd (lookup other (set_value test es y)) P
  still_found P other [] x y at passes holds = holds
  still_found P other (e ∷ es) x y at passes holds = by (test e.0) at (still_found P other es x y)
    where
      here : e.1 ≡ x → (b : Bool) → IsSomeAnd (cond b (Some e.1) (lookup other es)) P → IsSomeAnd (cond b (Some y) (lookup other es)) P
      here same true given = passes (subst P same given)
      here same false given = given

      behind : (b : Bool) → IsSomeAnd (cond b (Some e.1) (lookup other es)) P
          → (IsSomeAnd (lookup other es) P → IsSomeAnd (lookup other (set_value test es y)) P)
          → IsSomeAnd (cond b (Some e.1) (lookup other (set_value test es y))) P
      behind true given rest = given
      behind false given rest = rest given

      by : (b : Bool) → cond b (Some e.1) (lookup test es) ≡ Some x
          → (lookup test es ≡ Some x → (P x → P y) → IsSomeAnd (lookup other es) P → IsSomeAnd (lookup other (set_value test es y)) P)
          → IsSomeAnd (lookup other (cond b ((e.0, y) ∷ es) (e ∷ set_value test es y))) P
      by true is rest = let same : e.1 ≡ x = cc in here same (other e.0) holds
      by false is rest = behind (other e.0) holds (rest is passes)

-- where a buffer is put in the place of one that is as long
module _ (buffers : List (List ℕ × List ℕ)) (name old new : List ℕ) (at : under name buffers ≡ Some old) (long : length new ≡ length old) where
  pub over_set : (opened : Opened) → IsOver buffers opened → IsOver (set_value (is_at (slice_cmp nat_cmp name)) buffers new) opened
  over_set opened over =
      still_found (is_at (slice_cmp nat_cmp name)) (λ held. length held ≡ buf_len_in opened.session) (is_at (slice_cmp nat_cmp opened.buffer)) buffers old new at
      (λ is. long ∙ is) over

  all_over_set : (sessions : List (List ℕ × Opened)) → Each (IsOver buffers) sessions
      → Each (IsOver (set_value (is_at (slice_cmp nat_cmp name)) buffers new)) sessions
  all_over_set [] all = tt
  all_over_set (e ∷ es) all = (over_set e.1 all.0, all_over_set es all.1)

  pub holds_set : (sessions : List (List ℕ × Opened)) → HoldsOpen buffers sessions
      → HoldsOpen (set_value (is_at (slice_cmp nat_cmp name)) buffers new) sessions
  holds_set sessions holds = record {
    small =
        each_set IsSmall (is_at (slice_cmp nat_cmp name)) buffers new holds.small
        (subst (λ n. n ≤ 16777216) (sym long) (each_found IsSmall (is_at (slice_cmp nat_cmp name)) buffers old holds.small at));
    over = all_over_set sessions holds.over;
  }

-- where a piece is given to a session, and its buffer stays as long
pub holds_given : (buffers : List (List ℕ × List ℕ)) (sessions : List (List ℕ × Opened)) (name : List ℕ) (opened : Opened) (piece old new : List ℕ)
    → HoldsOpen buffers sessions → under name sessions ≡ Some opened → under opened.buffer buffers ≡ Some old → length new ≡ length old
    → HoldsOpen (set_value (is_at (slice_cmp nat_cmp opened.buffer)) buffers new) (set_value (is_at (slice_cmp nat_cmp name)) sessions (opened_given opened piece))
holds_given buffers sessions name opened piece old new holds found at long =
    let test = is_at (slice_cmp nat_cmp opened.buffer) in
    holds_moved (set_value test buffers new) sessions (is_at (slice_cmp nat_cmp name)) (opened_given opened piece)
    (holds_set buffers opened.buffer old new at long sessions holds)
    (over_given (set_value test buffers new) opened piece (over_set buffers opened.buffer old new at long opened (over_found buffers sessions name opened holds found)))
