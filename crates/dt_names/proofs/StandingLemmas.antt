-- What names stand for, as their handles are made, changed and taken away.
use Rattle.std.proofs.Common.{◌≡◌, ◌≢◌, ℕ, suc, Bool, true, false, cond, ◌||◌, List, [], ◌∷◌, ◌++◌, length, Option, Some, None, IsSome, is_some, IsTrue, Result, Err, IsErrOf, ◌+◌, refl, sym, ap, subst, ◌∙◌, arith}
use Rattle.std.specs.BTreeMap.{is_at, insert_entry}
use Rattle.std.specs.Cmp.Lexicographic.{slice_cmp}
use Rattle.std.specs.declared.cmp.Ordering.{Ordering}
use Rattle.std.specs.declared.cmp.Ordering.TheVariants.{Less, Equal, Greater}
use Rattle.std.specs.List.{AllByRecursion}
use Rattle.std.specs.Map.{lookup, set_value, remove_entry}
use Rattle.std.specs.Option.{option_map}
use Rattle.std.specs.Ordering.{is_eq, match_ordering, nat_cmp}
use Rattle.dt_registry.specs.declared.fault.HandleFault.{HandleFault}
use Rattle.dt_registry.specs.declared.fault.HandleFault.TheVariants.{Stale, Basic}
use Rattle.dt_registry.specs.declared.registry.Handle.{Handle}
use Rattle.dt_registry.specs.declared.registry.Live.{Live}
use Rattle.dt_registry.specs.Registry.{Registry, live_at, live_count, type_at, flag_at, committed, committed_at, is_live_basic, is_basic_at, Changes, Makes, Sets}
use Rattle.dt_type.specs.Basic.{is_basic}
use Rattle.dt_type.specs.declared.datatype.Seen.{Seen}
use Rattle.dt_names.specs.declared.kept.Kept.{Kept}
use Rattle.dt_names.specs.Standing.{Standing, with_name, with_flag, without_name, kept_of, entry_of, standing, AreLive, AreOthers, AreApart, HoldsNames}
use Rattle.dt_names.specs.Names.{under}

abbrev Names : Type 0
Names = List (List ℕ × Handle)

-- what a handle that was found stands for
abbrev kept_at : Registry → Option Handle → Option Kept
kept_at r None = None
kept_at r (Some h) = option_map kept_of (live_at r h)

-- a change of the types whose first name is known
lookup_front : (test : List ℕ → Bool) (name : List ℕ) (live : Option Live) (rest : List (List ℕ × Kept)) → IsSome live
    → lookup test (entry_of name live ++ rest) ≡ cond (test name) (option_map kept_of live) (lookup test rest)
lookup_front test name None rest is = cc
lookup_front test name (Some l) rest is = refl

set_front : (test : List ℕ → Bool) (name : List ℕ) (live : Option Live) (rest : List (List ℕ × Kept)) (w : Kept) → IsSome live
    → set_value test (entry_of name live ++ rest) w ≡ cond (test name) ((name, w) ∷ rest) (entry_of name live ++ set_value test rest w)
set_front test name None rest w is = cc
set_front test name (Some l) rest w is = refl

remove_front : (test : List ℕ → Bool) (name : List ℕ) (live : Option Live) (rest : List (List ℕ × Kept)) → IsSome live
    → remove_entry test (entry_of name live ++ rest) ≡ cond (test name) rest (entry_of name live ++ remove_entry test rest)
remove_front test name None rest is = cc
remove_front test name (Some l) rest is = refl

insert_front : (cmp : List ℕ → List ℕ → Ordering) (first : List ℕ) (live : Option Live) (rest : List (List ℕ × Kept)) (name : List ℕ) (w : Kept) → IsSome live
    → insert_entry cmp (entry_of first live ++ rest) name w
    ≡ match_ordering (cmp name first) ((name, w) ∷ (entry_of first live ++ rest)) ((first, w) ∷ rest) (entry_of first live ++ insert_entry cmp rest name w)
insert_front cmp first None rest name w is = cc
insert_front cmp first (Some l) rest name w is = refl

length_front : (name : List ℕ) (live : Option Live) (rest : List (List ℕ × Kept)) (n : ℕ) → IsSome live → length rest ≡ n
    → length (entry_of name live ++ rest) ≡ suc n
length_front name None rest n is same = cc
length_front name (Some l) rest n is same = ap (λ m. suc m) same

-- a look-up among the types is one among the names
found_first : (r : Registry) (b : Bool) (h : Handle) (o : Option Handle) (rest : Option Kept) → rest ≡ kept_at r o
    → cond b (option_map kept_of (live_at r h)) rest ≡ kept_at r (cond b (Some h) o)
found_first r true h o rest is = refl
found_first r false h o rest is = is

lookup-standing : (test : List ℕ → Bool) (r : Registry) (names : Names) → AreLive r names
    → lookup test (standing r names) ≡ kept_at r (lookup test names)
lookup-standing test r [] live = refl
lookup-standing test r (e ∷ es) live =
    lookup_front test e.0 (live_at r e.1) (standing r es) live.0
    ∙ found_first r (test e.0) e.1 (lookup test es) (lookup test (standing r es)) (lookup-standing test r es live.1)

length-standing : (r : Registry) (names : Names) → AreLive r names → length (standing r names) ≡ length names
length-standing r [] live = refl
length-standing r (e ∷ es) live = length_front e.0 (live_at r e.1) (standing r es) (length es) live.0 (length-standing r es live.1)

-- what holds of each handle holds of one that is found
at_found : (P : Handle → Type 0) (test : List ℕ → Bool) (names : Names) (h : Handle) → AllByRecursion (λ e. P e.1) names → lookup test names ≡ Some h → P h
at_found P test [] h all at = cc
at_found P test (e ∷ es) h all at = by (test e.0) at (at_found P test es h all.1)
  where
    by : (b : Bool) → cond b (Some e.1) (lookup test es) ≡ Some h → (lookup test es ≡ Some h → P h) → P h
    by true is rest = let same : e.1 ≡ h = cc in subst P same all.0
    by false is rest = rest is

-- what isn't live is the handle of none
others_where_live : (r : Registry) (h : Handle) (names : Names) → live_at r h ≡ None → AreLive r names → AreOthers h names
others_where_live r h [] none live = tt
others_where_live r h (e ∷ es) none live =
    let here : is_some (live_at r e.1) ≡ true = live.0 in
    let differs : e.1 ≢ h = λ same. cc in
    (differs, others_where_live r h es none live.1)

-- a name more
others_insert : (cmp : List ℕ → List ℕ → Ordering) (other : Handle) (names : Names) (name : List ℕ) (h : Handle) → AreOthers other names → h ≢ other
    → AreOthers other (insert_entry cmp names name h)
others_insert cmp other [] name h others differs = (differs, tt)
others_insert cmp other (e ∷ es) name h others differs = by (cmp name e.0) (others_insert cmp other es name h others.1 differs)
  where
    by : (o : Ordering) → AreOthers other (insert_entry cmp es name h)
        → AreOthers other (match_ordering o ((name, h) ∷ e ∷ es) ((e.0, h) ∷ es) (e ∷ insert_entry cmp es name h))
    by Less rest = (differs, others)
    by Equal rest = (differs, others.1)
    by Greater rest = (others.0, rest)

apart_insert : (cmp : List ℕ → List ℕ → Ordering) (names : Names) (name : List ℕ) (h : Handle) → AreOthers h names → AreApart names
    → AreApart (insert_entry cmp names name h)
apart_insert cmp [] name h others apart = (tt, tt)
apart_insert cmp (e ∷ es) name h others apart = by (cmp name e.0) (apart_insert cmp es name h others.1 apart.1)
  where
    by : (o : Ordering) → AreApart (insert_entry cmp es name h)
        → AreApart (match_ordering o ((name, h) ∷ e ∷ es) ((e.0, h) ∷ es) (e ∷ insert_entry cmp es name h))
    by Less rest = (others, apart)
    by Equal rest = (others.1, apart.1)
    by Greater rest = (others_insert cmp e.1 es name h apart.0 (λ same. others.0 (sym same)), rest)

live_insert : (cmp : List ℕ → List ℕ → Ordering) (r : Registry) (names : Names) (name : List ℕ) (h : Handle) → AreLive r names → IsSome (live_at r h)
    → AreLive r (insert_entry cmp names name h)
live_insert cmp r [] name h live is = (is, tt)
live_insert cmp r (e ∷ es) name h live is = by (cmp name e.0) (live_insert cmp r es name h live.1 is)
  where
    by : (o : Ordering) → AreLive r (insert_entry cmp es name h)
        → AreLive r (match_ordering o ((name, h) ∷ e ∷ es) ((e.0, h) ∷ es) (e ∷ insert_entry cmp es name h))
    by Less rest = (is, live)
    by Equal rest = (is, live.1)
    by Greater rest = (live.0, rest)

-- a name less
all_removed : (P : List ℕ × Handle → Type 0) (test : List ℕ → Bool) (names : Names) → AllByRecursion P names → AllByRecursion P (remove_entry test names)
all_removed P test [] all = tt
all_removed P test (e ∷ es) all = by (test e.0) (all_removed P test es all.1)
  where
    by : (b : Bool) → AllByRecursion P (remove_entry test es) → AllByRecursion P (cond b es (e ∷ remove_entry test es))
    by true rest = all.1
    by false rest = (all.0, rest)

apart_remove : (test : List ℕ → Bool) (names : Names) → AreApart names → AreApart (remove_entry test names)
apart_remove test [] apart = tt
apart_remove test (e ∷ es) apart = by (test e.0) (apart_remove test es apart.1)
  where
    by : (b : Bool) → AreApart (remove_entry test es) → AreApart (cond b es (e ∷ remove_entry test es))
    by true rest = apart.1
    by false rest = (all_removed (λ other. other.1 ≢ e.1) test es apart.0, rest)

-- one name more, and one less
length_inserted : (cmp : List ℕ → List ℕ → Ordering) (names : Names) (name : List ℕ) (h : Handle) → lookup (is_at (cmp name)) names ≡ None
    → length (insert_entry cmp names name h) ≡ length names + 1
length_inserted cmp [] name h none = refl
length_inserted cmp (e ∷ es) name h none = by (cmp name e.0) none (length_inserted cmp es name h)
  where
    by : (o : Ordering) → cond (is_eq o) (Some e.1) (lookup (is_at (cmp name)) es) ≡ None
        → (lookup (is_at (cmp name)) es ≡ None → length (insert_entry cmp es name h) ≡ length es + 1)
        → length (match_ordering o ((name, h) ∷ e ∷ es) ((e.0, h) ∷ es) (e ∷ insert_entry cmp es name h)) ≡ length (e ∷ es) + 1
    by Less is rest = omega arith
    by Equal is rest = cc
    by Greater is rest = let more = rest is in omega (arith, more)

length_removed : (test : List ℕ → Bool) (names : Names) (h : Handle) → lookup test names ≡ Some h → length (remove_entry test names) + 1 ≡ length names
length_removed test [] h at = cc
length_removed test (e ∷ es) h at = by (test e.0) at (length_removed test es h)
  where
    by : (b : Bool) → cond b (Some e.1) (lookup test es) ≡ Some h → (lookup test es ≡ Some h → length (remove_entry test es) + 1 ≡ length es)
        → length (cond b es (e ∷ remove_entry test es)) + 1 ≡ length (e ∷ es)
    by true is rest = omega arith
    by false is rest = let less = rest is in omega (arith, less)

-- the name that has a handle is the only one
others_removed : (test : List ℕ → Bool) (names : Names) (h : Handle) → AreApart names → lookup test names ≡ Some h → AreOthers h (remove_entry test names)
others_removed test [] h apart at = tt
others_removed test (e ∷ es) h apart at = by (test e.0) at (others_removed test es h apart.1)
  where
    by : (b : Bool) → cond b (Some e.1) (lookup test es) ≡ Some h → (lookup test es ≡ Some h → AreOthers h (remove_entry test es))
        → AreOthers h (cond b es (e ∷ remove_entry test es))
    by true is rest = let same : e.1 ≡ h = cc in subst (λ h. AreOthers h es) same apart.0
    by false is rest = let differs = at_found (λ other. other ≢ e.1) test es h apart.0 is in (λ same. differs (sym same), rest is)

-- a change at one handle
module _ (old new : Registry) (h : Handle) (to : Option Live) (changes : Changes old new h to) where
  standing_others : (names : Names) → AreOthers h names → standing new names ≡ standing old names
  standing_others [] others = refl
  standing_others (e ∷ es) others =
      let here : live_at new e.1 ≡ live_at old e.1 = changes.others e.1 others.0 in
      let rest = standing_others es others.1 in
      ap (λ live. entry_of e.0 live ++ standing new es) here ∙ ap (λ entries. entry_of e.0 (live_at old e.1) ++ entries) rest

  live_others : (names : Names) → AreOthers h names → AreLive old names → AreLive new names
  live_others [] others live = tt
  live_others (e ∷ es) others live = (subst (λ o. IsSome o) (sym (changes.others e.1 others.0)) live.0, live_others es others.1 live.1)

  live_changed : (test : List ℕ → Bool) (names : Names) → IsSome to → AreApart names → AreLive old names → lookup test names ≡ Some h → AreLive new names
  live_changed test [] is apart live at = tt
  live_changed test (e ∷ es) is apart live at = by (test e.0) at (live_changed test es is apart.1 live.1)
    where
      by : (b : Bool) → cond b (Some e.1) (lookup test es) ≡ Some h → (lookup test es ≡ Some h → AreLive new es) → AreLive new (e ∷ es)
      by true found rest =
          let same : e.1 ≡ h = cc in
          let here : IsSome (live_at new h) = subst (λ o. IsSome o) (sym changes.changed) is in
          (subst (λ h. IsSome (live_at new h)) (sym same) here, live_others es (subst (λ h. AreOthers h es) same apart.0) live.1)
      by false found rest =
          let differs = at_found (λ other. other ≢ e.1) test es h apart.0 found in
          (subst (λ o. IsSome o) (sym (changes.others e.1 (λ same. differs (sym same)))) live.0, rest found)

  standing_removed : (test : List ℕ → Bool) (names : Names) → AreApart names → AreLive old names → lookup test names ≡ Some h
      → standing new (remove_entry test names) ≡ remove_entry test (standing old names)
  standing_removed test [] apart live at = refl
  standing_removed test (e ∷ es) apart live at =
      by (test e.0) at (standing_removed test es apart.1 live.1) ∙ sym (remove_front test e.0 (live_at old e.1) (standing old es) live.0)
    where
      by : (b : Bool) → cond b (Some e.1) (lookup test es) ≡ Some h
          → (lookup test es ≡ Some h → standing new (remove_entry test es) ≡ remove_entry test (standing old es))
          → standing new (cond b es (e ∷ remove_entry test es)) ≡ cond b (standing old es) (entry_of e.0 (live_at old e.1) ++ remove_entry test (standing old es))
      by true found rest = let same : e.1 ≡ h = cc in standing_others es (subst (λ h. AreOthers h es) same apart.0)
      by false found rest =
          let differs = at_found (λ other. other ≢ e.1) test es h apart.0 found in
          let here : live_at new e.1 ≡ live_at old e.1 = changes.others e.1 (λ same. differs (sym same)) in
          ap (λ o. entry_of e.0 o ++ standing new (remove_entry test es)) here ∙ ap (λ entries. entry_of e.0 (live_at old e.1) ++ entries) (rest found)

-- a handle that stands for something else now, or for the first time
module _ (old new : Registry) (h : Handle) (to : Live) (changes : Changes old new h (Some to)) where
  standing_set : (test : List ℕ → Bool) (names : Names) → AreApart names → AreLive old names → lookup test names ≡ Some h
      → standing new names ≡ set_value test (standing old names) (kept_of to)
  standing_set test [] apart live at = refl
  standing_set test (e ∷ es) apart live at =
      by (test e.0) at (standing_set test es apart.1 live.1) ∙ sym (set_front test e.0 (live_at old e.1) (standing old es) (kept_of to) live.0)
    where
      by : (b : Bool) → cond b (Some e.1) (lookup test es) ≡ Some h
          → (lookup test es ≡ Some h → standing new es ≡ set_value test (standing old es) (kept_of to))
          → standing new (e ∷ es) ≡ cond b ((e.0, kept_of to) ∷ standing old es) (entry_of e.0 (live_at old e.1) ++ set_value test (standing old es) (kept_of to))
      by true found rest =
          let same : e.1 ≡ h = cc in
          let here : live_at new e.1 ≡ Some to = ap (live_at new) same ∙ changes.changed in
          ap (λ o. entry_of e.0 o ++ standing new es) here
          ∙ ap (λ entries. (e.0, kept_of to) ∷ entries) (standing_others old new h (Some to) changes es (subst (λ h. AreOthers h es) same apart.0))
      by false found rest =
          let differs = at_found (λ other. other ≢ e.1) test es h apart.0 found in
          let here : live_at new e.1 ≡ live_at old e.1 = changes.others e.1 (λ same. differs (sym same)) in
          ap (λ o. entry_of e.0 o ++ standing new es) here ∙ ap (λ entries. entry_of e.0 (live_at old e.1) ++ entries) (rest found)

  standing_inserted : (cmp : List ℕ → List ℕ → Ordering) (names : Names) (name : List ℕ) → AreOthers h names → AreLive old names
      → standing new (insert_entry cmp names name h) ≡ insert_entry cmp (standing old names) name (kept_of to)
  standing_inserted cmp [] name others live = ap (λ o. entry_of name o ++ []) changes.changed
  standing_inserted cmp (e ∷ es) name others live =
      by (cmp name e.0) (standing_inserted cmp es name others.1 live.1)
      ∙ sym (insert_front cmp e.0 (live_at old e.1) (standing old es) name (kept_of to) live.0)
    where
      by : (o : Ordering) → standing new (insert_entry cmp es name h) ≡ insert_entry cmp (standing old es) name (kept_of to)
          → standing new (match_ordering o ((name, h) ∷ e ∷ es) ((e.0, h) ∷ es) (e ∷ insert_entry cmp es name h))
          ≡ match_ordering o ((name, kept_of to) ∷ (entry_of e.0 (live_at old e.1) ++ standing old es)) ((e.0, kept_of to) ∷ standing old es)
          (entry_of e.0 (live_at old e.1) ++ insert_entry cmp (standing old es) name (kept_of to))
      by Less rest =
          ap (λ o. entry_of name o ++ standing new (e ∷ es)) changes.changed
          ∙ ap (λ entries. (name, kept_of to) ∷ entries) (standing_others old new h (Some to) changes (e ∷ es) others)
      by Equal rest =
          ap (λ o. entry_of e.0 o ++ standing new es) changes.changed
          ∙ ap (λ entries. (e.0, kept_of to) ∷ entries) (standing_others old new h (Some to) changes es others.1)
      by Greater rest =
          ap (λ o. entry_of e.0 o ++ standing new (insert_entry cmp es name h)) (changes.others e.1 others.0)
          ∙ ap (λ entries. entry_of e.0 (live_at old e.1) ++ entries) rest

-- what a live handle stands for
some_of : (o : Option Live) → IsSome o → (live : Live) × (o ≡ Some live)
some_of None is = absurd (let contrary : ⊥ = cc in contrary)
some_of (Some live) is = (live, refl)

-- a handle that was found stands for something where it is live
is_some-kept : (r : Registry) (o : Option Handle) → ((h : Handle) → o ≡ Some h → IsSome (live_at r h)) → is_some o ≡ is_some (kept_at r o)
is_some-kept r None live = refl
is_some-kept r (Some h) live = let l = some_of (live_at r h) (live h refl) in sym (ap (λ o. is_some (option_map kept_of o)) l.1)

-- a type and its flag together
kept_parts : (live : Option Live) (ty : Seen) (flag : Bool) → option_map (λ (l : Live). l.ty) live ≡ Some ty → option_map (λ (l : Live). l.committed) live ≡ Some flag
    → option_map kept_of live ≡ Some (record { ty = ty; committed = flag })
kept_parts None ty flag t f = cc
kept_parts (Some l) ty flag t f = cc

kept_none : (live : Option Live) → option_map (λ (l : Live). l.ty) live ≡ None → option_map kept_of live ≡ None
kept_none None t = refl
kept_none (Some l) t = cc

-- a fault that is neither isn't there
pub no_fault : {T : Type 0} (result : Result T HandleFault) (fault : HandleFault) → result ≡ Err fault → ¬ IsErrOf result Stale → ¬ IsErrOf result Basic → ⊥
no_fault result Stale is stale basic = stale is
no_fault result Basic is stale basic = basic is

-- a name that isn't there
remove_absent : {X : Type 0} (test : List ℕ → Bool) (es : List (List ℕ × X)) → lookup test es ≡ None → remove_entry test es ≡ es
remove_absent test [] at = refl
remove_absent test (e ∷ es) at = by (test e.0) at (remove_absent test es)
  where
    by : (b : Bool) → cond b (Some e.1) (lookup test es) ≡ None → (lookup test es ≡ None → remove_entry test es ≡ es) → cond b es (e ∷ remove_entry test es) ≡ e ∷ es
    by true is rest = cc
    by false is rest = ap (λ l. e ∷ l) (rest is)

-- a basic type is committed whatever is said, so what is made is what was asked for
pub kept_said : (serial : ℕ) (kept : Kept) → (is_basic kept.ty ≡ true → kept.committed ≡ true)
    → kept_of (record { serial = serial; ty = kept.ty; committed = is_basic kept.ty || kept.committed }) ≡ kept
kept_said serial kept basic = ap (λ flag. let k : Kept = record { ty = kept.ty; committed = flag } in k) (by (is_basic kept.ty) basic)
  where
    by : (b : Bool) → (b ≡ true → kept.committed ≡ true) → (b || kept.committed) ≡ kept.committed
    by true is = sym (is refl)
    by false is = refl

-- what isn't some is none
none_of_some : {A : Type 0} (o : Option A) → ¬ IsSome o → o ≡ None
none_of_some None nothing = refl
none_of_some (Some x) nothing = absurd (nothing refl)

abbrev flagged : Kept → Kept
flagged kept = record { ty = kept.ty; committed = true }

-- what is seen of a registry and its names
abbrev pub seen : Registry → Names → Standing
seen r names = record { entries = standing r names; made = r.made }

-- the order of names
abbrev pub order : List ℕ → List ℕ → Ordering
order = slice_cmp nat_cmp

pub length-names : {r : Registry} {names : Names} {s : Standing} → HoldsNames r names → seen r names ≡ s → length names ≡ length s.entries
length-names {r = r} {names = names} holds is = sym (length-standing r names holds.live) ∙ ap (λ (s : Standing). length s.entries) is

-- what stands under a name, and what a change makes of it
module _ {r : Registry} {names : Names} {s : Standing} (holds : HoldsNames r names) (is : seen r names ≡ s) (name : List ℕ) where
  abbrev test : List ℕ → Bool
  test = is_at (order name)

  live_found : (h : Handle) → under name names ≡ Some h → IsSome (live_at r h)
  live_found h at = at_found (λ h. IsSome (live_at r h)) test names h holds.live at

  under_is : under name s.entries ≡ kept_at r (under name names)
  under_is = sym (ap (λ (s : Standing). under name s.entries) is) ∙ lookup-standing test r names holds.live

  pub is_some-under : is_some (under name names) ≡ is_some (under name s.entries)
  is_some-under = is_some-kept r (under name names) live_found ∙ sym (ap (λ (o : Option Kept). is_some o) under_is)

  pub with_made : (new : Registry) (h : Handle) (live : Live) (kept : Kept) (after : Names) → Makes r new h live → kept_of live ≡ kept
      → after ≡ insert_entry order names name h → seen new after ≡ with_name s name kept
  with_made new h live kept after makes same inserts =
      let others = others_where_live r h names makes.was_free holds.live in
      let entries = standing_inserted r new h live makes.changes order names name others holds.live in
      let made = makes.made in
      cc

  pub absent_under : under name s.entries ≡ None → ¬ IsSome (under name names)
  absent_under none some = let same = is_some-under in cc

  pub holds_made : (new : Registry) (h : Handle) (live : Live) (after : Names) → Makes r new h live → live_count new ≡ live_count r + 1
      → under name s.entries ≡ None → after ≡ insert_entry order names name h → HoldsNames new after
  holds_made new h live after makes counts free inserts =
      let others = others_where_live r h names makes.was_free holds.live in
      let here : IsSome (live_at new h) = ap (λ (o : Option Live). is_some o) makes.changes.changed in
      let holds_new : HoldsNames new (insert_entry order names name h) = record {
        live = live_insert order new names name h (live_others r new h (Some live) makes.changes names others holds.live) here;
        apart = apart_insert order names name h others holds.apart;
        whole = counts ∙ ap (λ n. n + 1) holds.whole ∙ sym (length_inserted order names name h (none_of_some (under name names) (absent_under free)));
      } in
      subst (HoldsNames new) (sym inserts) holds_new

  pub none_under : under name names ≡ None → under name s.entries ≡ None
  none_under none = under_is ∙ ap (kept_at r) none

  pub without_none : under name names ≡ None → seen r names ≡ without_name s name
  without_none none =
      let stay : remove_entry test s.entries ≡ s.entries = remove_absent test s.entries (none_under none) in
      is ∙ ap (λ entries. let t : Standing = record { entries = entries; made = s.made } in t) (sym stay)

  -- where a handle was found
  module _ (h : Handle) (at : under name names ≡ Some h) where
    pub live_under : IsSome (live_at r h)
    live_under = live_found h at

    pub stale_not : ¬ (live_at r h ≡ None)
    stale_not none = let some : is_some (live_at r h) ≡ true = live_under in cc

    kept_under : under name s.entries ≡ option_map kept_of (live_at r h)
    kept_under = under_is ∙ ap (kept_at r) at

    pub get_none : type_at r h ≡ None → under name s.entries ≡ None
    get_none none = kept_under ∙ kept_none (live_at r h) none

    pub get_some : (ty : Seen) (flag : Bool) → type_at r h ≡ Some ty → flag_at r h ≡ Some flag → under name s.entries ≡ Some (record { ty = ty; committed = flag })
    get_some ty flag t f = kept_under ∙ kept_parts (live_at r h) ty flag t f

    pub not_basic : ((kept : Kept) → under name s.entries ≡ Some kept → is_basic kept.ty ≡ false) → ¬ IsTrue (is_basic_at r h)
    not_basic plain basic =
        let live = some_of (live_at r h) live_under in
        let no = plain (kept_of live.0) (kept_under ∙ ap (option_map kept_of) live.1) in
        let same : is_basic_at r h ≡ is_basic live.0.ty = ap (λ (o : Option Live). is_live_basic (option_map (λ (l : Live). l.ty) o)) live.1 in
        cc

    pub with_set : (new : Registry) (kept : Kept) → Sets r new h (committed_at r h) → under name s.entries ≡ Some kept → seen new names ≡ with_flag s name kept
    with_set new kept sets stands =
        let live = some_of (live_at r h) live_under in
        let to : committed_at r h ≡ Some (committed live.0) = ap (option_map committed) live.1 in
        let changes : Changes r new h (Some (committed live.0)) = subst (λ to. Changes r new h to) to sets.changes in
        let entries = standing_set r new h (committed live.0) changes test names holds.apart holds.live at in
        let both : Some (kept_of live.0) ≡ Some kept = sym (ap (option_map kept_of) live.1) ∙ sym kept_under ∙ stands in
        let same : kept_of live.0 ≡ kept = cc in
        let value : kept_of (committed live.0) ≡ record { ty = kept.ty; committed = true } = ap flagged same in
        let stand : standing r names ≡ s.entries = ap (λ (s : Standing). s.entries) is in
        let made : new.made ≡ s.made = sets.made ∙ ap (λ (s : Standing). s.made) is in
        let all : standing new names ≡ set_value test s.entries (record { ty = kept.ty; committed = true }) =
        entries ∙ ap (λ es. set_value test es (kept_of (committed live.0))) stand ∙ ap (set_value test s.entries) value in
        cc

    pub holds_set : (new : Registry) → Sets r new h (committed_at r h) → live_count new ≡ live_count r → HoldsNames new names
    holds_set new sets counts =
        let live = some_of (live_at r h) live_under in
        let some : IsSome (committed_at r h) = ap (λ (o : Option Live). is_some (option_map committed o)) live.1 in
        record {
          live = live_changed r new h (committed_at r h) sets.changes test names some holds.apart holds.live at;
          apart = holds.apart;
          whole = counts ∙ holds.whole;
        }

    pub without : (new : Registry) → Sets r new h None → seen new (remove_entry test names) ≡ without_name s name
    without new sets =
        let entries = standing_removed r new h None sets.changes test names holds.apart holds.live at in
        let stand : standing r names ≡ s.entries = ap (λ (s : Standing). s.entries) is in
        let made : new.made ≡ s.made = sets.made ∙ ap (λ (s : Standing). s.made) is in
        let all : standing new (remove_entry test names) ≡ remove_entry test s.entries = entries ∙ ap (remove_entry test) stand in
        cc

    pub holds_removed : (new : Registry) → Sets r new h None → live_count r ≡ live_count new + 1 → HoldsNames new (remove_entry test names)
    holds_removed new sets counts = record {
      live = live_others r new h None sets.changes (remove_entry test names) (others_removed test names h holds.apart at)
          (all_removed (λ e. IsSome (live_at r e.1)) test names holds.live);
      apart = apart_remove test names holds.apart;
      whole = let less = length_removed test names h at in let all = holds.whole in omega (arith, counts, less, all);
    }
