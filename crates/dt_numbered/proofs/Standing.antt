-- Numbers that are given and taken away again.
use Rattle.std.specs.Prelude.{◌≡◌, ◌≢◌, ◌⊎◌, Bool, cond, ℕ, ◌-◌, ◌+◌, ◌<◌, ◌≤◌, true, false, Some, None, List, [], ◌∷◌, ◌++◌, take, get_or, length, Result, Ok, Err}
use Rattle.std.proofs.Common.{refl, sym, ap, subst, ◌∙◌, inl, inr, arith}
use Rattle.std.proofs.lemmas.Bool.{cases_eq}
use Rattle.std.proofs.lemmas.List.{take_more}
use Rattle.std.proofs.lemmas.List.Sums.{sum_by-cons, sum_by_push, sum_by-take-le}
use Rattle.std.specs.List.{sum_by}
use Rattle.std.specs.Option.{option_map, IsSomeAnd}
use Rattle.dt_type.specs.Basic.{is_basic}
use Rattle.dt_type.specs.declared.datatype.Seen.{Seen}
use Rattle.dt_space.specs.declared.fault.SpaceFault.{SpaceFault}
use Rattle.dt_space.specs.declared.fault.SpaceFault.TheVariants.{NoSuchType, Basic, Spent, NoMemory}
use Rattle.dt_space.specs.declared.number.Kept.{Kept}
use Rattle.dt_space.specs.declared.number.TypeNumber.{TypeNumber}
use Rattle.dt_space.specs.Live.{IsFreeAnswer, IsFreeRefusal, new_kept}
use Rattle.dt_space.specs.Space.{Space, kept_at}
use Rattle.dt_numbered.specs.Numbering.{Numbers, IsUnnumbered}
use Rattle.dt_numbered.specs.Olds.{AreNumbered, StandsAs, IsOut, numbers_for}

no : {P : Type 0} (b : Bool) → b ≡ true → b ≡ false → P
no b on off = absurd (let e : true ≡ false = sym on ∙ off in cc)

pub stands_same : (s : Space) → StandsAs s s
stands_same s = record { types = λ n. refl; sessions = refl; begun = refl }

pub stands_on : (a b c : Space) → StandsAs a b → StandsAs b c → StandsAs a c
stands_on a b c one two = record { types = λ n. two.types n ∙ one.types n; sessions = two.sessions ∙ one.sessions; begun = two.begun ∙ one.begun }

-- one that was given and stands is taken away, unless it is that of a basic type
free_refused : {P : Type 0} (cur : Space) (n : TypeNumber) (ty : Seen) (fault : SpaceFault) → kept_at cur n ≡ Some (new_kept ty) → is_basic ty ≡ false → IsFreeRefusal cur n fault → P
free_refused cur n ty NoSuchType at derived refused = absurd (let e : Some (new_kept ty) ≡ None = sym at ∙ refused in cc)
free_refused cur n ty Basic at derived refused =
    no (is_basic ty) (subst (λ o. IsSomeAnd (option_map (λ (kept : Kept). kept.ty) o) (λ t. is_basic t ≡ true)) at refused) derived
free_refused cur n ty fault at derived refused = absurd refused

same_number : (m n : TypeNumber) → (m ≡ n) ⊎ (m ≢ n)
same_number m n = by (cases_eq m.slot n.slot) (cases_eq m.serial n.serial)
  where
    by : (m.slot ≡ n.slot) ⊎ (m.slot ≢ n.slot) → (m.serial ≡ n.serial) ⊎ (m.serial ≢ n.serial) → (m ≡ n) ⊎ (m ≢ n)
    by (inl slot) (inl serial) = inl (ap (λ k. record { slot = k; serial = m.serial }) slot ∙ ap (λ k. record { slot = n.slot; serial = k }) serial)
    by (inl slot) (inr other) = inr (λ same. other (ap (λ (k : TypeNumber). k.serial) same))
    by (inr other) serial = inr (λ same. other (ap (λ (k : TypeNumber). k.slot) same))

pub taken_back : (s t cur new : Space) (n : TypeNumber) (ty : Seen) (r : Result (Unit {0}) SpaceFault) → IsFreeAnswer cur new n r → Numbers s t n ty → StandsAs t cur → StandsAs s new
taken_back s t cur new n ty (Ok done) frees (inl basic) held =
    let at : kept_at cur n ≡ Some (new_kept ty) = held.types n ∙ (ap (λ x. kept_at x n) basic.same ∙ basic.stands) in
    no (is_basic ty) basic.basic (subst (λ o. IsSomeAnd (option_map (λ (kept : Kept). kept.ty) o) (λ u. is_basic u ≡ false)) at frees.stood)
taken_back s t cur new n ty (Err fault) refused (inl basic) held = record {
  types = λ m. ap (λ x. kept_at x m) refused.0 ∙ (held.types m ∙ ap (λ x. kept_at x m) basic.same);
  sessions = ap (λ (x : Space). x.sessions) refused.0 ∙ (held.sessions ∙ ap (λ (x : Space). x.sessions) basic.same);
  begun = ap (λ (x : Space). x.begun) refused.0 ∙ (held.begun ∙ ap (λ (x : Space). x.begun) basic.same);
}
taken_back s t cur new n ty (Ok done) frees (inr fresh) held = record {
  types = λ m. by m (same_number m n);
  sessions = frees.changes.sessions ∙ (held.sessions ∙ fresh.adds.changes.sessions);
  begun = frees.changes.begun ∙ (held.begun ∙ fresh.adds.changes.begun);
}
  where
    by : (m : TypeNumber) → (m ≡ n) ⊎ (m ≢ n) → kept_at new m ≡ kept_at s m
    by m (inl same) = ap (kept_at new) same ∙ (frees.changes.changed ∙ (sym fresh.adds.was_free ∙ sym (ap (kept_at s) same)))
    by m (inr other) = frees.changes.others m other ∙ (held.types m ∙ fresh.adds.changes.others m other)
taken_back s t cur new n ty (Err fault) refused (inr fresh) held = free_refused cur n ty fault (held.types n ∙ fresh.adds.changes.changed) fresh.derived refused.1

-- one more datatype with its number
numbered-append : (old s new : Space) (ts : List Seen) (ns : List TypeNumber) (t : Seen) (n : TypeNumber) → AreNumbered old s ts ns → Numbers s new n t → AreNumbered old new (ts ++ t ∷ []) (ns ++ n ∷ [])
numbered-append old s new [] [] t n all one = (new, subst (λ x. Numbers x new n t) all one, refl)
numbered-append old s new (u ∷ ts) (m ∷ ns) t n all one = (all.0, all.1, numbered-append all.0 s new ts ns t n all.2 one)
numbered-append old s new [] (m ∷ ns) t n all one = absurd all
numbered-append old s new (u ∷ ts) [] t n all one = absurd all

-- the last one less
pub record IsBefore (old s : Space) (ns : List TypeNumber) (n : TypeNumber) : Type 0 where
  pub before : Space
  pub types : List Seen
  pub ty : Seen
  pub numbered : AreNumbered old before types ns
  pub last : Numbers before s n ty

pub numbered_less : (old s : Space) (ts : List Seen) (ns : List TypeNumber) (n : TypeNumber) → AreNumbered old s ts (ns ++ n ∷ []) → IsBefore old s ns n
numbered_less old s [] [] n all = absurd all
numbered_less old s [] (m ∷ ns) n all = absurd all
numbered_less old s (t ∷ []) [] n all = record { before = old; types = []; ty = t; numbered = refl; last = subst (λ x. Numbers old x n t) (sym all.2) all.1 }
numbered_less old s (t ∷ u ∷ ts) [] n all = absurd all.2
numbered_less old s (t ∷ ts) (m ∷ ns) n all =
    let less = numbered_less all.0 s ts ns n all.2 in
    record { before = less.before; types = t ∷ less.types; ty = less.ty; numbered = (all.0, all.1, less.numbered); last = less.last }

abbrev needs : Seen → ℕ
needs t = cond (is_basic t) 0 1

-- as many numbers are made as the datatypes need
pub numbered_made : (old s : Space) (ts : List Seen) (ns : List TypeNumber) → AreNumbered old s ts ns → s.types.made ≡ old.types.made + numbers_for ts
numbered_made old s [] [] all = let e : s.types.made ≡ old.types.made = ap (λ (x : Space). x.types.made) all in omega (arith, e)
numbered_made old s [] (n ∷ ns) all = absurd all
numbered_made old s (t ∷ ts) [] all = absurd all
numbered_made old s (t ∷ ts) (n ∷ ns) all =
    let rest = numbered_made all.0 s ts ns all.2 in let one = made_by old all.0 n t all.1 in omega (arith, rest, one, sum_by-cons needs t ts)
  where
    made_by : (a b : Space) (m : TypeNumber) (u : Seen) → Numbers a b m u → b.types.made ≡ a.types.made + needs u
    made_by a b m u (inl basic) =
        let e : b.types.made ≡ a.types.made = ap (λ (x : Space). x.types.made) basic.same in let none : needs u ≡ 0 = ap (λ k. cond k 0 1) basic.basic in omega (arith, e, none)
    made_by a b m u (inr fresh) = let e = fresh.adds.made in let one : needs u ≡ 1 = ap (λ k. cond k 0 1) fresh.derived in omega (arith, e, one)

-- numbers of which the last ones were taken away again: each stands for what it did before these were given
pub record IsReached (s cur : Space) (ns : List TypeNumber) (left : ℕ) : Type 0 where
  pub before : Space
  pub types : List Seen
  pub numbered : AreNumbered s before types (take left ns)
  pub same : StandsAs before cur

pub reached_less : (s cur new : Space) (ns : List TypeNumber) (left : ℕ) (d : TypeNumber) → 0 < left → left ≤ length ns
    → ((b t : Space) (ty : Seen) → Numbers b t (get_or ns (left - 1) d) ty → StandsAs t cur → StandsAs b new) → IsReached s cur ns left → IsReached s new ns (left - 1)
reached_less s cur new ns left d some inside step reached =
    let more : left ≡ left - 1 + 1 = omega (arith, some) in
    let whole : take left ns ≡ take (left - 1) ns ++ get_or ns (left - 1) d ∷ [] = ap (λ k. take k ns) more ∙ take_more ns (left - 1) d (omega (arith, some, inside)) in
    let less = numbered_less s reached.before reached.types (take (left - 1) ns) (get_or ns (left - 1) d) (subst (AreNumbered s reached.before reached.types) whole reached.numbered) in
    record { before = less.before; types = less.types; numbered = less.numbered; same = step less.before reached.before less.ty less.last reached.same }

first_one : (s before cur : Space) (ts : List Seen) → AreNumbered s before ts [] → StandsAs before cur → StandsAs s cur
first_one s before cur [] all same = subst (λ x. StandsAs x cur) all same
first_one s before cur (t ∷ ts) all same = absurd all

pub reached_all : (s cur : Space) (ns : List TypeNumber) (left : ℕ) → left ≡ 0 → IsReached s cur ns left → StandsAs s cur
reached_all s cur ns left none reached =
    first_one s reached.before cur reached.types (subst (λ k. AreNumbered s reached.before reached.types (take k ns)) none reached.numbered) reached.same

-- one datatype more has its number
pub numbered_more : (old s new : Space) (ts : List Seen) (ns ms : List TypeNumber) (k : ℕ) (d : Seen) (n : TypeNumber) → k < length ts → AreNumbered old s (take k ts) (take k ns)
    → Numbers s new n (get_or ts k d) → take (k + 1) ms ≡ take k ns ++ n ∷ [] → AreNumbered old new (take (k + 1) ts) (take (k + 1) ms)
numbered_more old s new ts ns ms k d n inside all one put =
    subst (AreNumbered old new (take (k + 1) ts)) (sym put)
    (subst (λ us. AreNumbered old new us (take k ns ++ n ∷ [])) (sym (take_more ts k d inside)) (numbered-append old s new (take k ts) (take k ns) (get_or ts k d) n all one))

-- too few numbers are left for all where none is left for one of them
pub out_of : (old s : Space) (ts : List Seen) (ns : List TypeNumber) (k : ℕ) (d : Seen) (fault : SpaceFault) → k < length ts → AreNumbered old s (take k ts) ns
    → IsUnnumbered s (get_or ts k d) fault → IsOut old ts fault
out_of old s ts ns k d Spent inside all full =
    let made = numbered_made old s (take k ts) ns all in
    let one : needs (get_or ts k d) ≡ 1 = ap (λ b. cond b 0 1) full.0 in
    let more : sum_by needs (take (k + 1) ts) ≡ numbers_for (take k ts) + needs (get_or ts k d) = ap (sum_by needs) (take_more ts k d inside) ∙ sum_by_push needs (take k ts) (get_or ts k d) in
    omega (arith, made, one, more, full.1, sum_by-take-le needs ts (k + 1))
out_of old s ts ns k d NoMemory inside all full = tt
out_of old s ts ns k d fault inside all full = absurd full

-- as many numbers as datatypes
pub numbered_long : (old s : Space) (ts : List Seen) (ns : List TypeNumber) → AreNumbered old s ts ns → length ns ≡ length ts
numbered_long old s [] [] all = refl
numbered_long old s [] (n ∷ ns) all = absurd all
numbered_long old s (t ∷ ts) [] all = absurd all
numbered_long old s (t ∷ ts) (n ∷ ns) all = let rest = numbered_long all.0 s ts ns all.2 in omega (arith, rest)
