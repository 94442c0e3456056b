-- What numbers stand for, before and after a call on the registry.
use Rattle.std.specs.Prelude.{◌≡◌, ◌≢◌, ◌==◌, ◌||◌, Bool, true, false, if◌then◌else◌, Option, Some, None, IsSome, slice_get, Result, Ok, Err, IsTrue, ◌↔◌}
use Rattle.std.proofs.Common.{refl, sym, ap, subst, ◌∙◌}
use Rattle.std.proofs.lemmas.Bool.{ne_eqb}
use Rattle.std.proofs.Math.Bool.{or-false}
use Rattle.std.specs.Option.{option_map, IsSomeAnd}
use Rattle.dt_kinds.specs.declared.kind.Kind.{Kind}
use Rattle.dt_kinds.specs.Name.{kinds}
use Rattle.dt_form.specs.declared.form.FormOf.TheVariants.{Named}
use Rattle.dt_form.specs.Form.{is_named}
use Rattle.dt_registry.specs.declared.fault.HandleFault.{HandleFault}
use Rattle.dt_registry.specs.declared.fault.HandleFault.TheVariants.{Basic}
use Rattle.dt_registry.specs.declared.registry.Handle.{Handle}
use Rattle.dt_registry.specs.declared.registry.Live.{Live}
use Rattle.dt_registry.specs.Registry.{Registry, live_at, committed_at, is_basic_at, Makes, Sets}
use Rattle.dt_registry.specs.Registry as registry
use Rattle.dt_type.specs.declared.datatype.Seen.{Seen, out-roll-Seen}
use Rattle.dt_type.specs.Form.{result_of}
use Rattle.dt_type.specs.Basic.{is_basic}
use Rattle.dt_space.specs.declared.number.Kept.{Kept}
use Rattle.dt_space.specs.declared.number.TypeNumber.{TypeNumber}
use Rattle.dt_space.specs.Live.{committed, Adds, Commits, Frees}
use Rattle.dt_space.specs.Space.{Space, handle_of, basic, kept_of, kept_at, type_at}

abbrev number_of : Handle → TypeNumber
number_of h = record { slot = h.slot; serial = h.serial }

pub not_ok : {T E : Type 0} (r : Result T E) (x : T) (e : E) → r ≡ Ok x → r ≡ Err e → ⊥
not_ok r x e ok err = cc

-- a number that isn't that of a basic type stands for what its handle does
pub at_handle : (s : Space) (n : TypeNumber) → n.serial ≢ 18446744073709551615 → kept_at s n ≡ option_map kept_of (live_at s.types (handle_of n))
at_handle s n other =
    ap (λ b. if b then option_map basic (slice_get kinds n.slot) else option_map kept_of (live_at s.types (handle_of n)))
    (ne_eqb n.serial 18446744073709551615 other)

pub at_kind : (s : Space) (n : TypeNumber) → n.serial ≡ 18446744073709551615 → kept_at s n ≡ option_map basic (slice_get kinds n.slot)
at_kind s n same =
    ap (λ b. if b then option_map basic (slice_get kinds n.slot) else option_map kept_of (live_at s.types (handle_of n)))
    (ap (λ k. k == 18446744073709551615) same)

-- where handles but one stand for what they did, numbers but one do
others_stay : (old new : Space) (n : TypeNumber) → ((g : Handle) → g ≢ handle_of n → live_at new.types g ≡ live_at old.types g) → (m : TypeNumber) → m ≢ n → kept_at new m ≡ kept_at old m
others_stay old new n stay m differs =
    ap (λ o. if m.serial == 18446744073709551615 then option_map basic (slice_get kinds m.slot) else option_map kept_of o)
    (stay (handle_of m) (λ same. differs (ap number_of same)))

pub adds : (old new : Space) (h : Handle) (t : Seen)
    → Makes old.types new.types h (record { serial = old.types.made; ty = t; committed = is_basic t || false }) → old.types.made ≢ 18446744073709551615
    → new.sessions ≡ old.sessions → new.begun ≡ old.begun → Adds old new (record { slot = h.slot; serial = h.serial }) t
adds old new h t makes left sessions begun =
    let n : TypeNumber = record { slot = h.slot; serial = h.serial } in
    let other : h.serial ≢ 18446744073709551615 = λ same. left (sym makes.serial ∙ same) in
    record {
      serial = makes.serial;
      made = makes.made;
      was_free = at_handle old n other ∙ ap (option_map kept_of) makes.was_free;
      changes = record {
        changed =
            at_handle new n other ∙ ap (option_map kept_of) makes.changes.changed
            ∙ ap (λ b. Some (record { ty = t; committed = b })) (or-false (is_basic t));
        others = others_stay old new n makes.changes.others;
        sessions = sessions;
        begun = begun;
      };
    }

map_ne : {A B : Type 0} (f : A → B) (o : Option A) → IsSome o → option_map f o ≢ None
map_ne f None is = cc
map_ne f (Some x) is = λ same. cc

twice : (o : Option Live) → option_map kept_of (option_map registry.committed o) ≡ option_map committed (option_map kept_of o)
twice None = refl
twice (Some live) = refl

pub commits : (old new : Space) (n : TypeNumber) → n.serial ≢ 18446744073709551615 → Sets old.types new.types (handle_of n) (committed_at old.types (handle_of n))
    → new.sessions ≡ old.sessions → new.begun ≡ old.begun → Commits old new n
commits old new n other sets sessions begun = record {
  stood = λ none. map_ne kept_of (live_at old.types (handle_of n)) sets.was_live (sym (at_handle old n other) ∙ none);
  made = sets.made;
  changes = record {
    changed =
        at_handle new n other ∙ ap (option_map kept_of) sets.changes.changed ∙ twice (live_at old.types (handle_of n))
        ∙ ap (option_map committed) (sym (at_handle old n other));
    others = others_stay old new n sets.changes.others;
    sessions = sessions;
    begun = begun;
  };
}

some_ne : {A : Type 0} (x : A) → Some x ≢ None
some_ne x same = cc

-- a basic type is committed as it is
pub commits_kind : (s : Space) (n : TypeNumber) (kind : Kind) → n.serial ≡ 18446744073709551615 → slice_get kinds n.slot ≡ Some kind → Commits s s n
commits_kind s n kind same found =
    let at = at_kind s n same ∙ ap (option_map basic) found in
    record {
      stood = λ none. some_ne (basic kind) (sym at ∙ none);
      made = refl;
      changes = record { changed = at ∙ ap (option_map committed) (sym at); others = λ m differs. refl; sessions = refl; begun = refl };
    }

type_of_live : (o : Option Live) (t : Seen) → option_map (λ live. live.ty) o ≡ Some t → (b : Bool) → is_basic t ≡ b → IsSomeAnd (option_map (λ kept. kept.ty) (option_map kept_of o)) (λ u. is_basic u ≡ b)
type_of_live None t at b is = cc
type_of_live (Some live) t at b is = let same : live.ty ≡ t = cc in ap is_basic same ∙ is

pub stands_with : (s : Space) (n : TypeNumber) (t : Seen) (b : Bool) → n.serial ≢ 18446744073709551615 → registry.type_at s.types (handle_of n) ≡ Some t → is_basic t ≡ b
    → IsSomeAnd (type_at s n) (λ u. is_basic u ≡ b)
stands_with s n t b other at is =
    subst (λ o. IsSomeAnd (option_map (λ (kept : Kept). kept.ty) o) (λ u. is_basic u ≡ b)) (sym (at_handle s n other)) (type_of_live (live_at s.types (handle_of n)) t at b is)

named_is_basic : (kind : Kind) → is_basic (result_of (Named kind)) ≡ true
named_is_basic kind = ap (λ layer. is_named layer.form) (out-roll-Seen _)

pub stands_basic : (s : Space) (n : TypeNumber) (kind : Kind) → n.serial ≡ 18446744073709551615 → slice_get kinds n.slot ≡ Some kind → IsSomeAnd (type_at s n) (λ u. is_basic u ≡ true)
stands_basic s n kind same found =
    subst (λ o. IsSomeAnd (option_map (λ (kept : Kept). kept.ty) o) (λ u. is_basic u ≡ true)) (sym (at_kind s n same ∙ ap (option_map basic) found)) (named_is_basic kind)

pub frees : (old new : Space) (n : TypeNumber) (t : Seen) → n.serial ≢ 18446744073709551615 → registry.type_at old.types (handle_of n) ≡ Some t → is_basic t ≡ false
    → Sets old.types new.types (handle_of n) None → new.sessions ≡ old.sessions → new.begun ≡ old.begun → Frees old new n
frees old new n t other at plain sets sessions begun = record {
  stood = stands_with old n t false other at plain;
  made = sets.made;
  changes = record {
    changed = at_handle new n other ∙ ap (option_map kept_of) sets.changes.changed;
    others = others_stay old new n sets.changes.others;
    sessions = sessions;
    begun = begun;
  };
}

-- what can be freed isn't basic
pub not_basic : (r : Registry) (h : Handle) (t : Seen) (answer : Result Seen HandleFault) → registry.type_at r h ≡ Some t → answer ≡ Ok t
    → (answer ≡ Err Basic ↔ IsTrue (is_basic_at r h)) → is_basic t ≡ false
not_basic r h t answer at ok iff = by (is_basic t) refl
  where
    by : (b : Bool) → is_basic t ≡ b → b ≡ false
    by true is = absurd (not_ok answer t Basic ok (iff.1 (ap registry.is_live_basic at ∙ is)))
    by false is = refl
