-- What a form's description reads is what it spells, said once for all forms.
use Rattle.std.proofs.Common.{◌≡◌, ℕ, true, false, cond, List, [], ◌∷◌, Option, Some, None, option_map, refl, ap, sym, subst, ◌∙◌}
use Rattle.std.proofs.lemmas.Slice.Eq.{bytes_eq-Decides}
use Rattle.std.specs.Str.{bytes_eq}
use Rattle.dt_script.specs.Form.{Fields, END, WORD, ◌&◌, EACH, ONE_OR_MORE, REST, Form, Values, Spells, values_at, made_of, behind, one_of, any_of}
use Rattle.dt_script.specs.Item.{IsItem, Words, ◌spell◌, ◌then◌, the}
use Rattle.dt_script.specs.Reading.{end_at, keyword_at, item_at, item_of}
use Rattle.dt_script.proofs.ItemLemmas.{item_sound, item_complete}
use Rattle.dt_script.proofs.ReadingLemmas.{bind_some, from_some, item_some, keyword_some, are_sound, are_complete, some_sound, some_complete}

-- a form of its own to the end, where there is one, reads only what it spells; and reads all that it spells
abbrev pub IsRestSound : Fields → Type 0
IsRestSound END = Unit {0}
IsRestSound (WORD keyword fields) = IsRestSound fields
IsRestSound (i & fields) = IsRestSound fields
IsRestSound (EACH i) = Unit {0}
IsRestSound (ONE_OR_MORE i) = Unit {0}
IsRestSound (REST A rest) = (ws : Words) (x : A) → rest.read ws ≡ Some x → rest.Is ws x

abbrev pub IsRestComplete : Fields → Type 0
IsRestComplete END = Unit {0}
IsRestComplete (WORD keyword fields) = IsRestComplete fields
IsRestComplete (i & fields) = IsRestComplete fields
IsRestComplete (EACH i) = Unit {0}
IsRestComplete (ONE_OR_MORE i) = Unit {0}
IsRestComplete (REST A rest) = (ws : Words) (x : A) → rest.Is ws x → rest.read ws ≡ Some x

end_sound : (ws : Words) → (x : Unit {0}) → end_at ws ≡ Some x → ws ≡ []
end_sound [] x e = refl
end_sound (w ∷ ws) x e = cc

values_sound : (fields : Fields) → IsRestSound fields → (ws : Words) (v : Values fields) → values_at fields ws ≡ Some v → Spells fields v ws
values_sound END rest ws v e = end_sound ws v e
values_sound (WORD keyword fields) rest ws v e =
    let (words, at, told) = keyword_some keyword ws (values_at fields) v e in
    (words, at, values_sound fields rest words v told)
values_sound (i & fields) rest ws v e =
    let (word, x, words, at, is, told) = item_some (item_of i) ws _ v e in
    let (more, others, ends) = bind_some (values_at fields words) _ v told in
    from_some (λ v. Spells (i & fields) v ws) (x, more) v ends (word, words, at, item_sound i word x is, values_sound fields rest words more others)
values_sound (EACH i) rest ws v e = are_sound (IsItem i) (item_of i) (item_sound i) ws v e
values_sound (ONE_OR_MORE i) rest ws v e = some_sound (IsItem i) (item_of i) (item_sound i) ws v e
values_sound (REST A r) rest ws v e = rest ws v e

values_complete : (fields : Fields) → IsRestComplete fields → (ws : Words) (v : Values fields) → Spells fields v ws → values_at fields ws ≡ Some v
unfolding keyword_at item_at
values_complete END rest ws v at = ap end_at at
values_complete (WORD keyword fields) rest ws v (words, at, told) =
    rw (at, (bytes_eq-Decides keyword keyword).1 refl) (values_complete fields rest words v told)
values_complete (i & fields) rest ws v (word, words, at, is, told) =
    rw (at, item_complete i word v.0 is, values_complete fields rest words v.1 told) refl
values_complete (EACH i) rest ws v are = are_complete (IsItem i) (item_of i) (item_complete i) ws v are
values_complete (ONE_OR_MORE i) rest ws v are = some_complete (IsItem i) (item_of i) (item_complete i) ws v are
values_complete (REST A r) rest ws v is = rest ws v is

-- a form makes what a relation says of its words
abbrev pub IsFormOf : {C : Type 0} → (Words → C → Type 0) → Form C → Type 0
IsFormOf Is f =
    IsRestSound f.fields × ((ws : Words) (v : Values f.fields) → Spells f.fields v ws → Is (f.keyword ∷ ws) (made_of f.fields f.make v))

abbrev pub AreFormsOf : {C : Type 0} → (Words → C → Type 0) → List (Form C) → Type 0
AreFormsOf Is [] = Unit {0}
AreFormsOf Is (f ∷ forms) = IsFormOf Is f × AreFormsOf Is forms

mapped : {A B : Type 0} (f : A → B) (o : Option A) (y : B) → option_map f o ≡ Some y → (x : A) × (o ≡ Some x) × (f x ≡ y)
mapped f None y e = cc
mapped f (Some x) y e = (x, refl, cc)

one_sound : {C : Type 0} (Is : Words → C → Type 0) (forms : List (Form C)) → AreFormsOf Is forms → (w : List ℕ) (ws : Words) (y : C)
    → one_of forms w ws ≡ Some y → Is (w ∷ ws) y
one_sound Is [] are w ws y e = cc
one_sound Is (f ∷ forms) are w ws y e =
    let P : List ℕ → Type 0 = λ v. Is (v ∷ ws) y in
    elim (bytes_eq w f.keyword) as (λ b. (bytes_eq w f.keyword ≡ b) → cond b (behind f ws) (one_of forms w ws) ≡ Some y → Is (w ∷ ws) y) [
      | true ↦ λ is told.
          let (v, at, made) = mapped (made_of f.fields f.make) (values_at f.fields ws) y told in
          let spelled = are.0.1 ws v (values_sound f.fields are.0.0 ws v at) in
          subst P (sym ((bytes_eq-Decides w f.keyword).0 is)) (subst (λ y. Is (f.keyword ∷ ws) y) made spelled)
      | false ↦ λ is told. one_sound Is forms are.1 w ws y told
    ] refl e

-- what is read by some forms is what they spell
pub any_sound : {C : Type 0} (Is : Words → C → Type 0) (forms : List (Form C)) (ws : Words) (y : C) → any_of forms ws ≡ Some y
    → AreFormsOf Is forms → Is ws y
any_sound Is forms [] y e are = cc
any_sound Is forms (w ∷ ws) y e are = one_sound Is forms are w ws y e

-- what a form spells is read by it, where it is the first with its first word
pub any_complete : {C : Type 0} (forms : List (Form C)) (f : Form C) → IsRestComplete f.fields → (ws : Words) (v : Values f.fields)
    → (ws spell the f.keyword then Spells f.fields v) → ((ws : Words) → one_of forms f.keyword ws ≡ behind f ws)
    → any_of forms ws ≡ Some (made_of f.fields f.make v)
any_complete forms f rest ws v (words, at, told) first =
    ap (any_of forms) at ∙ (first words ∙ ap (option_map (made_of f.fields f.make)) (values_complete f.fields rest words v told))
