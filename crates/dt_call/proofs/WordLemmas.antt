-- What words are read as is what they ask for.
use Rattle.std.proofs.Common.{◌≡◌, ℕ, Bool, true, false, cond, List, [], ◌∷◌, Option, Some, None, option_map, codes, decimal, bytes_eq, inl, inr, ◌⊎◌, refl, sym, ap, subst, ◌∙◌, arith}
use Rattle.std.specs.Option.{option_map_or}
use Rattle.std.proofs.lemmas.Slice.Eq.{bytes_eq-Decides}
use Rattle.dt_script.specs.Name.{is_name, name_of}
use Rattle.dt_verdict.proofs.Naturals.{natural_means, natural_spelled}
use Rattle.dt_call.specs.declared.words.Asked.{Asked}
use Rattle.dt_call.specs.declared.words.Asked.TheVariants.{Run, Certify, Check, Migrate, Gen}
use Rattle.dt_call.specs.Words.{Ask, AreOther, IsSpelled, alone, asked_by, asked_with, number_of, reads, reads_for, words_for}

some_is : {A : Type 0} (x y : A) → Some x ≡ Some y → x ≡ y
some_is x y e = cc

-- one word of several is tested, and what it stands for is told, or the others are looked at
picked : (word key : List ℕ) (this others : Option Asked) (asked : Asked) → cond (bytes_eq word key) this others ≡ Some asked
    → ((word ≡ key) × (this ≡ Some asked)) ⊎ (others ≡ Some asked)
picked word key this others asked = by (bytes_eq word key) ((bytes_eq-Decides word key).0)
  where
    by : (b : Bool) → (b ≡ true → word ≡ key) → cond b this others ≡ Some asked → ((word ≡ key) × (this ≡ Some asked)) ⊎ (others ≡ Some asked)
    by true is e = inl (is refl, e)
    by false is e = inr e

asks : (word key : List ℕ) (this asked : Asked) → IsSpelled this → words_for this ≡ key ∷ [] → word ≡ key → Some this ≡ Some asked → Ask (word ∷ []) asked
asks word key this asked spelled form at is =
    subst (Ask (word ∷ [])) (some_is this asked is) (record { spelled = spelled; written = ap (λ w. w ∷ []) at ∙ sym form })

alone_sound : (word : List ℕ) (asked : Asked) → alone word ≡ Some asked → Ask (word ∷ []) asked
alone_sound word asked e =
    elim (picked word (codes "run") (Some Run) (cond (bytes_eq word (codes "check")) (Some Check) (cond (bytes_eq word (codes "migrate")) (Some Migrate) None)) asked e) [
      | inl (at, is) ↦ asks word (codes "run") Run asked tt refl at is
      | inr e ↦ elim (picked word (codes "check") (Some Check) (cond (bytes_eq word (codes "migrate")) (Some Migrate) None) asked e) [
        | inl (at, is) ↦ asks word (codes "check") Check asked tt refl at is
        | inr e ↦ elim (picked word (codes "migrate") (Some Migrate) None asked e) [
          | inl (at, is) ↦ asks word (codes "migrate") Migrate asked tt refl at is
          | inr e ↦ cc
        ]
      ]
    ]

-- a name, and a number
named : (b : Bool) (name : List ℕ) (asked : Asked) → option_map Certify (cond b (Some name) None) ≡ Some asked → (b ≡ true) × (Certify name ≡ asked)
named true name asked e = (refl, some_is (Certify name) asked e)
named false name asked e = cc

numbered : (o : Option ℕ) (asked : Asked) → option_map Gen o ≡ Some asked → (n : ℕ) × (o ≡ Some n) × (Gen n ≡ asked)
numbered None asked e = cc
numbered (Some n) asked e = (n, refl, some_is (Gen n) asked e)

certifies : (word other : List ℕ) (asked : Asked) → word ≡ codes "certify" → option_map Certify (name_of other) ≡ Some asked → Ask (word ∷ other ∷ []) asked
certifies word other asked at e =
    let (is, same) = named (is_name other) other asked e in
    subst (Ask (word ∷ other ∷ [])) same (record { spelled = is; written = ap (λ w. w ∷ other ∷ []) at })

generates : (word other : List ℕ) (asked : Asked) → word ≡ codes "gen" → option_map Gen (number_of other) ≡ Some asked → Ask (word ∷ other ∷ []) asked
generates word other asked at e =
    let (n, is, same) = numbered (number_of other) asked e in
    let (high, digits) = natural_means 4294967295 other n is in
    subst (Ask (word ∷ other ∷ [])) same (record {
      spelled = omega (arith, high);
      written = ap (λ w. w ∷ other ∷ []) at ∙ ap (λ w. codes "gen" ∷ w ∷ []) digits;
    })

with_sound : (word other : List ℕ) (asked : Asked) → asked_with word other ≡ Some asked → Ask (word ∷ other ∷ []) asked
with_sound word other asked e =
    elim (picked word (codes "certify") (option_map Certify (name_of other)) (cond (bytes_eq word (codes "gen")) (option_map Gen (number_of other)) None) asked e) [
      | inl (at, is) ↦ certifies word other asked at is
      | inr e ↦ elim (picked word (codes "gen") (option_map Gen (number_of other)) None asked e) [
        | inl (at, is) ↦ generates word other asked at is
        | inr e ↦ cc
      ]
    ]

pub asked_sound : (words : List (List ℕ)) (asked : Asked) → asked_by words ≡ Some asked → Ask words asked
asked_sound [] asked e = cc
asked_sound (word ∷ []) asked e = alone_sound word asked e
asked_sound (word ∷ other ∷ []) asked e = with_sound word other asked e
asked_sound (word ∷ other ∷ more ∷ words) asked e = cc

-- what words ask for is read of them
read_so : (asked : Asked) → IsSpelled asked → asked_by (words_for asked) ≡ Some asked
read_so Run spelled = refl
read_so (Certify name) spelled = ap (λ b. option_map Certify (cond b (Some name) None)) spelled
read_so Check spelled = refl
read_so Migrate spelled = refl
read_so (Gen n) spelled = ap (option_map Gen) (natural_spelled 4294967295 (decimal n) n (omega (arith, spelled)) (omega (arith, spelled)) refl)

pub asked_complete : (words : List (List ℕ)) (asked : Asked) → Ask words asked → asked_by words ≡ Some asked
asked_complete words asked ask = ap asked_by ask.written ∙ read_so asked ask.spelled

pub others : (words : List (List ℕ)) → asked_by words ≡ None → AreOther words
others words none asked ask = cc (none, asked_complete words asked ask)

pub one_asked : (words : List (List ℕ)) (a b : Asked) → Ask words a → Ask words b → a ≡ b
one_asked words a b one other = some_is a b (sym (asked_complete words a one) ∙ asked_complete words b other)

-- whether the source is read
pub reads_so : (words : List (List ℕ)) (asked : Asked) → asked_by words ≡ Some asked → reads_for words ≡ reads asked
reads_so words asked e = ap (λ o. option_map_or reads o false) e
