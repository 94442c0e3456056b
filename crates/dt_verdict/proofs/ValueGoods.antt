-- the reader of values takes lines from the front and nothing else, and what it takes is spelled so
use Rattle.std.proofs.Common.{◌≡◌, ◌⊎◌, inl, inr, ◌<◌, Bool, true, false, Option, Some, None, Result, Ok, Err, List, [], ◌∷◌, ◌++◌, map, codes, decimal, bytes_eq, refl, sym, ap, subst, ◌∙◌, arith}
use Rattle.std.proofs.lemmas.Slice.Eq.{bytes_eq-Decides}
use Rattle.dt_map.specs.declared.entry.Entry.{Entry}
use Rattle.dt_normal.specs.declared.low.Low.{Low}
use Rattle.dt_spelling.specs.Reading.{where_true, with_front}
use Rattle.dt_spelling.specs.Spelling.{Word, Words}
use Rattle.dt_spelling.proofs.Numbers.{passed}
use Rattle.dt_spelling.proofs.Readers.{Good, Took, Stuck}
use Rattle.dt_cert.specs.Certificate.{Version, BySegments, ByClasses}
use Rattle.dt_cert.specs.Text.{value_line}
use Rattle.dt_verdict.specs.Lines.{line_as}
use Rattle.dt_verdict.specs.Reading.{value_at}
use Rattle.dt_verdict.specs.Values.{value_name, goes_on, value_behind, values_at}
use Rattle.dt_verdict.proofs.LineWords.{line_of, value_means}
use Rattle.dt_verdict.proofs.Signeds.{then_some}
use Rattle.dt_verdict.proofs.ValueSteps.{at_end, no_value, one_value}

abbrev pub value_text : Version → Low → Word
value_text version a = line_of (value_line version a)

-- one value
pub record IsValue (version : Version) (m : List Entry) (last a : Low) : Type 0 where
  pub on : goes_on version m last a ≡ true
  pub low : a.low < 18446744073709551616

pub value_behind_means : (version : Version) (m : List Entry) (last : Low) (line : Word) (a : Low) → value_behind version m last line ≡ Some a → (line ≡ value_text version a) × IsValue version m last a
unfolding value_behind
value_behind_means version m last line a e =
    let h = then_some (λ b. where_true (goes_on version m last b) b) (line_as (value_at (value_name version)) line) a e in
    let p = passed (goes_on version m last h.0) h.0 a h.2 in
    let v = value_means (value_name version) line h.0 h.1 in
    let low = (v.1).2 in
    subst (λ b. (line ≡ value_text version b) × IsValue version m last b) p.1 (v.0 ∙ same_words version h.0, record { on = p.0; low = omega arith })
  where
    same_words : (version : Version) (b : Low) → line_of (value_name version ∷ decimal b.from ∷ decimal b.to ∷ decimal b.low ∷ []) ≡ value_text version b
    same_words BySegments b = refl
    same_words ByClasses b = refl

-- several values behind the last one
abbrev pub AreValues : Version → List Entry → Low → List Low → Type 0
AreValues version m last [] = Unit {0}
AreValues version m last (a ∷ values) = IsValue version m last a × AreValues version m a values

abbrev pub AreValueLines : Version → List Entry → Low → List Low → Words → Type 0
AreValueLines version m last values u = (u ≡ map (value_text version) values ++ codes "end" ∷ []) × AreValues version m last values

tested : (b : Bool) → (b ≡ true) ⊎ (b ≡ false)
tested true = inl refl
tested false = inr refl

whether : {A : Type 0} (o : Option A) → ((x : A) × (o ≡ Some x)) ⊎ (o ≡ None)
whether None = inr refl
whether (Some x) = inl (x, refl)

front_ok : {A : Type 0} (x : A) (r : Result (List A × Words) Words) (y : List A) (rest : Words) → with_front (x ∷ []) r ≡ Ok (y, rest) → (ys : List A) × (r ≡ Ok (ys, rest)) × (x ∷ ys ≡ y)
front_ok {A} x (Ok more) y rest e =
    let same : ◌≡◌ {A = List A × Words} (x ∷ more.0, more.1) (y, rest) = cc in
    (more.0, ap (λ (p : List A × Words). let r : Result (List A × Words) Words = Ok (more.0, p.1) in r) same, ap (λ (p : List A × Words). p.0) same)
front_ok x (Err left) y rest e = cc

front_err : {A : Type 0} (x : A) (r : Result (List A × Words) Words) (left : Words) → with_front (x ∷ []) r ≡ Err left → r ≡ Err left
front_err x (Ok more) left e = cc
front_err x (Err other) left e = cc

module _ (version : Version) (m : List Entry) where
  values_ok : (last : Low) (words rest : Words) (y : List Low) → values_at version m last words ≡ Ok (y, rest) → Took (AreValueLines version m last) (values_at version m last) words rest y
  values_ok last [] rest y e = cc
  values_ok last (line ∷ lines) rest y e = elim (tested (bytes_eq line (codes "end"))) [
    | inl is ↦
        let same : ◌≡◌ {A = List Low × Words} ([], lines) (y, rest) = cc (at_end version m last line lines is, e) in
        let none : [] ≡ y = ap (λ (p : List Low × Words). p.0) same in
        let word : line ≡ codes "end" = (bytes_eq-Decides line (codes "end")).0 is in
        record {
          front = line ∷ [];
          whole = ap (λ (p : List Low × Words). line ∷ p.1) same;
          has = subst (λ ys. AreValueLines version m last ys (line ∷ [])) none (ap (λ (l : Word). l ∷ []) word, tt);
          again = λ other. at_end version m last line other is ∙ ap (λ (ys : List Low). Ok (ys, other)) none;
        }
    | inr not ↦ elim (whether (value_behind version m last line)) [
      | inl v ↦
          let x = v.0 in
          let h = front_ok x (values_at version m x lines) y rest (sym (one_value version m last line lines x not v.1) ∙ e) in
          let t = values_ok x lines rest h.0 h.1 in
          let means = value_behind_means version m last line x v.1 in
          record {
            front = line ∷ t.front;
            whole = ap (λ (ws : Words). line ∷ ws) t.whole;
            has = subst (λ ys. AreValueLines version m last ys (line ∷ t.front)) h.2 (
              ap (λ (l : Word). l ∷ t.front) means.0 ∙ ap (λ (ws : Words). value_text version x ∷ ws) (t.has).0,
              (means.1, (t.has).1),
            );
            again = λ other. one_value version m last line (t.front ++ other) x not v.1 ∙ (ap (with_front (x ∷ [])) (t.again other) ∙ ap (λ (ys : List Low). Ok (ys, other)) h.2);
          }
      | inr none ↦ cc (no_value version m last line lines not none, e)
    ]
  ]

  values_err : (last : Low) (words left : Words) → values_at version m last words ≡ Err left → Stuck (values_at version m last) words left
  values_err last [] left e =
      let none : [] ≡ left = cc in
      record {
        front = [];
        whole = none;
        wrong = λ w after other h. cc (none, h);
        next = codes "end";
        more = [];
        value = [];
        goes_on = at_end version m last (codes "end") [] refl;
      }
  values_err last (line ∷ lines) left e = elim (tested (bytes_eq line (codes "end"))) [
    | inl is ↦ cc (at_end version m last line lines is, e)
    | inr not ↦ elim (whether (value_behind version m last line)) [
      | inl v ↦
          let x = v.0 in
          let t = values_err x lines left (front_err x (values_at version m x lines) left (sym (one_value version m last line lines x not v.1) ∙ e)) in
          record {
            front = line ∷ t.front;
            whole = ap (λ (ws : Words). line ∷ ws) t.whole;
            wrong = λ w after other h. one_value version m last line (t.front ++ w ∷ other) x not v.1 ∙ ap (with_front (x ∷ [])) (t.wrong w after other h);
            next = t.next;
            more = t.more;
            value = x ∷ t.value;
            goes_on = one_value version m last line (t.front ++ t.next ∷ t.more) x not v.1 ∙ ap (with_front (x ∷ [])) t.goes_on;
          }
      | inr none ↦
          let here : line ∷ lines ≡ left = cc (no_value version m last line lines not none, e) in
          record {
            front = [];
            whole = here;
            wrong = λ w after other h.
                let same : line ≡ w = cc (here, h) in
                subst (λ (l : Word). values_at version m last (l ∷ other) ≡ Err (l ∷ other)) same (no_value version m last line other not none);
            next = codes "end";
            more = [];
            value = [];
            goes_on = at_end version m last (codes "end") [] refl;
          }
    ]
  ]

  pub values_good : (last : Low) → Good (AreValueLines version m last) (values_at version m last)
  values_good last = record {
    ok = λ words rest x e. values_ok last words rest x e;
    err = λ words left e. values_err last words left e;
    some = record { words = codes "end" ∷ []; value = []; takes = at_end version m last (codes "end") [] refl };
  }
