-- Readers that take words from the front and nothing else: what they answer depends on no word behind those that they took, or behind the first
-- wrong one, and where one stops, some words behind those that were right would have been taken.
use Rattle.std.proofs.Common.{◌≡◌, ◌⊎◌, inl, inr, [], ◌∷◌, ◌++◌, Option, Some, None, Result, Ok, Err, refl, sym, ap, subst, ◌∙◌, append_assoc, append-nil}
use Rattle.dt_spelling.specs.Reading.{Reader, bind, on_ok, give, read_as, item_at}
use Rattle.dt_spelling.specs.Spelling.{Word, Words}
use Rattle.dt_spelling.proofs.Steps.{item_ok}

-- a reader took the words in front of the rest
pub record Took {A : Type 0} (P : A → Words → Type 0) (r : Reader A) (words rest : Words) (x : A) : Type 0 where
  pub front : Words
  pub whole : words ≡ front ++ rest
  pub has : P x front
  pub again : (other : Words) → r (front ++ other) ≡ Ok (x, other)

-- a reader stopped behind some words, whatever stands behind the first wrong one, and goes on behind them with other words
pub record Stuck {A : Type 0} (r : Reader A) (words left : Words) : Type 0 where
  pub front : Words
  pub whole : words ≡ front ++ left
  pub wrong : (word : Word) (after other : Words) → left ≡ word ∷ after → r (front ++ word ∷ other) ≡ Err (word ∷ other)
  pub next : Word
  pub more : Words
  pub value : A
  pub goes_on : r (front ++ next ∷ more) ≡ Ok (value, [])

-- some words are taken
pub record Accepts {A : Type 0} (r : Reader A) : Type 0 where
  pub words : Words
  pub value : A
  pub takes : r words ≡ Ok (value, [])

pub record Good {A : Type 0} (P : A → Words → Type 0) (r : Reader A) : Type 0 where
  pub ok : (words rest : Words) (x : A) → r words ≡ Ok (x, rest) → Took P r words rest x
  pub err : (words left : Words) → r words ≡ Err left → Stuck r words left
  pub some : Accepts r

-- one reader behind another
on_ok-ok : {A B : Type 0} (e : Result (A × Words) Words) (f : A → Reader B) (y : B × Words) → on_ok e f ≡ Ok y → (x : A) × (rest : Words) × (e ≡ Ok (x, rest)) × (f x rest ≡ Ok y)
on_ok-ok (Ok x) f y e = (x.0, x.1, refl, e)
on_ok-ok (Err left) f y e = cc

on_ok-err : {A B : Type 0} (e : Result (A × Words) Words) (f : A → Reader B) (left : Words) → on_ok e f ≡ Err left → (e ≡ Err left) ⊎ ((x : A) × (rest : Words) × (e ≡ Ok (x, rest)) × (f x rest ≡ Err left))
on_ok-err (Ok x) f left e = inr (x.0, x.1, refl, e)
on_ok-err (Err other) f left e = inl cc

pub bind_ok : {A B : Type 0} (r : Reader A) (f : A → Reader B) (words rest : Words) (x : A) → r words ≡ Ok (x, rest) → bind r f words ≡ f x rest
unfolding bind
bind_ok r f words rest x e = ap (λ v. on_ok v f) e

bind_err : {A B : Type 0} (r : Reader A) (f : A → Reader B) (words left : Words) → r words ≡ Err left → bind r f words ≡ Err left
unfolding bind
bind_err r f words left e = ap (λ v. on_ok v f) e

module _ {A B : Type 0} (P : A → Words → Type 0) (Q : B → Words → Type 0) (r : Reader A) (f : A → Reader B) (good : Good P r)
    (next_good : (x : A) (u : Words) → P x u → Good (λ y v. Q y (u ++ v)) (f x)) where
  both_took : (words rest middle : Words) (x : A) (y : B) → r words ≡ Ok (x, middle) → f x middle ≡ Ok (y, rest) → Took Q (bind r f) words rest y
  both_took words rest middle x y first then' =
      let a = good.ok words middle x first in
      let b = (next_good x a.front a.has).ok middle rest y then' in
      record {
        front = a.front ++ b.front;
        whole = a.whole ∙ (ap (λ (ws : Words). a.front ++ ws) b.whole ∙ sym (append_assoc a.front b.front rest));
        has = b.has;
        again = λ other. ap (bind r f) (append_assoc a.front b.front other) ∙ (bind_ok r f (a.front ++ (b.front ++ other)) (b.front ++ other) x (a.again (b.front ++ other)) ∙ b.again other);
      }

  first_stuck : (words left : Words) → r words ≡ Err left → Stuck (bind r f) words left
  first_stuck words left first =
      let a = good.err words left first in
      let b = good.ok (a.front ++ a.next ∷ a.more) [] a.value a.goes_on in
      let c = (next_good a.value b.front b.has).some in
      let same : b.front ≡ a.front ++ a.next ∷ a.more = sym (b.whole ∙ append-nil b.front) in
      record {
        front = a.front;
        whole = a.whole;
        wrong = λ word after other is. bind_err r f (a.front ++ word ∷ other) (word ∷ other) (a.wrong word after other is);
        next = a.next;
        more = a.more ++ c.words;
        value = c.value;
        goes_on =
            ap (bind r f) (sym (append_assoc a.front (a.next ∷ a.more) c.words))
            ∙ (bind_ok r f ((a.front ++ a.next ∷ a.more) ++ c.words) c.words a.value (ap (λ (ws : Words). r (ws ++ c.words)) (sym same) ∙ b.again c.words) ∙ c.takes);
      }

  second_stuck : (words left middle : Words) (x : A) → r words ≡ Ok (x, middle) → f x middle ≡ Err left → Stuck (bind r f) words left
  second_stuck words left middle x first then' =
      let a = good.ok words middle x first in
      let b = (next_good x a.front a.has).err middle left then' in
      let on : (ws : Words) → bind r f ((a.front ++ b.front) ++ ws) ≡ f x (b.front ++ ws) =
      λ ws. ap (bind r f) (append_assoc a.front b.front ws) ∙ bind_ok r f (a.front ++ (b.front ++ ws)) (b.front ++ ws) x (a.again (b.front ++ ws)) in
      record {
        front = a.front ++ b.front;
        whole = a.whole ∙ (ap (λ (ws : Words). a.front ++ ws) b.whole ∙ sym (append_assoc a.front b.front left));
        wrong = λ word after other is. on (word ∷ other) ∙ b.wrong word after other is;
        next = b.next;
        more = b.more;
        value = b.value;
        goes_on = on (b.next ∷ b.more) ∙ b.goes_on;
      }

  both_ok : (words rest : Words) (y : B) → bind r f words ≡ Ok (y, rest) → Took Q (bind r f) words rest y
  unfolding bind
  both_ok words rest y e = let h = on_ok-ok (r words) f (y, rest) e in both_took words rest h.1 h.0 y h.2 h.3

  both_err : (words left : Words) → bind r f words ≡ Err left → Stuck (bind r f) words left
  unfolding bind
  both_err words left e = elim (on_ok-err (r words) f left e) [ inl h ↦ first_stuck words left h | inr h ↦ second_stuck words left h.1 h.0 h.2 h.3 ]

  both_some : Accepts (bind r f)
  both_some =
      let a = good.some in
      let b = good.ok a.words [] a.value a.takes in
      let c = (next_good a.value b.front b.has).some in
      record { words = b.front ++ c.words; value = c.value; takes = bind_ok r f (b.front ++ c.words) c.words a.value (b.again c.words) ∙ c.takes }

  pub bind_good : Good Q (bind r f)
  bind_good = record { ok = both_ok; err = both_err; some = both_some }

-- a reader that reads no word
pub give_good : {A : Type 0} (P : A → Words → Type 0) (x : A) → P x [] → Good P (give x)
give_good {A} P x h = record {
  ok = λ words rest y e.
      let same : ◌≡◌ {A = A × Words} (x, words) (y, rest) = cc in
      record {
        front = [];
        whole = ap (λ (p : A × Words). p.1) same;
        has = subst (λ z. P z []) (ap (λ (p : A × Words). p.0) same) h;
        again = λ other. ap (λ (p : A × Words). Ok (p.0, other)) same;
      };
  err = λ words left e. cc;
  some = record { words = []; value = x; takes = refl };
}

-- a reader of one word that takes some word
read_err : {A : Type 0} (o : Option A) (here behind left : Words) → read_as o here behind ≡ Err left → (o ≡ None) × (here ≡ left)
read_err None here behind left e = (refl, cc)
read_err (Some x) here behind left e = cc

item_stuck : {A : Type 0} (spelled : Word → Option A) (word : Word) (x : A) → spelled word ≡ Some x → (words left : Words) → item_at spelled words ≡ Err left → Stuck (item_at spelled) words left
item_stuck spelled word x is [] left e =
    let none : [] ≡ left = cc in
    record {
      front = [];
      whole = none;
      wrong = λ w after other h. cc (none, h);
      next = word;
      more = [];
      value = x;
      goes_on = ap (λ o. read_as o (word ∷ []) []) is;
    }
item_stuck spelled word x is (v ∷ words) left e =
    let h = read_err (spelled v) (v ∷ words) words left e in
    record {
      front = [];
      whole = h.1;
      wrong = λ w after other k. let same : v ≡ w = cc (h.1, k) in ap (λ o. read_as o (w ∷ other) other) (ap spelled (sym same) ∙ h.0);
      next = word;
      more = [];
      value = x;
      goes_on = ap (λ o. read_as o (word ∷ []) []) is;
    }

pub item_good : {A : Type 0} (P : A → Words → Type 0) (spelled : Word → Option A) (word : Word) (x : A) → spelled word ≡ Some x → ((w : Word) (y : A) → spelled w ≡ Some y → P y (w ∷ [])) → Good P (item_at spelled)
item_good P spelled word x is means = record {
  ok = λ words rest y e. let h = item_ok spelled words rest y e in record {
    front = h.0 ∷ [];
    whole = h.1;
    has = means h.0 y h.2;
    again = λ other. ap (λ o. read_as o (h.0 ∷ other) other) h.2;
  };
  err = item_stuck spelled word x is;
  some = record { words = word ∷ []; value = x; takes = ap (λ o. read_as o (word ∷ []) []) is };
}
