-- Readers that take bytes from the front and nothing else: what they answer depends on no byte behind those that they took, or behind the first
-- wrong one, and where one stops, some bytes behind those that were right would have been taken.
use Rattle.std.proofs.Common.{◌≡◌, ◌⊎◌, inl, inr, ℕ, [], ◌∷◌, ◌++◌, Option, Some, None, Result, Ok, Err, refl, sym, ap, subst, ◌∙◌, append_assoc, append-nil}
use Rattle.dt_wire.specs.Reading.{Bytes, Reader, bind, on_ok, give, read_as, item_at}

read_ok : {A : Type 0} (o : Option A) (here behind rest : Bytes) (x : A) → read_as o here behind ≡ Ok (x, rest) → (o ≡ Some x) × (behind ≡ rest)
read_ok None here behind rest x e = cc
read_ok {A} (Some y) here behind rest x e =
    let same : ◌≡◌ {A = A × Bytes} (y, behind) (x, rest) = cc in
    (ap (λ (p : A × Bytes). Some p.0) same, ap (λ (p : A × Bytes). p.1) same)

-- what one byte stood for
pub item_ok : {A : Type 0} (spelled : ℕ → Option A) (bytes rest : Bytes) (x : A) → item_at spelled bytes ≡ Ok (x, rest) →
    (byte : ℕ) × (bytes ≡ byte ∷ rest) × (spelled byte ≡ Some x)
item_ok spelled [] rest x e = cc
item_ok spelled (byte ∷ bytes) rest x e = let h = read_ok (spelled byte) (byte ∷ bytes) bytes rest x e in (byte, ap (λ (ws : Bytes). byte ∷ ws) h.1, h.0)

-- a reader took the bytes in front of the rest
pub record Took {A : Type 0} (P : A → Bytes → Type 0) (r : Reader A) (bytes rest : Bytes) (x : A) : Type 0 where
  pub front : Bytes
  pub whole : bytes ≡ front ++ rest
  pub has : P x front
  pub again : (other : Bytes) → r (front ++ other) ≡ Ok (x, other)

-- a reader stopped behind some bytes, whatever stands behind the first wrong one, and goes on behind them with other bytes
pub record Stuck {A : Type 0} (r : Reader A) (bytes left : Bytes) : Type 0 where
  pub front : Bytes
  pub whole : bytes ≡ front ++ left
  pub wrong : (byte : ℕ) (after other : Bytes) → left ≡ byte ∷ after → r (front ++ byte ∷ other) ≡ Err (byte ∷ other)
  pub next : ℕ
  pub more : Bytes
  pub value : A
  pub goes_on : r (front ++ next ∷ more) ≡ Ok (value, [])

-- some bytes are taken
pub record Accepts {A : Type 0} (r : Reader A) : Type 0 where
  pub bytes : Bytes
  pub value : A
  pub takes : r bytes ≡ Ok (value, [])

pub record Good {A : Type 0} (P : A → Bytes → Type 0) (r : Reader A) : Type 0 where
  pub ok : (bytes rest : Bytes) (x : A) → r bytes ≡ Ok (x, rest) → Took P r bytes rest x
  pub err : (bytes left : Bytes) → r bytes ≡ Err left → Stuck r bytes left
  pub some : Accepts r

-- one reader behind another
pub on_ok-ok : {A B : Type 0} (e : Result (A × Bytes) Bytes) (f : A → Reader B) (y : B × Bytes) → on_ok e f ≡ Ok y → (x : A) × (rest : Bytes) × (e ≡ Ok (x, rest)) × (f x rest ≡ Ok y)
on_ok-ok (Ok x) f y e = (x.0, x.1, refl, e)
on_ok-ok (Err left) f y e = cc

on_ok-err : {A B : Type 0} (e : Result (A × Bytes) Bytes) (f : A → Reader B) (left : Bytes) → on_ok e f ≡ Err left → (e ≡ Err left) ⊎ ((x : A) × (rest : Bytes) × (e ≡ Ok (x, rest)) × (f x rest ≡ Err left))
on_ok-err (Ok x) f left e = inr (x.0, x.1, refl, e)
on_ok-err (Err other) f left e = inl cc

pub bind_ok : {A B : Type 0} (r : Reader A) (f : A → Reader B) (bytes rest : Bytes) (x : A) → r bytes ≡ Ok (x, rest) → bind r f bytes ≡ f x rest
unfolding bind
bind_ok r f bytes rest x e = ap (λ v. on_ok v f) e

pub bind_err : {A B : Type 0} (r : Reader A) (f : A → Reader B) (bytes left : Bytes) → r bytes ≡ Err left → bind r f bytes ≡ Err left
unfolding bind
bind_err r f bytes left e = ap (λ v. on_ok v f) e

module _ {A B : Type 0} (P : A → Bytes → Type 0) (Q : B → Bytes → Type 0) (r : Reader A) (f : A → Reader B) (good : Good P r)
    (next_good : (x : A) (u : Bytes) → P x u → Good (λ y v. Q y (u ++ v)) (f x)) where
  both_took : (bytes rest middle : Bytes) (x : A) (y : B) → r bytes ≡ Ok (x, middle) → f x middle ≡ Ok (y, rest) → Took Q (bind r f) bytes rest y
  both_took bytes rest middle x y first then' =
      let a = good.ok bytes middle x first in
      let b = (next_good x a.front a.has).ok middle rest y then' in
      record {
        front = a.front ++ b.front;
        whole = a.whole ∙ (ap (λ (ws : Bytes). a.front ++ ws) b.whole ∙ sym (append_assoc a.front b.front rest));
        has = b.has;
        again = λ other. ap (bind r f) (append_assoc a.front b.front other) ∙ (bind_ok r f (a.front ++ (b.front ++ other)) (b.front ++ other) x (a.again (b.front ++ other)) ∙ b.again other);
      }

  first_stuck : (bytes left : Bytes) → r bytes ≡ Err left → Stuck (bind r f) bytes left
  first_stuck bytes left first =
      let a = good.err bytes left first in
      let b = good.ok (a.front ++ a.next ∷ a.more) [] a.value a.goes_on in
      let c = (next_good a.value b.front b.has).some in
      let same : b.front ≡ a.front ++ a.next ∷ a.more = sym (b.whole ∙ append-nil b.front) in
      record {
        front = a.front;
        whole = a.whole;
        wrong = λ byte after other is. bind_err r f (a.front ++ byte ∷ other) (byte ∷ other) (a.wrong byte after other is);
        next = a.next;
        more = a.more ++ c.bytes;
        value = c.value;
        goes_on =
            ap (bind r f) (sym (append_assoc a.front (a.next ∷ a.more) c.bytes))
            ∙ (bind_ok r f ((a.front ++ a.next ∷ a.more) ++ c.bytes) c.bytes a.value (ap (λ (ws : Bytes). r (ws ++ c.bytes)) (sym same) ∙ b.again c.bytes) ∙ c.takes);
      }

  second_stuck : (bytes left middle : Bytes) (x : A) → r bytes ≡ Ok (x, middle) → f x middle ≡ Err left → Stuck (bind r f) bytes left
  second_stuck bytes left middle x first then' =
      let a = good.ok bytes middle x first in
      let b = (next_good x a.front a.has).err middle left then' in
      let on : (ws : Bytes) → bind r f ((a.front ++ b.front) ++ ws) ≡ f x (b.front ++ ws) =
      λ ws. ap (bind r f) (append_assoc a.front b.front ws) ∙ bind_ok r f (a.front ++ (b.front ++ ws)) (b.front ++ ws) x (a.again (b.front ++ ws)) in
      record {
        front = a.front ++ b.front;
        whole = a.whole ∙ (ap (λ (ws : Bytes). a.front ++ ws) b.whole ∙ sym (append_assoc a.front b.front left));
        wrong = λ byte after other is. on (byte ∷ other) ∙ b.wrong byte after other is;
        next = b.next;
        more = b.more;
        value = b.value;
        goes_on = on (b.next ∷ b.more) ∙ b.goes_on;
      }

  both_ok : (bytes rest : Bytes) (y : B) → bind r f bytes ≡ Ok (y, rest) → Took Q (bind r f) bytes rest y
  unfolding bind
  both_ok bytes rest y e = let h = on_ok-ok (r bytes) f (y, rest) e in both_took bytes rest h.1 h.0 y h.2 h.3

  both_err : (bytes left : Bytes) → bind r f bytes ≡ Err left → Stuck (bind r f) bytes left
  unfolding bind
  both_err bytes left e = elim (on_ok-err (r bytes) f left e) [ inl h ↦ first_stuck bytes left h | inr h ↦ second_stuck bytes left h.1 h.0 h.2 h.3 ]

  both_some : Accepts (bind r f)
  both_some =
      let a = good.some in
      let b = good.ok a.bytes [] a.value a.takes in
      let c = (next_good a.value b.front b.has).some in
      record { bytes = b.front ++ c.bytes; value = c.value; takes = bind_ok r f (b.front ++ c.bytes) c.bytes a.value (b.again c.bytes) ∙ c.takes }

  pub bind_good : Good Q (bind r f)
  bind_good = record { ok = both_ok; err = both_err; some = both_some }

-- a reader that reads no byte
pub give_good : {A : Type 0} (P : A → Bytes → Type 0) (x : A) → P x [] → Good P (give x)
give_good {A} P x h = record {
  ok = λ bytes rest y e.
      let same : ◌≡◌ {A = A × Bytes} (x, bytes) (y, rest) = cc in
      record {
        front = [];
        whole = ap (λ (p : A × Bytes). p.1) same;
        has = subst (λ z. P z []) (ap (λ (p : A × Bytes). p.0) same) h;
        again = λ other. ap (λ (p : A × Bytes). Ok (p.0, other)) same;
      };
  err = λ bytes left e. cc;
  some = record { bytes = []; value = x; takes = refl };
}

-- a reader of one byte that takes some byte
read_err : {A : Type 0} (o : Option A) (here behind left : Bytes) → read_as o here behind ≡ Err left → (o ≡ None) × (here ≡ left)
read_err None here behind left e = (refl, cc)
read_err (Some x) here behind left e = cc

item_stuck : {A : Type 0} (spelled : ℕ → Option A) (byte : ℕ) (x : A) → spelled byte ≡ Some x → (bytes left : Bytes) → item_at spelled bytes ≡ Err left → Stuck (item_at spelled) bytes left
item_stuck spelled byte x is [] left e =
    let none : [] ≡ left = cc in
    record {
      front = [];
      whole = none;
      wrong = λ w after other h. cc (none, h);
      next = byte;
      more = [];
      value = x;
      goes_on = ap (λ o. read_as o (byte ∷ []) []) is;
    }
item_stuck spelled byte x is (v ∷ bytes) left e =
    let h = read_err (spelled v) (v ∷ bytes) bytes left e in
    record {
      front = [];
      whole = h.1;
      wrong = λ w after other k. let same : v ≡ w = cc (h.1, k) in ap (λ o. read_as o (w ∷ other) other) (ap spelled (sym same) ∙ h.0);
      next = byte;
      more = [];
      value = x;
      goes_on = ap (λ o. read_as o (byte ∷ []) []) is;
    }

pub item_good : {A : Type 0} (P : A → Bytes → Type 0) (spelled : ℕ → Option A) (byte : ℕ) (x : A) → spelled byte ≡ Some x → ((w : ℕ) (y : A) → spelled w ≡ Some y → P y (w ∷ [])) → Good P (item_at spelled)
item_good P spelled byte x is means = record {
  ok = λ bytes rest y e. let h = item_ok spelled bytes rest y e in record {
    front = h.0 ∷ [];
    whole = h.1;
    has = means h.0 y h.2;
    again = λ other. ap (λ o. read_as o (h.0 ∷ other) other) h.2;
  };
  err = item_stuck spelled byte x is;
  some = record { bytes = byte ∷ []; value = x; takes = ap (λ o. read_as o (byte ∷ []) []) is };
}
