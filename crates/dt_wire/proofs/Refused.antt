-- what a whole text reads as, and where its fault shows
use Rattle.std.proofs.Common.{◌≡◌, ◌⊎◌, inl, inr, ℕ, zero, suc, ◌+◌, ◌≤◌, [], ◌∷◌, ◌++◌, take, drop, length, ◌==◌, true, Some, Result, Ok, Err, refl, sym, ap, subst, ◌∙◌, append_assoc, append-nil, arith}
use Rattle.std.proofs.lemmas.Bool.Decides.{leb_tells}
use Rattle.std.proofs.lemmas.List.{length-append}
use Rattle.dt_form.specs.declared.form.FormOf.{FormOf}
use Rattle.dt_type.specs.declared.datatype.Seen.{Seen}
use Rattle.dt_wire.specs.Fault.{IsBegun, IsBadAt, IsText}
use Rattle.dt_wire.specs.Laws.{EachTextIsReadOrBad, OneBadPlace}
use Rattle.dt_wire.specs.Reading.{Bytes, bind, item_at, is_byte, magic_at, form_at, text_at}
use Rattle.dt_wire.specs.Spelling.{magic, spelling, text_of}
use Rattle.dt_wire.specs.Wire.{IsForm, IsWire}
use Rattle.dt_wire.proofs.Forms.{form_spells}
use Rattle.dt_wire.proofs.Numbers.{passed, good_as}
use Rattle.dt_wire.proofs.Readers.{Good, bind_ok, bind_good, item_good}
use Rattle.dt_wire.proofs.Spells.{Written}
use Rattle.dt_wire.proofs.Uniques.{no_text_begins_another}

-- the bytes before a form
equal_is : (b x : ℕ) → (b == x) ≡ true → b ≡ x
equal_is b x e = grind (arith, e)

byte_good : (x : ℕ) → is_byte x x ≡ Some x → Good (λ y u. u ≡ x ∷ []) (item_at (is_byte x))
byte_good x is = item_good (λ y u. u ≡ x ∷ []) (is_byte x) x x is (λ b y e. ap (λ c. c ∷ []) (equal_is b x (passed (b == x) b y e).0))

magic_good : Good (λ y u. u ≡ magic) magic_at
unfolding magic_at
magic_good =
    bind_good (λ y u. u ≡ 100 ∷ []) (λ y u. u ≡ magic) (item_at (is_byte 100)) _ (byte_good 100 refl) (λ d u p.
    bind_good (λ y v. v ≡ 116 ∷ []) (λ y v. u ++ v ≡ magic) (item_at (is_byte 116)) _ (byte_good 116 refl) (λ t v q.
    bind_good (λ y w. w ≡ 119 ∷ []) (λ y w. u ++ (v ++ w) ≡ magic) (item_at (is_byte 119)) _ (byte_good 119 refl) (λ m w r.
    good_as (λ y x. x ≡ 49 ∷ []) (λ y x. u ++ (v ++ (w ++ x)) ≡ magic) (item_at (is_byte 49)) (byte_good 49 refl) (λ y x s. cc (p, q, r, s)))))

text_good : Good (λ f u. IsWire u f) text_at
unfolding text_at
text_good =
    bind_good (λ y u. u ≡ magic) (λ f u. IsWire u f) magic_at (λ first. form_at 64) magic_good (λ y u p.
    good_as (Written (spelling 64) (IsForm 64)) (λ f v. IsWire (u ++ v) f) (form_at 64) (form_spells 63).good (λ f v q. (q.1, ap (λ (t : Bytes). t ++ v) p ∙ ap (λ (t : Bytes). magic ++ t) q.0)))

magic_again : (rest : Bytes) → magic_at (magic ++ rest) ≡ Ok (49, rest)
unfolding magic_at bind
magic_again rest = refl

pub text_again : (text rest : Bytes) (f : FormOf Seen) → IsWire text f → text_at (text ++ rest) ≡ Ok (f, rest)
unfolding text_at
text_again text rest f is =
    ap (λ (t : Bytes). text_at (t ++ rest)) is.1
    ∙ (bind_ok magic_at (λ first. form_at 64) (text_of f ++ rest) (spelling 64 f ++ rest) 49 (magic_again (spelling 64 f ++ rest))
    ∙ (form_spells 63).again f rest is.0)

pub take_front : (front rest : Bytes) → take (length front) (front ++ rest) ≡ front
take_front [] rest = refl
take_front (b ∷ front) rest = ap (λ (t : Bytes). b ∷ t) (take_front front rest)

take_more : (front rest : Bytes) (b : ℕ) → take (suc (length front)) (front ++ b ∷ rest) ≡ front ++ b ∷ []
take_more [] rest b = refl
take_more (c ∷ front) rest b = ap (λ (t : Bytes). c ∷ t) (take_more front rest b)

one_more : (front rest : Bytes) (b : ℕ) → (front ++ b ∷ []) ++ rest ≡ front ++ b ∷ rest
one_more front rest b = append_assoc front (b ∷ []) rest

-- the place behind the bytes that were right
bad_at : (bytes front left : Bytes) → bytes ≡ front ++ left → ((f : FormOf Seen) → ¬ IsWire bytes f) → IsBegun front
    → ((b : ℕ) (more tail : Bytes) (f : FormOf Seen) → left ≡ b ∷ more → ¬ IsWire (front ++ b ∷ tail) f) → IsBadAt bytes (length front)
bad_at bytes front [] whole none begun wrong = record {
  none = none;
  within = omega (arith, ap length whole, length-append front []);
  begun = subst IsBegun (sym (ap (take (length front)) whole ∙ take_front front [])) begun;
  wrong = λ lt b. absurd (omega (arith, lt, ap length whole, length-append front []));
}
bad_at bytes front (c ∷ left) whole none begun wrong = record {
  none = none;
  within = omega (arith, ap length whole, length-append front (c ∷ left));
  begun = subst IsBegun (sym (ap (take (length front)) whole ∙ take_front front (c ∷ left))) begun;
  wrong = λ lt b.
      let same : take (suc (length front)) bytes ≡ front ++ c ∷ [] = ap (take (suc (length front))) whole ∙ take_more front left c in
      let is : IsWire (front ++ c ∷ b.rest) b.form = subst (λ (t : Bytes). IsWire t b.form) (ap (λ (t : Bytes). t ++ b.rest) same ∙ one_more front b.rest c) b.spelled in
      wrong c left b.rest b.form refl is;
}

pub stopped : (bytes left : Bytes) → text_at bytes ≡ Err left → (at : ℕ) × IsBadAt bytes at × (length bytes ≡ at + length left)
stopped bytes left e =
    let h = text_good.err bytes left e in
    let took = text_good.ok (h.front ++ h.next ∷ h.more) [] h.value h.goes_on in
    let whole : h.front ++ h.next ∷ h.more ≡ took.front = took.whole ∙ append-nil took.front in (
      length h.front,
      bad_at bytes h.front left h.whole
          (λ f is. let again = text_again bytes [] f is in cc (again, ap text_at (append-nil bytes), e))
          (record { rest = h.next ∷ h.more; form = h.value; spelled = subst (λ (t : Bytes). IsWire t h.value) (sym whole) took.has })
          (λ b more tail f is w.
          let again = text_again (h.front ++ b ∷ tail) [] f w in
          cc (again, ap text_at (append-nil (h.front ++ b ∷ tail)), h.wrong b more tail is)),
      omega (arith, ap length h.whole, length-append h.front left),
    )

pub went_on : (bytes more : Bytes) (b : ℕ) (f : FormOf Seen) → text_at bytes ≡ Ok (f, b ∷ more) → (at : ℕ) × IsBadAt bytes at × (length bytes ≡ at + length (b ∷ more))
went_on bytes more b f e =
    let h = text_good.ok bytes (b ∷ more) f e in (
      length h.front,
      bad_at bytes h.front (b ∷ more) h.whole
          (λ other is. let none : b ∷ more ≡ [] = no_text_begins_another h.front bytes (b ∷ more) f other h.has is (sym h.whole) in cc none)
          (record { rest = []; form = f; spelled = subst (λ (t : Bytes). IsWire t f) (sym (append-nil h.front)) h.has })
          (λ c rest tail other is w. let none : c ∷ tail ≡ [] = no_text_begins_another h.front (h.front ++ c ∷ tail) (c ∷ tail) f other h.has w refl in cc none),
      omega (arith, ap length h.whole, length-append h.front (b ∷ more)),
    )

pub came_out : (bytes : Bytes) (f : FormOf Seen) → text_at bytes ≡ Ok (f, []) → IsWire bytes f
came_out bytes f e = let h = text_good.ok bytes [] f e in subst (λ (t : Bytes). IsWire t f) (sym (h.whole ∙ append-nil h.front)) h.has

read_or_bad : (bytes : Bytes) (r : Result (FormOf Seen × Bytes) Bytes) → text_at bytes ≡ r → IsText bytes ⊎ ((at : ℕ) × IsBadAt bytes at)
read_or_bad bytes (Ok (f, [])) e = inl (f, came_out bytes f e)
read_or_bad bytes (Ok (f, b ∷ more)) e = let h = went_on bytes more b f e in inr (h.0, h.1)
read_or_bad bytes (Err left) e = let h = stopped bytes left e in inr (h.0, h.1)

pub each_text_is_read_or_bad : EachTextIsReadOrBad
each_text_is_read_or_bad bytes = read_or_bad bytes (text_at bytes) refl

-- one place
split_take : (n m : ℕ) (xs : Bytes) → n ≤ m → take m xs ≡ take n xs ++ drop n (take m xs)
split_take zero m xs le = refl
split_take (suc n) zero xs le = absurd (omega (arith, le))
split_take (suc n) (suc m) [] le = refl
split_take (suc n) (suc m) (x ∷ xs) le = ap (λ (t : Bytes). x ∷ t) (split_take n m xs (omega (arith, le)))

begun_less : (n m : ℕ) (bytes : Bytes) → n ≤ m → IsBegun (take m bytes) → IsBegun (take n bytes)
begun_less n m bytes le b = record {
  rest = drop n (take m bytes) ++ b.rest;
  form = b.form;
  spelled = subst (λ (t : Bytes). IsWire t b.form) (ap (λ (t : Bytes). t ++ b.rest) (split_take n m bytes le) ∙ append_assoc (take n bytes) (drop n (take m bytes)) b.rest) b.spelled;
}

not_before : (bytes : Bytes) (at at' : ℕ) → IsBadAt bytes at → IsBadAt bytes at' → at' ≤ at
not_before bytes at at' h h' = elim (leb_tells at' at) [
  | inl le ↦ le.1
  | inr gt ↦
      let within = h'.within in
      let gt' = gt.1 in
      absurd (h.wrong (omega (arith, within, gt')) (begun_less (suc at) at' bytes (omega (arith, gt')) h'.begun))
]

pub one_bad_place : OneBadPlace
one_bad_place bytes at at' h h' = omega (arith, not_before bytes at at' h h', not_before bytes at' at h' h)
