-- Words cut at a mark: numbers hold none.
use Rattle.std.proofs.Common.{◌≡◌, ◌≢◌, ℕ, zero, suc, ◌<◌, ℤ, pos, neg_ℤ, true, false, cond, eqb, not, ◌&&◌, List, [], ◌∷◌, ◌++◌, take, drop, length, get_or, Option, Some, None, option_map, option_and_then, refl, ap, sym, subst, ◌∙◌, eqb-true, arith}
use Rattle.std.proofs.lemmas.Bool.{and_parts, eq-eqb, ne_eqb}
use Rattle.std.specs.List.{list_all}
use Rattle.dt_script.specs.Name.{is_digit}
use Rattle.dt_script.specs.Number.{number_of, natural_of, integer_of, int_of, address_of}
use Rattle.dt_script.specs.Reading.{◌>>=◌, cut_of}
use Rattle.dt_script.specs.Words.{is_empty}
use Rattle.dt_script.proofs.ReadingLemmas.{bind_some, from_some, test_some}

-- a word is cut at the first place that holds the mark
pub cut_at : (mark : ℕ) (word : List ℕ) (i : ℕ) → i < length word → ((k : ℕ) → k < i → get_or word k 0 ≢ mark) → get_or word i 0 ≡ mark
    → cut_of mark word ≡ Some (take i word, drop (suc i) word)
cut_at mark [] i h before at = absurd (omega arith)
cut_at mark (b ∷ bytes) zero h before at = rw (eq-eqb b mark at) refl
cut_at mark (b ∷ bytes) (suc i) h before at =
    let first : eqb b mark ≡ false = ne_eqb b mark (before 0 (omega arith)) in
    let rest = cut_at mark bytes i (omega arith) (λ k below. before (suc k) (omega arith)) at in
    rw (first, rest) refl

-- a word without the mark isn't cut
pub cut_nowhere : (mark : ℕ) (word : List ℕ) → ((k : ℕ) → k < length word → get_or word k 0 ≢ mark) → cut_of mark word ≡ None
cut_nowhere mark [] none = refl
cut_nowhere mark (b ∷ bytes) none =
    let first : eqb b mark ≡ false = ne_eqb b mark (none 0 (omega arith)) in
    let rest = cut_nowhere mark bytes (λ k below. none (suc k) (omega arith)) in
    rw (first, rest) refl

-- a word that is cut is its two pieces with the mark between
pub cut_sound : (mark : ℕ) (word : List ℕ) (cut : List ℕ × List ℕ) → cut_of mark word ≡ Some cut → word ≡ cut.0 ++ mark ∷ cut.1
cut_sound mark [] cut e = cc
cut_sound mark (b ∷ bytes) cut e =
    let P : List ℕ × List ℕ → Type 0 = λ c. b ∷ bytes ≡ c.0 ++ mark ∷ c.1 in
    elim (eqb b mark) as (λ v. (eqb b mark ≡ v) → cond v (Some ([], bytes)) (cut_of mark bytes >>= λ c. Some (b ∷ c.0, c.1)) ≡ Some cut → P cut) [
      | true ↦ λ is told. from_some P ([], bytes) cut told (ap (λ v. v ∷ bytes) (eqb-true b mark is))
      | false ↦ λ is told.
          let (c, at, ends) = bind_some (cut_of mark bytes) _ cut told in
          from_some P (b ∷ c.0, c.1) cut ends (ap (λ r. b ∷ r) (cut_sound mark bytes c at))
    ] refl e

-- a byte that stands in no number
abbrev pub IsMark : ℕ → Type 0
IsMark mark = (is_digit mark ≡ false) × (eqb 45 mark ≡ false)

digits_cut : (mark : ℕ) → IsMark mark → (word behind : List ℕ) → list_all is_digit word ≡ true → cut_of mark (word ++ mark ∷ behind) ≡ Some (word, behind)
digits_cut mark is_mark [] behind h = rw (eq-eqb mark mark refl) refl
digits_cut mark is_mark (b ∷ bytes) behind h =
    let (digit, digits) = and_parts (is_digit b) (list_all is_digit bytes) h in
    let P : ℕ → Type 0 = λ v. is_digit v ≡ true in
    let other : eqb b mark ≡ false = ne_eqb b mark (λ e. let apart : false ≡ true = sym is_mark.0 ∙ subst P e digit in cc) in
    rw (other, digits_cut mark is_mark bytes behind digits) refl

natural_digits : (word : List ℕ) (n : ℕ) → natural_of word ≡ Some n → list_all is_digit word ≡ true
natural_digits word n e =
    let (h, same) = test_some (not (is_empty word) && list_all is_digit word) (number_of word) n e in
    (and_parts (not (is_empty word)) (list_all is_digit word) h).1

mapped_some : {A B : Type 0} (f : A → B) (o : Option A) (y : B) → option_map f o ≡ Some y → (x : A) × (o ≡ Some x)
mapped_some f None y e = cc
mapped_some f (Some x) y e = (x, refl)

then_some : {A B : Type 0} (f : A → Option B) (o : Option A) (y : B) → option_and_then f o ≡ Some y → (x : A) × (o ≡ Some x)
then_some f None y e = cc
then_some f (Some x) y e = (x, refl)

integer_cut : (mark : ℕ) → IsMark mark → (word behind : List ℕ) (x : ℤ) → integer_of word ≡ Some x → cut_of mark (word ++ mark ∷ behind) ≡ Some (word, behind)
integer_cut mark is_mark [] behind x e = cc
integer_cut mark is_mark (b ∷ bytes) behind x e =
    elim (eqb b 45) as (λ v. (eqb b 45 ≡ v) → cond v (option_map (λ n. neg_ℤ (pos n)) (natural_of bytes)) (option_map pos (natural_of (b ∷ bytes))) ≡ Some x
    → cut_of mark (b ∷ bytes ++ mark ∷ behind) ≡ Some (b ∷ bytes, behind)) [
      | true ↦ λ is told.
          let (n, of) = mapped_some (λ n. neg_ℤ (pos n)) (natural_of bytes) x told in
          rw (eqb-true b 45 is, is_mark.1, digits_cut mark is_mark bytes behind (natural_digits bytes n of)) refl
      | false ↦ λ is told.
          let (n, of) = mapped_some pos (natural_of (b ∷ bytes)) x told in
          digits_cut mark is_mark (b ∷ bytes) behind (natural_digits (b ∷ bytes) n of)
    ] refl e

pub int_cut : (mark : ℕ) → IsMark mark → (word behind : List ℕ) (x : ℤ) → int_of word ≡ Some x → cut_of mark (word ++ mark ∷ behind) ≡ Some (word, behind)
unfolding int_of
int_cut mark is_mark word behind x e = let (y, of) = then_some _ (integer_of word) x e in integer_cut mark is_mark word behind y of

pub address_cut : (mark : ℕ) → IsMark mark → (word behind : List ℕ) (x : ℤ) → address_of word ≡ Some x → cut_of mark (word ++ mark ∷ behind) ≡ Some (word, behind)
unfolding address_of
address_cut mark is_mark word behind x e = let (y, of) = then_some _ (integer_of word) x e in integer_cut mark is_mark word behind y of
