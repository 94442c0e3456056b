-- the lines of a certificate, and what they spell
use Rattle.std.proofs.Common.{◌≡◌, ℕ, ◌≤◌, ◌<◌, true, ℤ, pos, Some, Result, Ok, Err, [], ◌∷◌, ◌++◌, codes, decimal, bytes_eq, refl, sym, ap, subst, ◌∙◌, append-nil, arith}
use Rattle.std.proofs.lemmas.Int.{ints, clamps}
use Rattle.std.specs.Fmt.{signed_decimal}
use Rattle.std.specs.List.{join_with_byte}
use Rattle.std.specs.Result.{result_ok}
use Rattle.std.proofs.lemmas.List.Splits.{join_with_byte-slice_split}
use Rattle.std.proofs.lemmas.Slice.Eq.{bytes_eq-Decides}
use Rattle.dt_kinds.specs.declared.kind.Kind.{Kind}
use Rattle.dt_kinds.specs.declared.kind.Kind.TheVariants.{Byte}
use Rattle.dt_kinds.specs.Kind.{name_of}
use Rattle.dt_map.specs.declared.entry.Entry.{Entry}
use Rattle.dt_tree.specs.Weights.{Weights, weights_of, AreLight}
use Rattle.dt_normal.specs.declared.low.Low.{Low}
use Rattle.dt_spelling.specs.Reading.{Reader, bind, item_at, kind_in, where_true, words_from}
use Rattle.dt_spelling.specs.Spelling.{Word, Words, space, words_in}
use Rattle.dt_spelling.proofs.Cuts.{cut_again}
use Rattle.dt_spelling.proofs.Numbers.{passed, IsSpaceless, passes_spaceless, decimal_spaceless, signed_spaceless, name_spaceless, kind_spelled, kind_means}
use Rattle.dt_spelling.proofs.Readers.{Good, bind_good, give_good, item_good}
use Rattle.dt_spelling.proofs.Rests.{from_within}
use Rattle.dt_cert.specs.Text.{weights_line, entry_line}
use Rattle.dt_verdict.specs.Lines.{line_as}
use Rattle.dt_verdict.specs.Number.{natural_in, signed_in}
use Rattle.dt_verdict.specs.Reading.{is_word, weights_at, number_at, base_at, entry_at, value_at, no_more, whole_of}
use Rattle.dt_verdict.proofs.Naturals.{natural_spelled, natural_means}
use Rattle.dt_verdict.proofs.Signeds.{IsSigned, signed_means, signed_spelled, signed_within}

-- a line and its words
abbrev pub line_of : Words → Word
line_of words = join_with_byte space words

no_more_ok : {A : Type 0} (x y : A) (words : Words) → result_ok (no_more x words) ≡ Some y → (x ≡ y) × (words ≡ [])
no_more_ok x y [] e = (cc, refl)
no_more_ok x y (word ∷ words) e = cc

whole_ok : {A : Type 0} (read : Result (A × Words) Words) (y : A) → result_ok (whole_of read) ≡ Some y → read ≡ Ok (y, [])
whole_ok (Ok found) y e =
    let h = no_more_ok found.0 y found.1 e in ap (λ z. Ok (z, found.1)) h.0 ∙ ap (λ (ws : Words). Ok (y, ws)) h.1
whole_ok (Err left) y e = cc

all_words : (line : Word) → words_from line 0 ≡ words_in line
all_words line = from_within line 0 (omega arith)

pub line_means : {A : Type 0} (P : A → Words → Type 0) (r : Reader A) → Good P r → (line : Word) (x : A) → line_as r line ≡ Some x → P x (words_in line)
line_means P r good line x e =
    let took = good.ok (words_from line 0) [] x (whole_ok (r (words_from line 0)) x e) in
    subst (P x) (sym (append-nil took.front) ∙ (sym took.whole ∙ all_words line)) took.has

pub line_is : (line : Word) (words : Words) → words_in line ≡ words → line ≡ line_of words
line_is line words e = sym (join_with_byte-slice_split space line) ∙ ap (join_with_byte space) e

pub line_again : {A : Type 0} (r : Reader A) (words : Words) (x : A) → words_in (line_of words) ≡ words → r words ≡ Ok (x, []) → line_as r (line_of words) ≡ Some x
line_again {A} r words x cut e =
    ap (λ (ws : Words). result_ok (whole_of (r ws))) (all_words (line_of words) ∙ cut) ∙ ap (λ (read : Result (A × Words) Words). result_ok (whole_of read)) e

-- single words
weaker : {A : Type 0} (P Q : A → Words → Type 0) (r : Reader A) → ((x : A) (u : Words) → P x u → Q x u) → Good P r → Good Q r
weaker P Q r f good = record {
  ok = λ words rest x e. let t = good.ok words rest x e in record { front = t.front; whole = t.whole; has = f x t.front t.has; again = t.again };
  err = good.err;
  some = good.some;
}

front_word : (u v : Words) (w : Word) (ws : Words) → u ≡ w ∷ [] → v ≡ ws → u ++ v ≡ w ∷ ws
front_word u v w ws a b = ap (λ (x : Words). x ++ v) a ∙ ap (λ (x : Words). w ∷ x) b

abbrev IsNatural : ℕ → ℕ → Words → Type 0
IsNatural most n u = (u ≡ decimal n ∷ []) × (n ≤ most)

natural_good : (most : ℕ) → Good (IsNatural most) (item_at (natural_in most))
natural_good most = item_good (IsNatural most) (natural_in most) (decimal 0) 0 (natural_spelled most (decimal 0) 0 (omega arith) (omega arith) refl)
    (λ w y e. let h = natural_means most w y e in (ap (λ (x : Word). x ∷ []) h.1, h.0))

abbrev IsInteger : ℤ → Words → Type 0
IsInteger x u = (u ≡ signed_decimal x ∷ []) × (IsSigned x ≡ true)

zero_is_signed : IsSigned (pos 0) ≡ true
unfolding IsSigned
zero_is_signed = refl

signed_good : Good IsInteger (item_at signed_in)
signed_good = item_good IsInteger signed_in (signed_decimal (pos 0)) (pos 0) (signed_spelled (pos 0) zero_is_signed)
    (λ w y e. let h = signed_means w y e in (ap (λ (x : Word). x ∷ []) h.0, h.1))

abbrev IsKind : Kind → Words → Type 0
IsKind kind u = u ≡ name_of kind ∷ []

kind_good : Good IsKind (item_at kind_in)
kind_good = item_good IsKind kind_in (name_of Byte) Byte (kind_spelled Byte) (λ w y e. ap (λ (x : Word). x ∷ []) (kind_means w y e))

abbrev IsName : Word → Unit {0} → Words → Type 0
IsName name x u = u ≡ name ∷ []

name_again : (name : Word) → is_word name name ≡ Some tt
name_again name = ap (λ b. where_true b tt) ((bytes_eq-Decides name name).1 refl)

name_good : (name : Word) → Good (IsName name) (item_at (is_word name))
name_good name = item_good (IsName name) (is_word name) name tt (name_again name)
    (λ w y e. ap (λ (x : Word). x ∷ []) ((bytes_eq-Decides w name).0 (passed (bytes_eq w name) tt y e).0))

natural_again : (most n : ℕ) → n ≤ most → most < 18446744073709551616 → natural_in most (decimal n) ≡ Some n
natural_again most n high fits = natural_spelled most (decimal n) n high (omega arith) refl

-- a name and a number
module _ (name : Word) (most : ℕ) where
  number_good : Good (λ n u. (u ≡ name ∷ decimal n ∷ []) × (n ≤ most)) (number_at name most)
  unfolding number_at
  number_good =
      bind_good (IsName name) _ (item_at (is_word name)) _ (name_good name) (λ x u a.
      weaker (IsNatural most) (λ n v. (u ++ v ≡ name ∷ decimal n ∷ []) × (n ≤ most)) (item_at (natural_in most)) (λ n v b. (front_word u v name (decimal n ∷ []) a b.0, b.1)) (natural_good most))

  pub number_means : (line : Word) (n : ℕ) → line_as (number_at name most) line ≡ Some n → (line ≡ line_of (name ∷ decimal n ∷ [])) × (n ≤ most)
  number_means line n e =
      let h = line_means (λ n u. (u ≡ name ∷ decimal n ∷ []) × (n ≤ most)) (number_at name most) number_good line n e in (line_is line (name ∷ decimal n ∷ []) h.0, h.1)

  pub number_again : (n : ℕ) → IsSpaceless name → n ≤ most → most < 18446744073709551616 → line_as (number_at name most) (line_of (name ∷ decimal n ∷ [])) ≡ Some n
  unfolding number_at bind
  number_again n free high fits =
      line_again (number_at name most) (name ∷ decimal n ∷ []) n (cut_again name (decimal n ∷ []) free (decimal_spaceless n (omega arith), tt))
      (rw (name_again name) (rw (natural_again most n high fits) refl))

-- a base
base_good : Good (λ x u. (u ≡ codes "base" ∷ signed_decimal x ∷ []) × (IsSigned x ≡ true)) base_at
unfolding base_at
base_good =
    bind_good (IsName (codes "base")) _ (item_at (is_word (codes "base"))) _ (name_good (codes "base")) (λ x u a.
    weaker IsInteger (λ z v. (u ++ v ≡ codes "base" ∷ signed_decimal z ∷ []) × (IsSigned z ≡ true)) (item_at signed_in) (λ z v b. (front_word u v (codes "base") (signed_decimal z ∷ []) a b.0, b.1)) signed_good)

pub base_means : (line : Word) (x : ℤ) → line_as base_at line ≡ Some x → (line ≡ line_of (codes "base" ∷ signed_decimal x ∷ [])) × (IsSigned x ≡ true)
base_means line x e =
    let h = line_means (λ z u. (u ≡ codes "base" ∷ signed_decimal z ∷ []) × (IsSigned z ≡ true)) base_at base_good line x e in (line_is line (codes "base" ∷ signed_decimal x ∷ []) h.0, h.1)

signed_free : (x : ℤ) → IsSigned x ≡ true → IsSpaceless (signed_decimal x)
signed_free x e =
    let h = signed_within x e in
    let low = h.0 in
    let high = h.1 in
    signed_spaceless x (omega (arith, ints, clamps, low, high))

pub base_again : (x : ℤ) → IsSigned x ≡ true → line_as base_at (line_of (codes "base" ∷ signed_decimal x ∷ [])) ≡ Some x
unfolding base_at bind
base_again x e =
    line_again base_at (codes "base" ∷ signed_decimal x ∷ []) x (cut_again (codes "base") (signed_decimal x ∷ []) (passes_spaceless (codes "base") refl) (signed_free x e, tt))
    (rw (signed_spelled x e) refl)

-- an entry
entry_good : Good (λ x u. (u ≡ entry_line x) × (IsSigned x.disp ≡ true)) entry_at
unfolding entry_at
entry_good =
    bind_good (IsName (codes "entry")) _ (item_at (is_word (codes "entry"))) _ (name_good (codes "entry")) (λ x u a.
    bind_good IsKind _ (item_at kind_in) _ kind_good (λ kind v b.
    bind_good IsInteger _ (item_at signed_in) _ signed_good (λ disp w c.
    give_good (λ y z. (u ++ (v ++ (w ++ z)) ≡ entry_line y) × (IsSigned y.disp ≡ true)) (record { kind = kind; disp = disp })
    (front_word u (v ++ (w ++ [])) (codes "entry") _ a (front_word v (w ++ []) (name_of kind) _ b (append-nil w ∙ c.0)), c.1))))

pub entry_means : (line : Word) (x : Entry) → line_as entry_at line ≡ Some x → (line ≡ line_of (entry_line x)) × (IsSigned x.disp ≡ true)
entry_means line x e =
    let h = line_means (λ y u. (u ≡ entry_line y) × (IsSigned y.disp ≡ true)) entry_at entry_good line x e in (line_is line (entry_line x) h.0, h.1)

pub entry_again : (x : Entry) → IsSigned x.disp ≡ true → line_as entry_at (line_of (entry_line x)) ≡ Some x
unfolding entry_at bind
entry_again x e =
    line_again entry_at (entry_line x) x (cut_again (codes "entry") (name_of x.kind ∷ signed_decimal x.disp ∷ []) (passes_spaceless (codes "entry") refl) (name_spaceless x.kind, (signed_free x.disp e, tt)))
    (rw (kind_spelled x.kind) (rw (signed_spelled x.disp e) refl))

-- a value
module _ (name : Word) where
  abbrev value_words : Low → Words
  value_words a = name ∷ decimal a.from ∷ decimal a.to ∷ decimal a.low ∷ []

  abbrev Fits : Low → Type 0
  Fits a = (a.from ≤ 1024) × (a.to ≤ 1024) × (a.low ≤ 18446744073709551615)

  value_good : Good (λ a u. (u ≡ value_words a) × Fits a) (value_at name)
  unfolding value_at
  value_good =
      bind_good (IsName name) _ (item_at (is_word name)) _ (name_good name) (λ x u a.
      bind_good (IsNatural 1024) _ (item_at (natural_in 1024)) _ (natural_good 1024) (λ from v b.
      bind_good (IsNatural 1024) _ (item_at (natural_in 1024)) _ (natural_good 1024) (λ to w c.
      bind_good (IsNatural 18446744073709551615) _ (item_at (natural_in 18446744073709551615)) _ (natural_good 18446744073709551615) (λ low z d.
      give_good (λ y t. (u ++ (v ++ (w ++ (z ++ t))) ≡ value_words y) × Fits y) (record { from = from; to = to; low = low })
      (front_word u _ name _ a (front_word v _ (decimal from) _ b.0 (front_word w (z ++ []) (decimal to) _ c.0 (append-nil z ∙ d.0))), (b.1, c.1, d.1))))))

  pub value_means : (line : Word) (a : Low) → line_as (value_at name) line ≡ Some a → (line ≡ line_of (value_words a)) × Fits a
  value_means line a e =
      let h = line_means (λ y u. (u ≡ value_words y) × Fits y) (value_at name) value_good line a e in (line_is line (value_words a) h.0, h.1)

  pub value_again : (a : Low) → IsSpaceless name → Fits a → line_as (value_at name) (line_of (value_words a)) ≡ Some a
  unfolding value_at bind
  value_again a free fits =
      let from = fits.0 in
      let to = fits.1 in
      let low = fits.2 in
      line_again (value_at name) (value_words a) a
      (cut_again name (decimal a.from ∷ decimal a.to ∷ decimal a.low ∷ []) free (decimal_spaceless a.from (omega arith), (decimal_spaceless a.to (omega arith), (decimal_spaceless a.low (omega arith), tt))))
      (rw (name_again name) (rw (natural_again 1024 a.from from (omega arith)) (rw (natural_again 1024 a.to to (omega arith)) (rw (natural_again 18446744073709551615 a.low low (omega arith)) refl))))

-- weights
abbrev AreWeights : Weights → Words → Type 0
AreWeights w u = (u ≡ weights_line w) × AreLight w

weights_good : Good AreWeights weights_at
unfolding weights_at
weights_good =
    bind_good (IsName (codes "weights")) _ (item_at (is_word (codes "weights"))) _ (name_good (codes "weights")) (λ x u a.
    bind_good (IsNatural 1000000) _ (item_at (natural_in 1000000)) _ (natural_good 1000000) (λ leaf v b.
    bind_good (IsNatural 1000000) _ (item_at (natural_in 1000000)) _ (natural_good 1000000) (λ vector w c.
    bind_good (IsNatural 1000000) _ (item_at (natural_in 1000000)) _ (natural_good 1000000) (λ index z d.
    bind_good (IsNatural 1000000) _ (item_at (natural_in 1000000)) _ (natural_good 1000000) (λ place s e.
    bind_good (IsNatural 1000000) _ (item_at (natural_in 1000000)) _ (natural_good 1000000) (λ group t f.
    bind_good (IsNatural 1000000) _ (item_at (natural_in 1000000)) _ (natural_good 1000000) (λ part q g.
    give_good (λ y r. AreWeights y (u ++ (v ++ (w ++ (z ++ (s ++ (t ++ (q ++ r)))))))) (weights_of leaf vector index place group part) (
      front_word u _ (codes "weights") _ a
          (front_word v _ (decimal leaf) _ b.0 (front_word w _ (decimal vector) _ c.0 (front_word z _ (decimal index) _ d.0 (front_word s _ (decimal place) _ e.0 (front_word t (q ++ []) (decimal group) _ f.0 (append-nil q ∙ g.0)))))),
      let leaf_high = b.1 in
          let vector_high = c.1 in
          let index_high = d.1 in
          let place_high = e.1 in
          let group_high = f.1 in
          let part_high = g.1 in
          omega (arith, clamps),
    ))))))))

pub weights_means : (line : Word) (w : Weights) → line_as weights_at line ≡ Some w → (line ≡ line_of (weights_line w)) × AreLight w
weights_means line w e =
    let h = line_means AreWeights weights_at weights_good line w e in (line_is line (weights_line w) h.0, h.1)

pub weights_again : (w : Weights) → AreLight w → line_as weights_at (line_of (weights_line w)) ≡ Some w
unfolding weights_at bind
weights_again w light =
    let leaf : w.leaf ≤ 1000000 = omega (arith, clamps, light) in
    let vector : w.vector ≤ 1000000 = omega (arith, clamps, light) in
    let index : w.index ≤ 1000000 = omega (arith, clamps, light) in
    let place : w.place ≤ 1000000 = omega (arith, clamps, light) in
    let group : w.group ≤ 1000000 = omega (arith, clamps, light) in
    let part : w.part ≤ 1000000 = omega (arith, clamps, light) in
    let again : (n : ℕ) → n ≤ 1000000 → natural_in 1000000 (decimal n) ≡ Some n = λ n high. natural_again 1000000 n high (omega arith) in
    let free : (n : ℕ) → n ≤ 1000000 → IsSpaceless (decimal n) = λ n high. decimal_spaceless n (omega arith) in
    line_again weights_at (weights_line w) w
    (cut_again (codes "weights") (decimal w.leaf ∷ decimal w.vector ∷ decimal w.index ∷ decimal w.place ∷ decimal w.group ∷ decimal w.part ∷ []) (passes_spaceless (codes "weights") refl)
    (free w.leaf leaf, (free w.vector vector, (free w.index index, (free w.place place, (free w.group group, (free w.part part, tt)))))))
    (rw (again w.leaf leaf) (rw (again w.vector vector) (rw (again w.index index) (rw (again w.place place) (rw (again w.group group) (rw (again w.part part) refl))))))
