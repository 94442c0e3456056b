-- Texts that are drawn piece by piece.
use Rattle.std.proofs.Common.{◌≡◌, ℕ, zero, suc, ◌+◌, ◌-◌, ◌*◌, ◌%◌, ◌≤◌, ◌<◌, min, List, [], ◌∷◌, ◌++◌, decimal, refl, sym, ap, subst, ◌∙◌, append_assoc, append-nil, arith}
use Rattle.dt_gen.specs.Draws.{Drawing, draw}
use Rattle.dt_gen.specs.Script.{spaced, piece, turn_lines, turns_at, round_text_at, rounds_at, places_at}

-- a text with what is drawn behind it, and the word then
abbrev pub after : List ℕ → ℕ → Drawing (List ℕ) → List ℕ × ℕ
after text word drawing = (text ++ (drawing word).0, (drawing word).1)

-- what is drawn first may as well stand in the text
behind : (text first : List ℕ) (word : ℕ) (more : Drawing (List ℕ)) → ◌≡◌ {A = List ℕ × ℕ} (text ++ (first ++ (more word).0), (more word).1) (after (text ++ first) word more)
behind text first word more = ap (λ x. let p : List ℕ × ℕ = (x, (more word).1) in p) (sym (append_assoc text first (more word).0))

-- nothing more is drawn
pub nothing : (text : List ℕ) (word : ℕ) → ◌≡◌ {A = List ℕ × ℕ} (text ++ [], word) (text, word)
nothing text word = ap (λ x. let p : List ℕ × ℕ = (x, word) in p) (append-nil text)

-- displacements
pub places_more : (n i : ℕ) (text : List ℕ) (word : ℕ) → i < n
    → after text word (places_at (n - i) i) ≡ after (text ++ spaced (decimal (3 * i + (draw 2 word).0))) (draw 2 word).1 (places_at (n - (i + 1)) (i + 1))
unfolding places_at
places_more n i text word lt =
    let same : n - i ≡ suc (n - (i + 1)) = omega (arith, lt) in
    let next : suc i ≡ i + 1 = omega arith in
    ap (λ k. after text word (places_at k i)) same
    ∙ (behind text (spaced (decimal (3 * i + (draw 2 word).0))) (draw 2 word).1 (places_at (n - (i + 1)) (suc i))
    ∙ ap (λ k. after (text ++ spaced (decimal (3 * i + (draw 2 word).0))) (draw 2 word).1 (places_at (n - (i + 1)) k)) next)

pub no_places : (n : ℕ) (text : List ℕ) (word : ℕ) → after text word (places_at (n - n) n) ≡ (text, word)
unfolding places_at
no_places n text word =
    let none : n - n ≡ 0 = omega arith in
    ap (λ k. after text word (places_at k n)) none ∙ nothing text word

-- rounds
pub rounds_more : (n r : ℕ) (text : List ℕ) (word : ℕ) → r < n
    → after text word (rounds_at (n - r) r) ≡ after (text ++ (round_text_at r word).0) (round_text_at r word).1 (rounds_at (n - (r + 1)) (r + 1))
unfolding rounds_at
rounds_more n r text word lt =
    let same : n - r ≡ suc (n - (r + 1)) = omega (arith, lt) in
    let next : suc r ≡ r + 1 = omega arith in
    ap (λ k. after text word (rounds_at k r)) same
    ∙ (behind text (round_text_at r word).0 (round_text_at r word).1 (rounds_at (n - (r + 1)) (suc r))
    ∙ ap (λ k. after (text ++ (round_text_at r word).0) (round_text_at r word).1 (rounds_at (n - (r + 1)) k)) next)

pub no_rounds : (n : ℕ) (text : List ℕ) (word : ℕ) → after text word (rounds_at (n - n) n) ≡ (text, word)
unfolding rounds_at
no_rounds n text word =
    let none : n - n ≡ 0 = omega arith in
    ap (λ k. after text word (rounds_at k n)) none ∙ nothing text word

-- turns, as many at most as bytes are left
pub record Turned (r given total : ℕ) (text : List ℕ) (word : ℕ) (old : List ℕ) (first : ℕ) : Type 0 where
  pub turns : ℕ
  pub within : given ≤ total
  pub enough : total - given ≤ turns
  pub same : after text word (turns_at turns r given (total - given)) ≡ after old first (turns_at total r 0 total)

abbrev pub asked : ℕ → ℕ
asked word = 1 + (draw 97 word).0

turns_cut : (turns r given left : ℕ) (text : List ℕ) (word : ℕ)
    → after text word (turns_at (suc turns) r given (suc left))
    ≡ after (text ++ turn_lines r (asked word) given (min (asked word) (suc left))) (draw 97 word).1
    (turns_at turns r (given + min (asked word) (suc left)) (suc left - min (asked word) (suc left)))
unfolding turns_at
turns_cut turns r given left text word =
    behind text (turn_lines r (asked word) given (min (asked word) (suc left))) (draw 97 word).1
    (turns_at turns r (given + min (asked word) (suc left)) (suc left - min (asked word) (suc left)))

pub turned_more : (r given total : ℕ) (text : List ℕ) (word : ℕ) (old : List ℕ) (first : ℕ) (len : ℕ) → given < total → len ≡ min (asked word) (total - given)
    → Turned r given total text word old first
    → Turned r (given + len) total (text ++ turn_lines r (asked word) given len) (draw 97 word).1 old first
turned_more r given total text word old first len lt is t = by t.turns t.enough t.same
  where
    by : (turns : ℕ) → total - given ≤ turns → after text word (turns_at turns r given (total - given)) ≡ after old first (turns_at total r 0 total)
        → Turned r (given + len) total (text ++ turn_lines r (asked word) given len) (draw 97 word).1 old first
    by zero enough same = absurd (omega (arith, lt, enough))
    by (suc turns) enough same =
        let left : ℕ = total - given - 1 in
        let more : total - given ≡ suc left = omega (arith, lt) in
        let some : 1 ≤ asked word = omega arith in
        let size : len ≡ min (asked word) (suc left) = is ∙ ap (min (asked word)) more in
        let low : 1 ≤ len = omega (arith, is, some, lt) in
        let high : len ≤ total - given = omega (arith, is) in
        let rest : suc left - len ≡ total - (given + len) = omega (arith, more, high) in
        record {
          turns = turns;
          within = omega (arith, high, lt);
          enough = omega (arith, enough, low, high, lt);
          same =
              sym (ap (λ k. after (text ++ turn_lines r (asked word) given len) (draw 97 word).1 (turns_at turns r (given + len) k)) rest)
              ∙ (ap (λ k. after (text ++ turn_lines r (asked word) given k) (draw 97 word).1 (turns_at turns r (given + k) (suc left - k))) size
              ∙ (sym (turns_cut turns r given left text word) ∙ (sym (ap (λ k. after text word (turns_at (suc turns) r given k)) more) ∙ same)));
        }

no_turns : (turns r given : ℕ) (text : List ℕ) (word : ℕ) → after text word (turns_at turns r given 0) ≡ (text, word)
unfolding turns_at
no_turns zero r given text word = nothing text word
no_turns (suc turns) r given text word = nothing text word

-- two pairs that are one
pub both : {A B : Type 0} (x y : A × B) → x ≡ y → (x.0 ≡ y.0) × (x.1 ≡ y.1)
both x y same = (ap (λ p. p.0) same, ap (λ p. p.1) same)

pub turned_end : (r given total : ℕ) (text : List ℕ) (word : ℕ) (old : List ℕ) (first : ℕ) → ¬ (given < total) → Turned r given total text word old first
    → (text ≡ old ++ (turns_at total r 0 total first).0) × (word ≡ (turns_at total r 0 total first).1)
turned_end r given total text word old first not t =
    let none : total - given ≡ 0 = omega (arith, not) in
    both (text, word) (after old first (turns_at total r 0 total))
    (sym (no_turns t.turns r given text word) ∙ (sym (ap (λ k. after text word (turns_at t.turns r given k)) none) ∙ t.same))

-- bytes of a piece
pub piece_more : (r e i : ℕ) (bytes : List ℕ) → i < e → bytes ++ piece r i (e - i) ≡ (bytes ++ (7 * i + r) % 256 ∷ []) ++ piece r (i + 1) (e - (i + 1))
unfolding piece
piece_more r e i bytes lt =
    let same : e - i ≡ suc (e - (i + 1)) = omega (arith, lt) in
    let next : suc i ≡ i + 1 = omega arith in
    ap (λ k. bytes ++ piece r i k) same
    ∙ (sym (append_assoc bytes ((7 * i + r) % 256 ∷ []) (piece r (suc i) (e - (i + 1)))) ∙ ap (λ k. (bytes ++ (7 * i + r) % 256 ∷ []) ++ piece r k (e - (i + 1))) next)

pub no_piece : (r e : ℕ) (bytes : List ℕ) → bytes ++ piece r e (e - e) ≡ bytes
unfolding piece
no_piece r e bytes =
    let none : e - e ≡ 0 = omega arith in
    ap (λ k. bytes ++ piece r e k) none ∙ append-nil bytes

-- where all is drawn
pub places_end : (n i : ℕ) (text : List ℕ) (word : ℕ) (whole : List ℕ × ℕ) → i ≡ n → after text word (places_at (n - i) i) ≡ whole → (text ≡ whole.0) × (word ≡ whole.1)
places_end n i text word whole last same =
    both (text, word) whole (sym (no_places n text word) ∙ (sym (ap (λ k. after text word (places_at (n - k) k)) last) ∙ same))

pub rounds_end : (n r : ℕ) (text : List ℕ) (word : ℕ) (whole : List ℕ × ℕ) → r ≡ n → after text word (rounds_at (n - r) r) ≡ whole → (text ≡ whole.0) × (word ≡ whole.1)
rounds_end n r text word whole last same =
    both (text, word) whole (sym (no_rounds n text word) ∙ (sym (ap (λ k. after text word (rounds_at (n - k) k)) last) ∙ same))
