-- The first line of an input ends at its first line feed.
use Rattle.std.proofs.Common.{◌≡◌, ◌≢◌, ℕ, suc, ◌+◌, ◌<◌, ◌==◌, true, false, cond, not, List, [], ◌∷◌, length, take, drop, refl, ap, sym, subst, ◌∙◌, arith}
use Rattle.std.specs.List.{position_or_len}
use Rattle.dt_script.specs.Lines.{onto_first_line, raw_lines}

abbrev length_to_feed : List ℕ → ℕ
length_to_feed bytes = position_or_len (λ b. b == 10) bytes

one_more : (n : ℕ) → 1 + n ≡ suc n
one_more n = omega arith

-- the lines behind a first line
abbrev pub lines_after : List ℕ → List (List ℕ)
lines_after [] = []
lines_after (b ∷ bytes) = raw_lines bytes

in_front : (b : ℕ) (bytes : List ℕ) → onto_first_line b (raw_lines bytes) ≡ (b ∷ take (length_to_feed bytes) bytes) ∷ lines_after (drop (length_to_feed bytes) bytes)
in_front b [] = refl
in_front b (c ∷ bytes) =
    let n = length_to_feed bytes in
    elim (c == 10) as (λ v. onto_first_line b (cond v ([] ∷ raw_lines bytes) (onto_first_line c (raw_lines bytes)))
    ≡ (b ∷ take (cond (not v) (1 + n) 0) (c ∷ bytes)) ∷ lines_after (drop (cond (not v) (1 + n) 0) (c ∷ bytes)))
    [ true ↦ refl | false ↦ rw (one_more n) (ap (onto_first_line b) (in_front c bytes)) ]

first_at : (b : ℕ) (bytes : List ℕ) → raw_lines (b ∷ bytes) ≡ take (length_to_feed (b ∷ bytes)) (b ∷ bytes) ∷ lines_after (drop (length_to_feed (b ∷ bytes)) (b ∷ bytes))
first_at b bytes =
    let n = length_to_feed bytes in
    elim (b == 10) as (λ v. cond v ([] ∷ raw_lines bytes) (onto_first_line b (raw_lines bytes))
    ≡ take (cond (not v) (1 + n) 0) (b ∷ bytes) ∷ lines_after (drop (cond (not v) (1 + n) 0) (b ∷ bytes)))
    [ true ↦ refl | false ↦ rw (one_more n) (in_front b bytes) ]

pub first_raw : (bytes : List ℕ) (n : ℕ) → bytes ≢ [] → length_to_feed bytes ≡ n → raw_lines bytes ≡ take n bytes ∷ lines_after (drop n bytes)
first_raw [] n h e = absurd (h refl)
first_raw (b ∷ bytes) n h e =
    let P : ℕ → Type 0 = λ k. raw_lines (b ∷ bytes) ≡ take k (b ∷ bytes) ∷ lines_after (drop k (b ∷ bytes)) in
    subst P e (first_at b bytes)

pub some_byte : (bytes : List ℕ) → bytes ≢ [] → 0 < length bytes
some_byte [] h = absurd (h refl)
some_byte (b ∷ bytes) h = omega arith

-- the lines of an input whose first line and rest were cut apart
pub cut_at : (bytes line rest : List ℕ) (n : ℕ) → bytes ≢ [] → length_to_feed bytes ≡ n → line ≡ take n bytes → rest ≡ drop n bytes → raw_lines bytes ≡ line ∷ lines_after rest
cut_at bytes line rest n h e front back = first_raw bytes n h e ∙ ap (λ l. l ∷ lines_after (drop n bytes)) (sym front) ∙ ap (λ r. line ∷ lines_after r) (sym back)

pub no_lines_after : (rest : List ℕ) → length rest ≡ 0 → lines_after rest ≡ raw_lines rest
no_lines_after [] e = refl
no_lines_after (b ∷ rest) e = absurd (omega arith)
