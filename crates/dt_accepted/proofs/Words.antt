-- A line of words is read as its words.
use Rattle.std.proofs.Common.{◌≡◌, ℕ, zero, suc, ◌-◌, Bool, true, false, not, cond, ◌&&◌, ◌==◌, nat_le, List, [], ◌∷◌, ◌++◌, map, length, take, drop, codes, IsTrue, refl, sym, ap, subst, ◌∙◌, append_assoc, arith}
use Rattle.std.proofs.lemmas.Bool.{and_parts}
use Rattle.std.specs.List.{AllByRecursion, list_all, flat_map, filter, ends_with}
use Rattle.std.specs.Prelude.{nat_eq}
use Rattle.std.specs.Cmp.Lexicographic.{pointwise}
use Rattle.dt_gen.specs.Script.{spaced, line}
use Rattle.dt_script.specs.declared.command.Command.{Command}
use Rattle.dt_script.specs.Command.{IsCommand}
use Rattle.dt_script.specs.Line.{Does, IsLine, is_text_byte, is_text, begins_with_hash, is_passed_over}
use Rattle.dt_script.specs.Lines.{raw_lines, onto_first_line, without_return, script_lines}
use Rattle.dt_script.specs.Words.{is_blank, is_empty, pieces_of, onto_first, words_of}

-- a printable byte of ASCII that isn't blank, and one or more such bytes
abbrev pub is_printable : ℕ → Bool
is_printable b = nat_le 33 b && nat_le b 126

abbrev pub is_word : List ℕ → Bool
is_word word = not (is_empty word) && list_all is_printable word

abbrev pub AreWords : List (List ℕ) → Type 0
AreWords words = AllByRecursion (λ word. IsTrue (is_word word)) words

-- what is no word's byte
no_blank : (b : ℕ) → is_printable b ≡ true → is_blank b ≡ false
no_blank b h = grind arith

printable_text : (b : ℕ) → is_printable b ≡ true → is_text_byte b ≡ true
printable_text b h = grind arith

no_feed : (b : ℕ) → is_text_byte b ≡ true → (b == 10) ≡ false
no_feed b h = grind arith

no_return : (b : ℕ) → is_text_byte b ≡ true → nat_eq 13 b ≡ false
no_return b h = grind arith

-- all of some bytes
pub all_more : (p q : ℕ → Bool) → ((b : ℕ) → p b ≡ true → q b ≡ true) → (xs : List ℕ) → list_all p xs ≡ true → list_all q xs ≡ true
all_more p q to [] h = refl
all_more p q to (x ∷ xs) h =
    let parts = and_parts (p x) (list_all p xs) h in
    ap (λ b. b && list_all q xs) (to x parts.0) ∙ all_more p q to xs parts.1

pub all_append : (p : ℕ → Bool) (xs ys : List ℕ) → list_all p xs ≡ true → list_all p ys ≡ true → list_all p (xs ++ ys) ≡ true
all_append p [] ys h g = g
all_append p (x ∷ xs) ys h g =
    let parts = and_parts (p x) (list_all p xs) h in
    ap (λ b. b && list_all p (xs ++ ys)) parts.0 ∙ all_append p xs ys parts.1 g

all_drop : (p : ℕ → Bool) (k : ℕ) (xs : List ℕ) → list_all p xs ≡ true → list_all p (drop k xs) ≡ true
all_drop p zero xs h = h
all_drop p (suc k) [] h = h
all_drop p (suc k) (x ∷ xs) h = all_drop p k xs (and_parts (p x) (list_all p xs) h).1

-- a line of text ends at its line feed
raw_line : (text rest : List ℕ) → is_text text ≡ true → raw_lines (text ++ 10 ∷ rest) ≡ text ∷ raw_lines rest
raw_line [] rest h = refl
raw_line (b ∷ text) rest h =
    let parts = and_parts (is_text_byte b) (is_text text) h in
    ap (λ v. cond v ([] ∷ raw_lines (text ++ 10 ∷ rest)) (onto_first_line b (raw_lines (text ++ 10 ∷ rest)))) (no_feed b parts.0)
    ∙ ap (onto_first_line b) (raw_line text rest parts.1)

-- and has no carriage return
ends_otherwise : (xs : List ℕ) → is_text xs ≡ true → ends_with nat_eq xs (13 ∷ []) ≡ false
ends_otherwise xs h = by (drop (length xs - 1) xs) (all_drop is_text_byte (length xs - 1) xs h)
  where
    by : (ys : List ℕ) → is_text ys ≡ true → pointwise nat_eq (13 ∷ []) ys ≡ false
    by [] g = refl
    by (y ∷ ys) g = ap (λ b. b && pointwise nat_eq [] ys) (no_return y (and_parts (is_text_byte y) (is_text ys) g).0)

kept_whole : (xs : List ℕ) → is_text xs ≡ true → without_return xs ≡ xs
kept_whole xs h = ap (λ b. cond b (take (length xs - 1) xs) xs) (ends_otherwise xs h)

one_line : (text rest : List ℕ) → is_text text ≡ true → script_lines (text ++ 10 ∷ rest) ≡ text ∷ script_lines rest
one_line text rest h = ap (map without_return) (raw_line text rest h) ∙ ap (λ l. l ∷ script_lines rest) (kept_whole text h)

-- the bytes of words
abbrev pub joined : List ℕ → List (List ℕ) → List ℕ
joined first words = first ++ flat_map spaced words

word_parts : (word : List ℕ) → is_word word ≡ true → (not (is_empty word) ≡ true) × (list_all is_printable word ≡ true)
word_parts word h = and_parts (not (is_empty word)) (list_all is_printable word) h

word_text : (word : List ℕ) → is_word word ≡ true → is_text word ≡ true
word_text word h = all_more is_printable is_text_byte printable_text word (word_parts word h).1

spaced_text : (words : List (List ℕ)) → AreWords words → is_text (flat_map spaced words) ≡ true
spaced_text [] h = refl
spaced_text (word ∷ words) h = all_append is_text_byte word (flat_map spaced words) (word_text word h.0) (spaced_text words h.1)

joined_text : (first : List ℕ) (words : List (List ℕ)) → AreWords (first ∷ words) → is_text (joined first words) ≡ true
joined_text first words h = all_append is_text_byte first (flat_map spaced words) (word_text first h.0) (spaced_text words h.1)

-- a line of words is one line
pub line_first : (first : List ℕ) (words : List (List ℕ)) (rest : List ℕ) → AreWords (first ∷ words)
    → script_lines (line first words ++ rest) ≡ joined first words ∷ script_lines rest
unfolding line
line_first first words rest h =
    ap script_lines (append_assoc (joined first words) (codes "\n") rest)
    ∙ one_line (joined first words) rest (joined_text first words h)

-- and its words are these
pieces_end : (word : List ℕ) → list_all is_printable word ≡ true → pieces_of (word ++ []) ≡ word ∷ []
pieces_end [] h = refl
pieces_end (b ∷ word) h =
    let parts = and_parts (is_printable b) (list_all is_printable word) h in
    ap (λ v. cond v ([] ∷ pieces_of (word ++ [])) (onto_first b (pieces_of (word ++ [])))) (no_blank b parts.0)
    ∙ ap (onto_first b) (pieces_end word parts.1)

pieces_more : (word rest : List ℕ) → list_all is_printable word ≡ true → pieces_of (word ++ 32 ∷ rest) ≡ word ∷ pieces_of rest
pieces_more [] rest h = refl
pieces_more (b ∷ word) rest h =
    let parts = and_parts (is_printable b) (list_all is_printable word) h in
    ap (λ v. cond v ([] ∷ pieces_of (word ++ 32 ∷ rest)) (onto_first b (pieces_of (word ++ 32 ∷ rest)))) (no_blank b parts.0)
    ∙ ap (onto_first b) (pieces_more word rest parts.1)

pieces_are : (first : List ℕ) (words : List (List ℕ)) → AreWords (first ∷ words) → pieces_of (joined first words) ≡ first ∷ words
pieces_are first [] h = pieces_end first (word_parts first h.0).1
pieces_are first (word ∷ words) h =
    pieces_more first (joined word words) (word_parts first h.0).1 ∙ ap (λ ws. first ∷ ws) (pieces_are word words h.1)

none_empty : (words : List (List ℕ)) → AreWords words → filter (λ piece. not (is_empty piece)) words ≡ words
none_empty [] h = refl
none_empty (word ∷ words) h =
    let rest = filter (λ piece. not (is_empty piece)) words in
    ap (λ b. cond b (word ∷ rest) rest) (word_parts word h.0).0 ∙ ap (λ ws. word ∷ ws) (none_empty words h.1)

words_are : (first : List ℕ) (words : List (List ℕ)) → AreWords (first ∷ words) → words_of (joined first words) ≡ first ∷ words
words_are first words h = ap (filter (λ piece. not (is_empty piece))) (pieces_are first words h) ∙ none_empty (first ∷ words) h

-- what they mean
pub line_means : (first : List ℕ) (words : List (List ℕ)) (command : Command) → AreWords (first ∷ words) → begins_with_hash first ≡ false
    → IsCommand (first ∷ words) command → IsLine (joined first words) (Does command)
line_means first words command h plain is =
    let same = sym (words_are first words h) in (
      subst (λ ws. is_passed_over ws ≡ false) same plain,
      joined_text first words h,
      subst (λ ws. IsCommand ws command) same is,
    )
