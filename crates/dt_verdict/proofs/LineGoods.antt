-- the readers of lines take lines from the front and nothing else, and what they take is spelled so
use Rattle.std.proofs.Common.{◌≡◌, inl, inr, ℕ, zero, suc, ◌≤◌, true, cond, ◌&&◌, ℤ, pos, Some, None, Ok, List, [], ◌∷◌, ◌++◌, map, length, codes, decimal, bytes_eq, refl, sym, ap, subst, ◌∙◌, append-nil, arith}
use Rattle.std.specs.Fmt.{signed_decimal}
use Rattle.std.specs.List.{All}
use Rattle.std.specs.Option.{option_and_then}
use Rattle.std.proofs.lemmas.List.Elements.{All-cons, All-nil}
use Rattle.std.proofs.lemmas.Slice.Eq.{bytes_eq-Decides}
use Rattle.dt_kinds.specs.declared.kind.Kind.TheVariants.{Byte}
use Rattle.dt_map.specs.declared.entry.Entry.{Entry}
use Rattle.dt_map.specs.Bounds.{end_of}
use Rattle.dt_map.specs.Limits.{EntryFits}
use Rattle.dt_tree.specs.Weights.{Weights, AreLight, default_weights}
use Rattle.dt_spelling.specs.Reading.{◌>>=◌, give, item_at, where_true}
use Rattle.dt_spelling.specs.Spelling.{Word, Words}
use Rattle.dt_spelling.proofs.Numbers.{both_true, passed, passes_spaceless}
use Rattle.dt_spelling.proofs.Readers.{Good, bind_good, give_good, item_good}
use Rattle.dt_cert.specs.Certificate.{Version, BySegments, ByClasses}
use Rattle.dt_cert.specs.Text.{version_line, weights_line, entry_line, map_lines}
use Rattle.dt_verdict.specs.Lines.{line_as, version_in, is_near, entry_in, entries_at}
use Rattle.dt_verdict.specs.Reading.{weights_at, number_at, base_at, entry_at}
use Rattle.dt_verdict.specs.Whole.{map_at}
use Rattle.dt_verdict.proofs.LineWords.{line_of, number_means, number_again, base_means, base_again, entry_means, entry_again, weights_means, weights_again}
use Rattle.dt_verdict.proofs.Naturals.{both_are}
use Rattle.dt_verdict.proofs.Signeds.{IsSigned, chosen, then_some, near_is, is_near_is, within_signed, fits_signed}

one : (line : Word) (words : Words) → line ≡ line_of words → line ∷ [] ≡ line_of words ∷ []
one line words e = ap (λ (l : Word). l ∷ []) e

pub front_line : (u v : Words) (w : Word) (ws : Words) → u ≡ w ∷ [] → v ≡ ws → u ++ v ≡ w ∷ ws
front_line u v w ws a b = ap (λ (x : Words). x ++ v) a ∙ ap (λ (x : Words). w ∷ x) b

-- the first two lines, a number and a base
abbrev pub IsVersion : Version → Words → Type 0
IsVersion version u = u ≡ line_of (version_line version) ∷ []

pub version_again : (version : Version) → version_in (line_of (version_line version)) ≡ Some version
version_again BySegments = refl
version_again ByClasses = refl

version_means : (line : Word) (version : Version) → version_in line ≡ Some version → line ≡ line_of (version_line version)
version_means line version e = elim (chosen (bytes_eq line (codes "dtcert 2")) (Some BySegments) (cond (bytes_eq line (codes "dtcert 3")) (Some ByClasses) None) (Some version) e) [
  | inl h ↦ let same : BySegments ≡ version = cc (h.1) in (bytes_eq-Decides line (codes "dtcert 2")).0 h.0 ∙ ap (λ v. line_of (version_line v)) same
  | inr h ↦ elim (chosen (bytes_eq line (codes "dtcert 3")) (Some ByClasses) None (Some version) h.1) [
    | inl k ↦ let same : ByClasses ≡ version = cc (k.1) in (bytes_eq-Decides line (codes "dtcert 3")).0 k.0 ∙ ap (λ v. line_of (version_line v)) same
    | inr k ↦ cc (k.1)
  ]
]

pub version_good : Good IsVersion (item_at version_in)
version_good = item_good IsVersion version_in (line_of (version_line ByClasses)) ByClasses refl (λ w y e. one w (version_line y) (version_means w y e))

abbrev pub AreWeights : Weights → Words → Type 0
AreWeights w u = (u ≡ line_of (weights_line w) ∷ []) × AreLight w

pub weights_good : Good AreWeights (item_at (line_as weights_at))
weights_good = item_good AreWeights (line_as weights_at) (line_of (weights_line default_weights)) default_weights (weights_again default_weights (omega arith))
    (λ w y e. let h = weights_means w y e in (one w (weights_line y) h.0, h.1))

abbrev pub IsNumber : Word → ℕ → ℕ → Words → Type 0
IsNumber name most n u = (u ≡ line_of (name ∷ decimal n ∷ []) ∷ []) × (n ≤ most)

pub map_number_good : Good (IsNumber (codes "map") 1024) (item_at (line_as (number_at (codes "map") 1024)))
map_number_good = item_good (IsNumber (codes "map") 1024) (line_as (number_at (codes "map") 1024)) (line_of (codes "map" ∷ decimal 0 ∷ [])) 0
    (number_again (codes "map") 1024 0 (passes_spaceless (codes "map") refl) (omega arith) (omega arith))
    (λ w y e. let h = number_means (codes "map") 1024 w y e in (one w (codes "map" ∷ decimal y ∷ []) h.0, h.1))

pub cost_good : Good (IsNumber (codes "cost") 18446744073709551615) (item_at (line_as (number_at (codes "cost") 18446744073709551615)))
cost_good = item_good (IsNumber (codes "cost") 18446744073709551615) (line_as (number_at (codes "cost") 18446744073709551615)) (line_of (codes "cost" ∷ decimal 0 ∷ [])) 0
    (number_again (codes "cost") 18446744073709551615 0 (passes_spaceless (codes "cost") refl) (omega arith) (omega arith))
    (λ w y e. let h = number_means (codes "cost") 18446744073709551615 w y e in (one w (codes "cost" ∷ decimal y ∷ []) h.0, h.1))

abbrev pub IsBase : ℤ → Words → Type 0
IsBase x u = (u ≡ line_of (codes "base" ∷ signed_decimal x ∷ []) ∷ []) × (IsSigned x ≡ true)

pub base_good : Good IsBase (item_at (line_as base_at))
base_good = item_good IsBase (line_as base_at) (line_of (codes "base" ∷ signed_decimal (pos 0) ∷ [])) (pos 0) (base_again (pos 0) (within_signed (pos 0) (omega arith) (omega arith)))
    (λ w y e. let h = base_means w y e in (one w (codes "base" ∷ signed_decimal y ∷ []) h.0, h.1))

-- entries
entry_means_in : (line : Word) (x : Entry) → entry_in line ≡ Some x → (line ≡ line_of (entry_line x)) × EntryFits x
unfolding entry_in
entry_means_in line x e =
    let h = then_some (λ y. where_true (is_near y.disp && is_near (end_of y)) y) (line_as entry_at line) x e in
    let p = passed (is_near (h.0).disp && is_near (end_of h.0)) h.0 x h.2 in
    let near = both_true (is_near (h.0).disp) (is_near (end_of h.0)) p.0 in
    subst (λ y. (line ≡ line_of (entry_line y)) × EntryFits y) p.1 ((entry_means line h.0 h.1).0, (near_is (h.0).disp near.0, near_is (end_of h.0) near.1))

pub entry_again_in : (x : Entry) → EntryFits x → entry_in (line_of (entry_line x)) ≡ Some x
unfolding entry_in
entry_again_in x fits =
    let signed = fits_signed x.disp fits.0 in
    ap (option_and_then (λ y. where_true (is_near y.disp && is_near (end_of y)) y)) (entry_again x signed)
    ∙ ap (λ b. where_true b x) (both_are (is_near x.disp) (is_near (end_of x)) (is_near_is x.disp fits.0) (is_near_is (end_of x) fits.1))

abbrev IsEntry : Entry → Words → Type 0
IsEntry x u = (u ≡ line_of (entry_line x) ∷ []) × EntryFits x

some_entry : Entry
some_entry = record { kind = Byte; disp = pos 0 }

entry_good : Good IsEntry (item_at entry_in)
unfolding some_entry
entry_good = item_good IsEntry entry_in (line_of (entry_line some_entry)) some_entry (entry_again_in some_entry ((omega arith, omega arith), (omega arith, omega arith)))
    (λ w y e. let h = entry_means_in w y e in (one w (entry_line y) h.0, h.1))

abbrev pub entry_text : Entry → Word
entry_text x = line_of (entry_line x)

abbrev pub AreEntries : ℕ → List Entry → Words → Type 0
AreEntries n es u = (u ≡ map entry_text es) × All EntryFits es × (length es ≡ n)

pub entries_good : (n : ℕ) → Good (AreEntries n) (entries_at n)
entries_good zero = give_good (AreEntries zero) [] (refl, All-nil EntryFits, refl)
entries_good (suc n) =
    bind_good IsEntry (AreEntries (suc n)) (item_at entry_in) (λ first. entries_at n >>= λ more. give (first ∷ more)) entry_good (λ x u a.
    bind_good (AreEntries n) (λ y v. AreEntries (suc n) y (u ++ v)) (entries_at n) (λ more. give (x ∷ more)) (entries_good n) (λ xs v b.
    give_good (λ y w. AreEntries (suc n) y (u ++ (v ++ w))) (x ∷ xs) (
      front_line u (v ++ []) (entry_text x) (map entry_text xs) a.0 (append-nil v ∙ b.0),
      All-cons EntryFits x xs a.1 b.1,
      ap suc b.2,
    )))

abbrev pub IsMap : List Entry → Words → Type 0
IsMap es u = (u ≡ map line_of (map_lines es)) × All EntryFits es × (length es ≤ 1024)

entry_texts : (es : List Entry) → map entry_text es ≡ map line_of (map entry_line es)
entry_texts [] = refl
entry_texts (e ∷ es) = ap (λ (ws : Words). entry_text e ∷ ws) (entry_texts es)

pub map_good : Good IsMap map_at
unfolding map_at
map_good =
    bind_good (IsNumber (codes "map") 1024) IsMap (item_at (line_as (number_at (codes "map") 1024))) (λ number. entries_at number) map_number_good (λ n u a. with_number n u a)
  where
    with_number : (n : ℕ) (u : Words) → IsNumber (codes "map") 1024 n u → Good (λ es v. IsMap es (u ++ v)) (entries_at n)
    with_number n u a = record {
      ok = λ words rest es e. let t = (entries_good n).ok words rest es e in record {
        front = t.front;
        whole = t.whole;
        has = (
          front_line u t.front (line_of (codes "map" ∷ decimal (length es) ∷ [])) (map line_of (map entry_line es))
              (a.0 ∙ ap (λ k. line_of (codes "map" ∷ decimal k ∷ []) ∷ []) (sym (t.has).2)) ((t.has).0 ∙ entry_texts es),
          (t.has).1,
          (let same = (t.has).2 in let high = a.1 in omega arith),
        );
        again = t.again;
      };
      err = (entries_good n).err;
      some = (entries_good n).some;
    }

-- what was read of a map
pub map_bounds : (es : List Entry) (lines rest : Words) → map_at lines ≡ Ok (es, rest) → All EntryFits es × (length es ≤ 1024)
map_bounds es lines rest e = let t = map_good.ok lines rest es e in ((t.has).1, (t.has).2)

pub entries_fit : (n : ℕ) (es : List Entry) (lines rest : Words) → entries_at n lines ≡ Ok (es, rest) → All EntryFits es
entries_fit n es lines rest e = (((entries_good n).ok lines rest es e).has).1
