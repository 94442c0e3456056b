-- lines copied one after another
use Rattle.std.proofs.Common.{◌≡◌, ℕ, zero, suc, List, [], ◌∷◌, ◌++◌, take, refl, sym, ap, ◌∙◌, append_assoc, append-nil}
use Rattle.std.specs.List.{flat_map}
use Rattle.dt_cert.specs.Text.{line_feed}
use Rattle.dt_spelling.specs.Spelling.{Word, Words}
use Rattle.dt_verdict.specs.Cut.{ended}

none_of_none : (left : ℕ) → flat_map ended (take left []) ≡ []
none_of_none zero = refl
none_of_none (suc left) = refl

pub none_follow : (out : List ℕ) (left : ℕ) (lines : Words) → lines ≡ [] → out ++ flat_map ended (take left lines) ≡ out
none_follow out left lines is = ap (λ (ls : Words). out ++ flat_map ended (take left ls)) is ∙ (ap (λ (t : List ℕ). out ++ t) (none_of_none left) ∙ append-nil out)

pub none_wanted : (out : List ℕ) (left : ℕ) (lines : Words) → left ≡ 0 → out ++ flat_map ended (take left lines) ≡ out
none_wanted out left lines is = ap (λ n. out ++ flat_map ended (take n lines)) is ∙ append-nil out

pub one_copied : (out line : List ℕ) (lines more : Words) (left next : ℕ) → left ≡ suc next → more ≡ line ∷ lines
    → ((out ++ line) ++ line_feed ∷ []) ++ flat_map ended (take next lines) ≡ out ++ flat_map ended (take left more)
one_copied out line lines more left next is first =
    ap (λ (t : List ℕ). t ++ flat_map ended (take next lines)) (append_assoc out line (line_feed ∷ []))
    ∙ (append_assoc out (ended line) (flat_map ended (take next lines)) ∙ sym (ap (λ n. out ++ flat_map ended (take n more)) is ∙ ap (λ (ls : Words). out ++ flat_map ended (take (suc next) ls)) first))
