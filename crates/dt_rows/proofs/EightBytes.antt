-- Eight bytes that are set one by one.
use Rattle.std.proofs.Common.{◌≡◌, ℕ, ◌+◌, ◌<◌, List, [], ◌∷◌, drop, length, reverse, get_or, sym, ap, ◌∙◌, arith}
use Rattle.std.proofs.Math.ListN.{set}
use Rattle.std.proofs.lemmas.List.{drop_more, drop_all}

-- a list of eight, told by its members
eight_of : (b : List ℕ) → length b ≡ 8
    → b ≡ get_or b 0 0 ∷ get_or b 1 0 ∷ get_or b 2 0 ∷ get_or b 3 0 ∷ get_or b 4 0 ∷ get_or b 5 0 ∷ get_or b 6 0 ∷ get_or b 7 0 ∷ []
eight_of b long =
    let next : (i : ℕ) → i < 8 → drop i b ≡ get_or b i 0 ∷ drop (i + 1) b = λ i lt. drop_more b i 0 (omega arith) in
    next 0 (omega arith)
    ∙ ap (λ t. get_or b 0 0 ∷ t) (next 1 (omega arith)
    ∙ ap (λ t. get_or b 1 0 ∷ t) (next 2 (omega arith)
    ∙ ap (λ t. get_or b 2 0 ∷ t) (next 3 (omega arith)
    ∙ ap (λ t. get_or b 3 0 ∷ t) (next 4 (omega arith)
    ∙ ap (λ t. get_or b 4 0 ∷ t) (next 5 (omega arith)
    ∙ ap (λ t. get_or b 5 0 ∷ t) (next 6 (omega arith)
    ∙ ap (λ t. get_or b 6 0 ∷ t) (next 7 (omega arith)
    ∙ ap (λ t. get_or b 7 0 ∷ t) (drop_all 8 b (omega arith)))))))))

-- a list of eight whose members were set to those of another, in their order or from the last one on
pub eight_set : (out b : List ℕ) → length out ≡ 8 → length b ≡ 8
    → set (set (set (set (set (set (set (set out 0 (get_or b 0 0)) 1 (get_or b 1 0)) 2 (get_or b 2 0)) 3 (get_or b 3 0)) 4 (get_or b 4 0)) 5 (get_or b 5 0)) 6 (get_or b 6 0)) 7 (get_or b 7 0) ≡ b
eight_set out b room long =
    ap (λ o. set (set (set (set (set (set (set (set o 0 (get_or b 0 0)) 1 (get_or b 1 0)) 2 (get_or b 2 0)) 3 (get_or b 3 0)) 4 (get_or b 4 0)) 5 (get_or b 5 0)) 6 (get_or b 6 0)) 7 (get_or b 7 0))
    (eight_of out room) ∙ sym (eight_of b long)

pub eight_turned : (out b : List ℕ) → length out ≡ 8 → length b ≡ 8
    → set (set (set (set (set (set (set (set out 0 (get_or b 7 0)) 1 (get_or b 6 0)) 2 (get_or b 5 0)) 3 (get_or b 4 0)) 4 (get_or b 3 0)) 5 (get_or b 2 0)) 6 (get_or b 1 0)) 7 (get_or b 0 0) ≡ reverse b
eight_turned out b room long =
    ap (λ o. set (set (set (set (set (set (set (set o 0 (get_or b 7 0)) 1 (get_or b 6 0)) 2 (get_or b 5 0)) 3 (get_or b 4 0)) 4 (get_or b 3 0)) 5 (get_or b 2 0)) 6 (get_or b 1 0)) 7 (get_or b 0 0))
    (eight_of out room) ∙ sym (ap reverse (eight_of b long))
