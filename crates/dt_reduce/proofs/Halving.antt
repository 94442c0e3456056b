-- Merges by halves bracket the rows, and so do merges at the first place.
use Rattle.std.proofs.Common.{◌≡◌, ℕ, zero, suc, ◌-◌, ◌/◌, ◌<◌, inl, inr, List, [], ◌++◌, length, get_or, replicate, refl, sym, ap, subst, ◌∙◌, arith, length-append, append-nil}
use Rattle.std.proofs.lemmas.Bool.{cases_lt}
use Rattle.std.proofs.lemmas.List.{append_assoc, get_or_append_left, get_or-append_right, length-replicate}
use Rattle.dt_map.proofs.Seats.{length-below, get_or-below}
use Rattle.dt_offsets.specs.Offsets.{below}
use Rattle.dt_reduce.specs.Laws.{ZerosBracket}
use Rattle.dt_reduce.specs.Merges.{AreHalves, one, more, Bracket}

-- the pairs of neighbours first, and then merges of what is left
halves_first : (n : ℕ) (rest : List ℕ) → 1 < n → Bracket (n - n / 2) rest → Bracket n (below (n / 2) ++ rest)
halves_first n rest some b =
    let half = n / 2 in
    let count = b.count in
    let long = length-below half in
    record {
      count = omega (arith, some, count, long, length-append (below half) rest);
      good = λ i less. elim (cases_lt i half) [
        | inl early ↦
            let at : get_or (below half ++ rest) i 0 ≡ i = get_or_append_left (below half) rest 0 i (omega (arith, early, long)) ∙ get_or-below half i 0 early in
            omega (arith, at, early)
        | inr late ↦
            let at : get_or (below half ++ rest) i 0 ≡ get_or rest (i - half) 0 = get_or-append_right (below half) rest half i 0 long late in
            let good = b.good (i - half) (omega (arith, less, late, long, length-append (below half) rest)) in
            omega (arith, at, late, good)
      ];
    }

pub halves_bracket : {n : ℕ} {merges : List ℕ} → AreHalves n merges → Bracket n merges
halves_bracket one = record { count = omega arith; good = λ i less. absurd (omega (arith, less)) }
halves_bracket (more n rest some left) = halves_first n rest some (halves_bracket left)

-- a round appends the pairs of neighbours
pub next_round : (n left : ℕ) (merges next : List ℕ) → ((rest : List ℕ) → AreHalves left rest → AreHalves n (merges ++ rest)) → 1 < left → next ≡ merges ++ below (left / 2)
    → (rest : List ℕ) → AreHalves (left - left / 2) rest → AreHalves n (next ++ rest)
next_round n left merges next missing some is rest later =
    subst (AreHalves n) (sym (append_assoc merges (below (left / 2)) rest) ∙ ap (λ s. s ++ rest) (sym is)) (missing (below (left / 2) ++ rest) (more left rest some later))

-- where one row is left, no merges are missing
pub none_missing : (n left : ℕ) (merges : List ℕ) → ((rest : List ℕ) → AreHalves left rest → AreHalves n (merges ++ rest)) → left ≡ 1 → AreHalves n merges
none_missing n left merges missing is = subst (AreHalves n) (append-nil merges) (missing [] (subst (λ k. AreHalves k []) (sym is) one))

same_at : (x n i : ℕ) → get_or (replicate n x) i x ≡ x
same_at x zero i = refl
same_at x (suc n) zero = refl
same_at x (suc n) (suc i) = same_at x n i

-- merges at the first place, one less than there are rows
pub zeros_bracket : ZerosBracket
zeros_bracket n some =
    let zeros : List ℕ = replicate (n - 1) 0 in
    let long : length zeros ≡ n - 1 = length-replicate (n - 1) 0 in
    record {
      count = omega (arith, some, long);
      good = λ i less. let at = same_at 0 (n - 1) i in omega (arith, at, less, long);
    }
