-- Merges bracket rows, or it shows at one place that they don't.
use Rattle.std.proofs.Common.{◌≡◌, ℕ, zero, suc, ◌+◌, ◌-◌, ◌<◌, ◌⊎◌, inl, inr, List, length, get_or, subst, arith}
use Rattle.std.proofs.lemmas.Bool.{cases_lt, cases_eq}
use Rattle.dt_reduce.specs.Laws.{MergesHaveOneAnswer}
use Rattle.dt_reduce.specs.Merges.{Bracket, ShowsAt, IsGood, IsFirstBad, turns}

module _ (n : ℕ) (merges : List ℕ) where
  -- so many members are all good, or there is a first one that isn't
  searched : (t : ℕ) → ((i : ℕ) → i < t → IsGood n merges i) ⊎ ((at : ℕ) × IsFirstBad n merges t at)
  searched zero = inl (λ i less. absurd (omega (arith, less)))
  searched (suc t) =
      elim (searched t) [
        | inl all ↦
            elim (cases_lt (get_or merges t 0 + 1) (n - t)) [
              | inl good ↦ inl (λ i less. elim (cases_lt i t) [ inl early ↦ all i early | inr late ↦ let here : t ≡ i = omega (arith, less, late) in subst (IsGood n merges) here good ])
              | inr bad ↦ inr (t, record { before = all; within = omega arith; here = λ good. omega (arith, good, bad) })
            ]
        | inr found ↦ let within = found.1.within in inr (found.0, record { before = found.1.before; within = omega (arith, within); here = found.1.here })
      ]

  answered : 0 < n → Bracket n merges ⊎ ((at : ℕ) × ShowsAt n merges at)
  answered some =
      elim (searched (turns n merges)) [
        | inl all ↦
            elim (cases_eq (length merges + 1) n) [
              | inl count ↦ inl (record { count = count; good = λ i less. all i (omega (arith, less, count)) })
              | inr other ↦ inr (turns n merges, record { before = all; within = omega arith; here = λ less. absurd (omega (arith, less)); behind = λ last. other })
            ]
        | inr found ↦
            let within = found.1.within in
            inr (found.0, record { before = found.1.before; within = omega (arith, within); here = λ less. found.1.here; behind = λ last. absurd (omega (arith, last, within)) })
      ]

  excluded : (at : ℕ) → ShowsAt n merges at → Bracket n merges → ⊥
  excluded at s b =
      let within = s.within in
      let count = b.count in
      elim (cases_lt at (turns n merges)) [
        | inl less ↦ s.here less (b.good at (omega (arith, less)))
        | inr late ↦ s.behind (omega (arith, late, within)) count
      ]

  not_later : (at other : ℕ) → ShowsAt n merges at → ShowsAt n merges other → at < other → ⊥
  not_later at other s t less = let within = t.within in s.here (omega (arith, less, within)) (t.before at less)

  once : (at other : ℕ) → ShowsAt n merges at → ShowsAt n merges other → at ≡ other
  once at other s t =
      elim (cases_lt at other) [
        | inl less ↦ absurd (not_later at other s t less)
        | inr up ↦ elim (cases_lt other at) [ inl less ↦ absurd (not_later other at t s less) | inr down ↦ omega (arith, up, down) ]
      ]

pub merges_have_one_answer : MergesHaveOneAnswer
merges_have_one_answer n merges some = (answered n merges some, excluded n merges, once n merges)
