-- `done` is the greatest number of leading elements that fit
use Rattle.std.proofs.Common.{◌≡◌, ℕ, zero, suc, ◌+◌, ◌-◌, ◌≤◌, ◌<◌, Bool, cond, List, [], ◌∷◌, take, length, sym, subst, arith, inl, inr}
use Rattle.std.proofs.lemmas.List.Sums.{sum_by-cons}
use Rattle.std.proofs.lemmas.Bool.Decides.{leb_tells}
use Rattle.dt_kinds.specs.declared.kind.Rep.{Rep}
use Rattle.dt_kinds.specs.Kind.{packed_size}
use Rattle.dt_map.specs.declared.entry.Entry.{Entry}
use Rattle.dt_map.specs.Packed.{total}
use Rattle.dt_map.specs.Setting.{done}
use Rattle.dt_map.specs.Laws.{DoneIsGreatest}

abbrev IsGreatest : Rep → List Entry → ℕ → ℕ → Type 0
IsGreatest rep es n d = (d ≤ length es) × (total rep (take d es) ≤ n) × ((k : ℕ) → k ≤ length es → total rep (take k es) ≤ n → k ≤ d)

total-cons : (rep : Rep) (e : Entry) (es : List Entry) → total rep (e ∷ es) ≡ packed_size rep e.kind + total rep es
total-cons rep e es = sum_by-cons (λ (e : Entry). packed_size rep e.kind) e es

one_more : (rep : Rep) (e : Entry) (es : List Entry) (n d : ℕ) → packed_size rep e.kind ≤ n → IsGreatest rep es (n - packed_size rep e.kind) d → IsGreatest rep (e ∷ es) n (suc d)
one_more rep e es n d fits h = (
  omega (arith, h.0),
  omega (arith, h.1, total-cons rep e (take d es)),
  no_more,
)
  where
    no_more : (k : ℕ) → k ≤ length (e ∷ es) → total rep (take k (e ∷ es)) ≤ n → k ≤ suc d
    no_more zero within small = omega arith
    no_more (suc k) within small = let tail = h.2 k (omega arith) (omega (arith, small, total-cons rep e (take k es))) in omega arith

none_fits : (rep : Rep) (e : Entry) (es : List Entry) (n : ℕ) → n < packed_size rep e.kind → IsGreatest rep (e ∷ es) n 0
none_fits rep e es n large = (omega arith, omega arith, no_more)
  where
    no_more : (k : ℕ) → k ≤ length (e ∷ es) → total rep (take k (e ∷ es)) ≤ n → k ≤ 0
    no_more zero within small = omega arith
    no_more (suc k) within small = absurd (omega (arith, small, large, total-cons rep e (take k es)))

pub done_is_greatest : DoneIsGreatest
done_is_greatest rep [] n = (omega arith, omega arith, λ k within small. within)
done_is_greatest rep (e ∷ es) n =
    let size = packed_size rep e.kind in
    let result : Bool → Type 0 = λ b. IsGreatest rep (e ∷ es) n (cond b (suc (done rep es (n - size))) 0) in
    elim (leb_tells size n) [
      | inl h ↦ subst result (sym h.0) (one_more rep e es n (done rep es (n - size)) h.1 (done_is_greatest rep es (n - size)))
      | inr h ↦ subst result (sym h.0) (none_fits rep e es n h.1)
    ]
