-- Lemmas on bytes that pass in several calls.
use Rattle.std.proofs.Common.{◌≡◌, ℕ, ◌+◌, ◌-◌, ◌<◌, ◌≤◌, min, Option, List, [], ◌++◌, arith, ap, ◌∙◌, take-append-drop, drop_of_length-le, length, take, drop, sym, subst, length-append, length-take-le}
use Rattle.std.proofs.Math.Seq.{take-add}
use Rattle.std.proofs.lemmas.List.{take_rest}
use Rattle.std.proofs.KnownBytes.{Appends-trans, Consumes-trans}
use Rattle.std.specs.Io.KnownBytes.{Appends, Consumes}
use Rattle.dt_base.specs.Counter.{counted}
use Rattle.dt_base.specs.Transfer.{TakesFront}

-- a front of a piece was appended, and then a front of what was left of it
pub Appends-front_more : (a b c : Option (List ℕ)) (piece : List ℕ) (done n : ℕ) → Appends a b (take done piece)
    → Appends b c (take n (take (length piece - done) (drop done piece))) → Appends a c (take (done + n) piece)
Appends-front_more a b c piece done n first second =
    let second = subst (λ rest. Appends b c (take n rest)) (take_rest piece done) second in
    subst (Appends a c) (sym (take-add done n piece)) (Appends-trans a b c _ _ first second)

-- bytes were taken, and then the first n of a buffer
pub TakesFront-more : (a b c : Option (List ℕ)) (before between now n : ℕ) (bytes out : List ℕ) → Consumes a b bytes → between ≡ counted before (length bytes)
    → n ≤ length out → Consumes b c (take n out) → now ≡ counted between n → TakesFront a c before now
TakesFront-more a b c before between now n bytes out first first_count within second second_count =
    (bytes ++ take n out, Consumes-trans a b c bytes (take n out) first second, omega (arith, length-append bytes (take n out), length-take-le n out within))

-- a read gave the first n of the bytes left, which are none only where there are none or there is no room
pub reads_front : (old new out : List ℕ) (n most : ℕ) → take n out ≡ take n old → new ≡ drop n old → n ≡ min most (min (length old) (length out)) → 1 ≤ most
    → (old ≡ take n out ++ new) × (n ≡ 0 → 0 < length out → new ≡ [])
reads_front old new out n most front rest least some = (
  sym (take-append-drop n old) ∙ ap (λ l. l ++ drop n old) (sym front) ∙ ap (λ l. take n out ++ l) (sym rest),
  λ none room. rest ∙ drop_of_length-le old {i = n} (omega arith),
)
