-- entries read one at a time
use Rattle.std.proofs.Common.{◌≡◌, ℕ, suc, List, [], ◌∷◌, ◌++◌, Result, Ok, Err, refl, sym, ap, ◌∙◌, append_assoc}
use Rattle.dt_map.specs.declared.entry.Entry.{Entry}
use Rattle.dt_spelling.specs.Reading.{bind, on_ok, give, item_at, with_front}
use Rattle.dt_spelling.specs.Spelling.{Words}
use Rattle.dt_verdict.specs.declared.stop.Stop.{Stop}
use Rattle.dt_verdict.specs.declared.stop.Stop.TheVariants.{At, NoMemory}
use Rattle.dt_verdict.specs.Lines.{entries_at, entry_in, Stops}

-- a loop's step: what was read stands in front of what is read then
push_front : {A : Type 0} (front : List A) (x : A) (r : Result (List A × Words) Words) → with_front front (on_ok r (λ more. give (x ∷ more))) ≡ with_front (front ++ x ∷ []) r
push_front front x (Ok more) = ap (λ xs. Ok (xs, more.1)) (sym (append_assoc front (x ∷ []) more.0))
push_front front x (Err left) = refl

pub entries_step : (front : List Entry) (n m : ℕ) (lines rest : Words) (x : Entry) → n ≡ suc m → item_at entry_in lines ≡ Ok (x, rest) →
    with_front front (entries_at n lines) ≡ with_front (front ++ x ∷ []) (entries_at m rest)
unfolding bind
entries_step front n m lines rest x is read =
    ap (λ k. with_front front (entries_at k lines)) is
    ∙ (ap (λ (r : Result (Entry × Words) Words). with_front front (on_ok r (λ first behind. on_ok (entries_at m behind) (λ more. give (first ∷ more))))) read
    ∙ push_front front x (entries_at m rest))

-- reading stops at the same line, however many entries were read before
pub entries_stopped : (text : List ℕ) (stop : Stop) (front : List Entry) (n m : ℕ) (lines : Words) → n ≡ suc m → Stops text stop (item_at entry_in lines) → Stops text stop (with_front front (entries_at n lines))
unfolding bind
entries_stopped text NoMemory front n m lines is read = tt
entries_stopped text (At at) front n m lines is read =
    ap (λ k. with_front front (entries_at k lines)) is
    ∙ ap (λ (r : Result (Entry × Words) Words). with_front front (on_ok r (λ first behind. on_ok (entries_at m behind) (λ more. give (first ∷ more))))) read
