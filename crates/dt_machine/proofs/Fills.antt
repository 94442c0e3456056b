-- How many bytes a new buffer has, and when it is refused.
use Rattle.std.proofs.Common.{◌≡◌, ℕ, ◌%◌, ℤ, pos, nat_abs, true, false, length, Option, Some, None, ◌≤◌, List, is_some, inl, inr, refl, subst, sym, ◌∙◌}
use Rattle.std.proofs.lemmas.Bool.{cases_lt}
use Rattle.std.proofs.lemmas.List.{length-map, length-replicate}
use Rattle.std.specs.Prelude.{int_lt, MatchOption}
use Rattle.dt_offsets.specs.Offsets.{below}
use Rattle.dt_offsets.proofs.Reaches.{length-below}
use Rattle.dt_script.specs.declared.command.Fill.{Fill}
use Rattle.dt_script.specs.declared.command.Fill.TheVariants.{Zero, Count}
use Rattle.dt_script.specs.declared.command.Command.TheVariants.{Buffer}
use Rattle.dt_machine.specs.declared.outcome.Change.TheVariants.{AddBuffer}
use Rattle.dt_machine.specs.Outcome.{CanChange}
use Rattle.dt_machine.specs.Refusal.{IsNegativeFill, conditions}
use Rattle.dt_machine.specs.Row.{IsClear}
use Rattle.dt_machine.specs.State.{State}
use Rattle.dt_names.specs.Names.{under, bytes_of}
use Rattle.dt_machine.proofs.Rows.{contrary}

zero_length : (len : ℤ) → length (bytes_of (Zero len)) ≡ nat_abs len
zero_length len = length-replicate (nat_abs len) 0

count_length : (len : ℤ) → length (bytes_of (Count len)) ≡ nat_abs len
count_length len = length-map (below (nat_abs len)) (λ i. i % 256) ∙ length-below (nat_abs len)

abbrev IsLength : Option ℕ → Fill → Type 0
IsLength found fill = MatchOption found (IsNegativeFill fill) (λ len. (¬ IsNegativeFill fill) × (len ≡ length (bytes_of fill)))

abbrev IsNumber : Option ℕ → ℤ → Type 0
IsNumber found len = MatchOption found (int_lt len (pos 0) ≡ true) (λ n. (int_lt len (pos 0) ≡ false) × (n ≡ nat_abs len))

pub zero_number : (len : ℤ) (found : Option ℕ) → IsNumber found len → IsLength found (Zero len)
zero_number len None h = h
zero_number len (Some n) h = (contrary (int_lt len (pos 0)) h.0, h.1 ∙ sym (zero_length len))

pub count_number : (len : ℤ) (found : Option ℕ) → IsNumber found len → IsLength found (Count len)
count_number len None h = h
count_number len (Some n) h = (contrary (int_lt len (pos 0)) h.0, h.1 ∙ sym (count_length len))

-- a new buffer's name stands for none, and it is small
none_taken : (found : Option (List ℕ)) → (¬ (is_some found ≡ true)) → found ≡ None
none_taken None h = refl
none_taken (Some bytes) h = absurd (h refl)

pub fill_can : (s : State) (name : List ℕ) (fill : Fill) (bytes : List ℕ) → bytes ≡ bytes_of fill → IsClear (conditions s (Buffer name fill))
    → CanChange (AddBuffer name bytes) s
fill_can s name fill bytes is clear =
    let few : length (bytes_of fill) ≤ 16777216 = elim (cases_lt 16777216 (length (bytes_of fill))) [ inl lt ↦ absurd (clear.1.1.1.0 (inl lt)) | inr le ↦ le ] in
    (none_taken (under name s.buffers) clear.0, subst (λ b. length b ≤ 16777216) (sym is) few)
