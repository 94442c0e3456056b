-- From what was asked for, read and written to what the call promises.
use Rattle.std.proofs.Common.{◌≡◌, ◌↔◌, ℕ, Bool, true, false, if◌then◌else◌, List, [], Option, Some, None, IfSome, refl, sym, ap, subst, ◌∙◌}
use Rattle.std.proofs.lemmas.List.{append-nil}
use Rattle.dt_base.specs.Transfer.{ReadsAll}
use Rattle.dt_call.specs.declared.status.Status.{Status}
use Rattle.dt_call.specs.declared.status.Status.TheVariants.{Done, Refused, Usage, ReadFault, WriteFault, NoMemory, TooLong}
use Rattle.dt_call.specs.declared.words.Asked.{Asked}
use Rattle.dt_call.specs.Progress.{Wrote}
use Rattle.dt_call.specs.Result.{Gained, IsAnswer, IsCutShort, IsResult, IsShort, WhereTold, input_of}
use Rattle.dt_call.specs.Words.{AreOther, asked_by, reads}
use Rattle.dt_call.proofs.RunLemmas.{nothing_short}
use Rattle.dt_call.proofs.WordLemmas.{asked_sound, others, reads_so}

-- words of none of the forms, and of one
pub wrong_words : (words : List (List ℕ)) → asked_by words ≡ None → (Usage ≡ Usage) ↔ AreOther words
wrong_words words none = (λ _. others words none, λ _. refl)

pub right_words : (words : List (List ℕ)) (asked : Asked) (status : Status) → asked_by words ≡ Some asked → (status ≡ Usage → ⊥) → (status ≡ Usage) ↔ AreOther words
right_words words asked status is not = (λ e. absurd (not e), λ other. absurd (other asked (asked_sound words asked is)))

pub read_fault_is : ReadFault ≡ Usage → ⊥
read_fault_is e = cc

pub too_long_is : TooLong ≡ Usage → ⊥
too_long_is e = cc

pub no_memory_is : NoMemory ≡ Usage → ⊥
no_memory_is e = cc

pub wrote_no_usage : (asked : Asked) (input : List ℕ) (status : Status) (old new : Option (List ℕ)) → Wrote asked input status old new → status ≡ Usage → ⊥
wrote_no_usage asked input status old new wrote e = (subst (λ s. Wrote asked input s old new) e wrote).2

-- what was written for an input, where it is told what the sink held
pub answered : (words : List (List ℕ)) (asked : Asked) (input : List ℕ) (status : Status) (old new : Option (List ℕ)) → asked_by words ≡ Some asked
    → Wrote asked input status old new → IsAnswer status → IfSome old (λ before. Gained new before (λ text. IsResult words input text status))
answered words asked input status None new is wrote answer = tt
answered words asked input status (Some before) None is (text, writes, says) answer = absurd writes
answered words asked input Done (Some before) (Some now) is (text, writes, says) answer = (text, ap (λ x. Some x) writes, (asked, asked_sound words asked is, says))
answered words asked input Refused (Some before) (Some now) is (text, writes, says) answer = (text, ap (λ x. Some x) writes, (asked, asked_sound words asked is, says))
answered words asked input status (Some before) (Some now) is wrote answer = absurd answer

pub shortened : (words : List (List ℕ)) (asked : Asked) (input : List ℕ) (status : Status) (old new : Option (List ℕ)) → asked_by words ≡ Some asked
    → Wrote asked input status old new → IsCutShort status → IfSome old (λ before. Gained new before (λ text. IsShort words input text status))
shortened words asked input status None new is wrote cut = tt
shortened words asked input status (Some before) None is (text, writes, says) cut = absurd writes
shortened words asked input WriteFault (Some before) (Some now) is (text, writes, says) cut = (text, ap (λ x. Some x) writes, (asked, asked_sound words asked is, says))
shortened words asked input NoMemory (Some before) (Some now) is (text, writes, says) cut = (text, ap (λ x. Some x) writes, (asked, asked_sound words asked is, says))
shortened words asked input status (Some before) (Some now) is wrote cut = absurd cut

-- where nothing is read, any input will do, and else it is what was read
pub told_unread : (words : List (List ℕ)) (asked : Asked) (left held : Option (List ℕ)) (P : List ℕ → List ℕ → Type 0) → asked_by words ≡ Some asked → reads asked ≡ false
    → IfSome held (P []) → WhereTold (input_of words left) held P
told_unread words asked left held P is not holds =
    let Q : Bool → Type 0 = λ b. WhereTold (if b then left else Some []) held P in
    subst Q (sym (reads_so words asked is ∙ not)) holds

pub told_read : (words : List (List ℕ)) (asked : Asked) (left after held : Option (List ℕ)) (input : List ℕ) (P : List ℕ → List ℕ → Type 0) → asked_by words ≡ Some asked
    → reads asked ≡ true → ReadsAll left after input → IfSome held (P input) → WhereTold (input_of words left) held P
told_read words asked left after held input P is does read holds =
    let Q : Bool → Type 0 = λ b. WhereTold (if b then left else Some []) held P in
    subst Q (sym (reads_so words asked is ∙ does)) (known left read)
  where
    known : (left : Option (List ℕ)) → ReadsAll left after input → WhereTold left held P
    known None read = tt
    known (Some bytes) read = subst (λ x. IfSome held (P x)) read.0 holds

-- where nothing was written since memory ran out
nothing_gained : (words : List (List ℕ)) (asked : Asked) (input : List ℕ) (held : Option (List ℕ)) → asked_by words ≡ Some asked
    → IfSome held (λ before. Gained held before (λ text. IsShort words input text NoMemory))
nothing_gained words asked input None is = tt
nothing_gained words asked input (Some before) is =
    ([], ap (λ x. Some x) (sym (append-nil before)), (asked, asked_sound words asked is, nothing_short asked input))

pub nothing_written : (words : List (List ℕ)) (asked : Asked) (left held : Option (List ℕ)) → asked_by words ≡ Some asked
    → WhereTold (input_of words left) held (λ input before. Gained held before (λ text. IsShort words input text NoMemory))
nothing_written words asked left held is = known (input_of words left)
  where
    known : (told : Option (List ℕ)) → WhereTold told held (λ input before. Gained held before (λ text. IsShort words input text NoMemory))
    known None = tt
    known (Some input) = nothing_gained words asked input held is
