-- each form is read as it is spelled, and so no spelling begins another
use Rattle.std.proofs.Common.{◌≡◌, ℕ, zero, suc, ◌++◌, List, [], Result, Ok, sym, ap, ◌∙◌, append-nil}
use Rattle.dt_form.specs.declared.form.FormOf.{FormOf}
use Rattle.dt_type.specs.declared.datatype.Seen.{Seen}
use Rattle.dt_wire.specs.Laws.{NoSpellingBeginsAnother, NoTextBeginsAnother, OneSpelling}
use Rattle.dt_wire.specs.Reading.{Bytes, form_at}
use Rattle.dt_wire.specs.Spelling.{magic, spelling, text_of}
use Rattle.dt_wire.proofs.Forms.{form_spells}

same_read : (x y : FormOf Seen × Bytes) → (let r : Result (FormOf Seen × Bytes) Bytes = Ok x in r ≡ Ok y) → (x.0 ≡ y.0) × (x.1 ≡ y.1)
same_read x y e = let same : x ≡ y = cc in (ap (λ (p : FormOf Seen × Bytes). p.0) same, ap (λ (p : FormOf Seen × Bytes). p.1) same)

pub no_spelling_begins_another : NoSpellingBeginsAnother
no_spelling_begins_another zero form other behind behind_other is is_other e = absurd is
no_spelling_begins_another (suc levels) form other behind behind_other is is_other e =
    let first = (form_spells levels).again form behind is in
    let second = (form_spells levels).again other behind_other is_other in
    same_read _ _ (sym first ∙ (ap (form_at (suc levels)) e ∙ second))

behind_magic : (u v : List ℕ) → magic ++ u ≡ magic ++ v → u ≡ v
behind_magic u v e = cc

pub one_spelling : OneSpelling
one_spelling text text' form form' h h' = (
  λ same.
      let texts : spelling 64 form ≡ spelling 64 form' = behind_magic (spelling 64 form) (spelling 64 form') (sym h.1 ∙ (same ∙ h'.1)) in
      (no_spelling_begins_another 64 form form' [] [] h.0 h'.0 (ap (λ (t : List ℕ). t ++ []) texts)).0,
  λ same. h.1 ∙ (ap text_of same ∙ sym h'.1),
)

pub no_text_begins_another : NoTextBeginsAnother
no_text_begins_another text text' behind form form' h h' e =
    let texts : spelling 64 form ++ behind ≡ spelling 64 form' ++ [] =
    behind_magic (spelling 64 form ++ behind) (spelling 64 form' ++ []) (sym (ap (λ (t : List ℕ). t ++ behind) h.1) ∙ (e ∙ (h'.1 ∙ sym (append-nil (text_of form'))))) in
    (no_spelling_begins_another 64 form form' behind [] h.0 h'.0 texts).1
