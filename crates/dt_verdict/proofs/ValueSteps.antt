-- values read one line at a time
use Rattle.std.proofs.Common.{◌≡◌, true, false, cond, Some, None, List, [], ◌∷◌, Ok, Err, codes, bytes_eq, ap, ◌∙◌}
use Rattle.dt_map.specs.declared.entry.Entry.{Entry}
use Rattle.dt_normal.specs.declared.low.Low.{Low}
use Rattle.dt_spelling.specs.Reading.{with_front}
use Rattle.dt_spelling.specs.Spelling.{Word, Words}
use Rattle.dt_cert.specs.Certificate.{Version}
use Rattle.dt_verdict.specs.Values.{on_value, value_behind, values_at}

module _ (version : Version) (m : List Entry) (last : Low) (line : Word) (lines : Words) where
  pub at_end : bytes_eq line (codes "end") ≡ true → values_at version m last (line ∷ lines) ≡ Ok ([], lines)
  at_end e = ap (λ b. cond b (Ok ([], lines)) (on_value (value_behind version m last line) (line ∷ lines) (λ a. values_at version m a lines))) e

  not_end : bytes_eq line (codes "end") ≡ false → values_at version m last (line ∷ lines) ≡ on_value (value_behind version m last line) (line ∷ lines) (λ a. values_at version m a lines)
  not_end e = ap (λ b. cond b (Ok ([], lines)) (on_value (value_behind version m last line) (line ∷ lines) (λ a. values_at version m a lines))) e

  pub no_value : bytes_eq line (codes "end") ≡ false → value_behind version m last line ≡ None → values_at version m last (line ∷ lines) ≡ Err (line ∷ lines)
  no_value e none = not_end e ∙ ap (λ o. on_value o (line ∷ lines) (λ a. values_at version m a lines)) none

  pub one_value : (x : Low) → bytes_eq line (codes "end") ≡ false → value_behind version m last line ≡ Some x → values_at version m last (line ∷ lines) ≡ with_front (x ∷ []) (values_at version m x lines)
  one_value x e some = not_end e ∙ ap (λ o. on_value o (line ∷ lines) (λ a. values_at version m a lines)) some
