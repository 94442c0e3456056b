-- what becomes of a text is one thing
use Rattle.std.proofs.Common.{◌≡◌, ◌≢◌, ◌⊎◌, inl, inr, ℕ, Bool, true, false, List, [], ◌∷◌, ◌++◌, take, drop, codes, bytes_eq, slice_index, Result, Ok, Err, MatchResult, refl, sym, ap, subst, ◌∙◌, append_assoc, arith}
use Rattle.std.specs.Global.{Vec}
use Rattle.std.specs.List.{flat_map}
use Rattle.std.proofs.lemmas.List.{take-append-drop}
use Rattle.std.proofs.lemmas.Slice.Eq.{bytes_eq-Decides}
use Rattle.dt_map.specs.declared.entry.Entry.{Entry}
use Rattle.dt_tree.specs.Weights.{Weights}
use Rattle.dt_spelling.specs.Spelling.{Words}
use Rattle.dt_cert.specs.Certificate.{Certificate, Version, BySegments, ByClasses}
use Rattle.dt_cert.specs.Shown.{IsShown}
use Rattle.dt_cert.specs.Text.{text_of_line, version_line, weights_line, map_lines, text_of}
use Rattle.dt_verdict.specs.declared.verdict.NotShown.{NotShown}
use Rattle.dt_verdict.specs.declared.verdict.NotShown.TheVariants.{Syntax, WrongMap, WrongCost, LowFails, RootBelow, NoMemory}
use Rattle.dt_verdict.specs.Laws.{MigratedStays, MigratedOrNot, OneFault}
use Rattle.dt_verdict.specs.Migrated.{IsFromFirst, IsMigrated, IsNotMigrated, IsOldFault}
use Rattle.dt_verdict.specs.Old.{IsOld, IsOldOf, IsOldBegun, IsOldRefused}
use Rattle.dt_verdict.specs.Verdict.{IsNotShown}
use Rattle.dt_verdict.proofs.Verdicts.{nothing_shown, one_first_wrong, one_reason}

-- whether a text is of version 1
old_or_not : (text : List ℕ) → IsOld text ⊎ (¬ IsOld text)
old_or_not text = of (bytes_eq (take 9 text) (codes "dtcert 1\n")) refl
  where
    of : (b : Bool) → bytes_eq (take 9 text) (codes "dtcert 1\n") ≡ b → IsOld text ⊎ (¬ IsOld text)
    of true is = inl (drop 9 text, sym (take-append-drop 9 text) ∙ ap (λ (t : List ℕ). t ++ drop 9 text) ((bytes_eq-Decides (take 9 text) (codes "dtcert 1\n")).0 is))
    of false is = inr (λ old. cc (is, (bytes_eq-Decides (take 9 text) (codes "dtcert 1\n")).1 (ap (take 9) old.1)))

first_number : (version : Version) (behind rest : List ℕ) → text_of_line (version_line version) ++ rest ≡ codes "dtcert 1\n" ++ behind → ⊥
first_number BySegments behind rest e = absurd (omega (arith, ap (λ t. slice_index t 7) e))
first_number ByClasses behind rest e = absurd (omega (arith, ap (λ t. slice_index t 7) e))

shown_is_new : (text : List ℕ) (c : Certificate) → IsShown text c → ¬ IsOld text
shown_is_new text c shown old = first_number c.version old.0 _ (sym shown.written ∙ old.1)

old_is : (text : List ℕ) (w : Weights) (m : List Entry) → IsOldOf text w m → IsOld text
old_is text w m h = (flat_map text_of_line (weights_line w ∷ map_lines m) ++ h.behind, h.written ∙ append_assoc (codes "dtcert 1\n") (flat_map text_of_line (weights_line w ∷ map_lines m)) h.behind)

pub migrated_stays : MigratedStays
migrated_stays text now (inl h) = inr (inr (record { certificate = h.certificate; shown = h.shown; version = h.version; same = refl }))
migrated_stays text now (inr (inl h)) = inr (inr (record { certificate = _; shown = h.now_shown; version = refl; same = refl }))
migrated_stays text now (inr (inr h)) = inr (inr (record { certificate = h.certificate; shown = subst (λ t. IsShown t h.certificate) (sym h.same) h.shown; version = h.version; same = refl }))

faultless : (text : List ℕ) (w : Weights) (m : List Entry) (reason : NotShown) → reason ≢ NoMemory → IsOldOf text w m → IsOldFault text reason → ⊥
faultless text w m (Syntax line) some of fault = fault.0 w m of
faultless text w m NoMemory some of fault = some refl
faultless text w m (WrongMap at) some of fault = fault
faultless text w m (WrongCost stated found) some of fault = fault
faultless text w m (LowFails start end) some of fault = fault
faultless text w m (RootBelow low cost) some of fault = fault

pub migrated_or_not : MigratedOrNot
migrated_or_not text now reason some (inl h) fault =
    faultless text h.certificate.weights h.certificate.entries reason some h.old (fault.0 (old_is text h.certificate.weights h.certificate.entries h.old))
migrated_or_not text now reason some (inr (inl h)) fault = nothing_shown text reason some (fault.1 (shown_is_new text h.certificate h.shown)) h.certificate h.shown
migrated_or_not text now reason some (inr (inr h)) fault = nothing_shown text reason some (fault.1 (shown_is_new text h.certificate h.shown)) h.certificate h.shown

fewer : (before left : Words) → IsOldBegun (before ++ left) → IsOldBegun before
fewer before left b = record { weights = b.weights; entries = b.entries; behind = left ++ b.behind; allowed = b.allowed; written = b.written ∙ append_assoc before left b.behind }

line_of_fault : (text : List ℕ) (reason : NotShown) → reason ≢ NoMemory → IsOldFault text reason → (line : ℕ) × (reason ≡ Syntax line) × IsOldRefused text line
line_of_fault text (Syntax line) some fault = (line, refl, fault)
line_of_fault text NoMemory some fault = absurd (some refl)
line_of_fault text (WrongMap at) some fault = absurd fault
line_of_fault text (WrongCost stated found) some fault = absurd fault
line_of_fault text (LowFails start end) some fault = absurd fault
line_of_fault text (RootBelow low cost) some fault = absurd fault

pub one_fault : OneFault
one_fault text reason other some others h k = elim (old_or_not text) [
  | inl old ↦
      let a = line_of_fault text reason some (h.0 old) in
      let b = line_of_fault text other others (k.0 old) in
      a.1 ∙ (ap Syntax (one_first_wrong IsOldBegun fewer text a.0 b.0 a.2.1 b.2.1) ∙ sym b.1)
  | inr new ↦ one_reason text reason other some others (h.1 new) (k.1 new)
]

-- what is answered to a text of version 1, and why another becomes nothing
pub first_migrated : (text : List ℕ) (r : Result (Vec ℕ) NotShown) → IsOld text → MatchResult r (λ now. IsFromFirst text now.items) (λ fault. IsOldFault text fault)
    → MatchResult r (λ now. IsMigrated text now.items) (λ fault. IsNotMigrated text fault)
first_migrated text (Ok now) old h = inl h
first_migrated text (Err fault) old h = ((λ _. h), (λ new. absurd (new old)))

pub new_fault : (text : List ℕ) (fault : NotShown) → ¬ IsOld text → IsNotShown text fault → IsNotMigrated text fault
new_fault text fault new h = ((λ old. absurd (new old)), (λ _. h))

pub no_memory : (text : List ℕ) → IsNotMigrated text NoMemory
no_memory text = ((λ _. tt), (λ _. tt))
