-- bytes have one answer, and the text of a datatype is read as that datatype
use Rattle.std.proofs.Common.{◌≡◌, ◌≢◌, ◌⊎◌, inl, inr, ℕ, zero, suc, List, [], ◌∷◌, flat_map, Result, Ok, Err, refl, sym, ap, subst, ◌∙◌, arith}
use Rattle.std.specs.List.{AllByRecursion}
use Rattle.dt_form.specs.Form.{olds_of}
use Rattle.dt_form.specs.declared.form.FormOf.{FormOf}
use Rattle.dt_form.specs.declared.form.FormOf.TheVariants.{Named, Dup, Contiguous, Vector, Hvector, Indexed, Hindexed, IndexedBlock, HindexedBlock, Struct, Subarray, Darray, Resized}
use Rattle.dt_map.specs.Limits.{IsInRange}
use Rattle.dt_map.specs.Typemap.{Marked}
use Rattle.dt_type.specs.Answer.{IsCause}
use Rattle.dt_type.specs.Datatype.{Layer, form_of, typemap_of}
use Rattle.dt_type.specs.Form.{result_of, map_by}
use Rattle.dt_type.specs.Whole.{AreProper, IsProper, IsWhole}
use Rattle.dt_type.specs.declared.datatype.Seen.{Seen, out-roll-Seen}
use Rattle.dt_type.specs.declared.fault.CtorFault.{CtorFault}
use Rattle.dt_type.specs.declared.fault.CtorFault.TheVariants.{BadArgument, Overflow, TooDeep, TooHeavy, NoMemory}
use Rattle.dt_wire.specs.Building.{calls_of}
use Rattle.dt_wire.specs.Fault.{IsBadAt}
use Rattle.dt_wire.specs.Import.{IsFirstCause, IsImported, IsRefused, IsTaken, IsWhy, called, calls, told}
use Rattle.dt_wire.specs.Laws.{OneAnswer, TextIsReadBack}
use Rattle.dt_wire.specs.Spelling.{text_of}
use Rattle.dt_wire.specs.Wire.{AreWritten, IsWire}
use Rattle.dt_wire.specs.declared.fault.WireFault.{WireFault}
use Rattle.dt_wire.specs.declared.fault.WireFault.TheVariants as why
use Rattle.dt_wire.proofs.Levels.{depth_is, weight_is, each_type_has_a_spelling}
use Rattle.dt_wire.proofs.Made.{taken_both}
use Rattle.dt_wire.proofs.Refused.{one_bad_place}
use Rattle.dt_wire.proofs.Uniques.{one_spelling}

-- a constructor that is taken has no cause, and one that isn't has one
no_cause : (f : FormOf Seen) (fault : CtorFault) → IsTaken f → IsCause f fault → fault ≡ NoMemory
no_cause f BadArgument taken c = absurd (c taken.arguments)
no_cause f Overflow taken c = absurd (c.1 taken.allowed.in_range)
no_cause f TooDeep taken c = let low = taken.allowed.shallow in let high = c.2 in absurd (omega (arith, low, high))
no_cause f TooHeavy taken c = let low = taken.allowed.light in let high = c.3 in absurd (omega (arith, low, high))
no_cause f NoMemory taken c = refl

one_cause : (f : FormOf Seen) (a b : CtorFault) → IsCause f a → IsCause f b → a ≢ NoMemory → b ≢ NoMemory → a ≡ b
one_cause f NoMemory b h k na nb = absurd (na refl)
one_cause f BadArgument NoMemory h k na nb = absurd (nb refl)
one_cause f Overflow NoMemory h k na nb = absurd (nb refl)
one_cause f TooDeep NoMemory h k na nb = absurd (nb refl)
one_cause f TooHeavy NoMemory h k na nb = absurd (nb refl)
one_cause f BadArgument BadArgument h k na nb = refl
one_cause f Overflow Overflow h k na nb = refl
one_cause f TooDeep TooDeep h k na nb = refl
one_cause f TooHeavy TooHeavy h k na nb = refl
one_cause f BadArgument Overflow h k na nb = absurd (h k.0)
one_cause f BadArgument TooDeep h k na nb = absurd (h k.0)
one_cause f BadArgument TooHeavy h k na nb = absurd (h k.0)
one_cause f Overflow BadArgument h k na nb = absurd (k h.0)
one_cause f TooDeep BadArgument h k na nb = absurd (k h.0)
one_cause f TooHeavy BadArgument h k na nb = absurd (k h.0)
one_cause f Overflow TooDeep h k na nb = absurd (h.1 k.1)
one_cause f Overflow TooHeavy h k na nb = absurd (h.1 k.1)
one_cause f TooDeep Overflow h k na nb = absurd (k.1 h.1)
one_cause f TooHeavy Overflow h k na nb = absurd (k.1 h.1)
one_cause f TooDeep TooHeavy h k na nb = let deep = h.2 in let low = k.2 in absurd (omega (arith, deep, low))
one_cause f TooHeavy TooDeep h k na nb = let deep = k.2 in let low = h.2 in absurd (omega (arith, deep, low))

none_first : (forms : List (FormOf Seen)) (fault : CtorFault) → AllByRecursion IsTaken forms → IsFirstCause forms fault → fault ≡ NoMemory
none_first [] fault all h = absurd h
none_first (f ∷ forms) fault all (inl c) = no_cause f fault all.0 c
none_first (f ∷ forms) fault all (inr more) = none_first forms fault all.1 more.1

one_first : (forms : List (FormOf Seen)) (a b : CtorFault) → IsFirstCause forms a → IsFirstCause forms b → a ≢ NoMemory → b ≢ NoMemory → a ≡ b
one_first [] a b h k na nb = absurd h
one_first (f ∷ forms) a b (inl h) (inl k) na nb = one_cause f a b h k na nb
one_first (f ∷ forms) a b (inl h) (inr k) na nb = absurd (na (no_cause f a k.0 h))
one_first (f ∷ forms) a b (inr h) (inl k) na nb = absurd (nb (no_cause f b h.0 k))
one_first (f ∷ forms) a b (inr h) (inr k) na nb = one_first forms a b h.1 k.1 na nb

-- the answers, but that memory ran out
abbrev Fails : List ℕ → WireFault → Type 0
Fails bytes fault =
    ((at : ℕ) × (fault ≡ why.Bad at) × IsBadAt bytes at) ⊎ ((cause : CtorFault) × (fault ≡ told cause) × (cause ≢ NoMemory) × IsRefused bytes cause)

fails : (bytes : List ℕ) (fault : WireFault) → IsWhy bytes fault → fault ≢ why.NoMemory → Fails bytes fault
fails bytes (why.Bad at) h some = inl (at, refl, h)
fails bytes why.BadArgument h some = inr (BadArgument, refl, (λ e. cc e), h)
fails bytes why.Overflow h some = inr (Overflow, refl, (λ e. cc e), h)
fails bytes why.TooDeep h some = inr (TooDeep, refl, (λ e. cc e), h)
fails bytes why.TooHeavy h some = inr (TooHeavy, refl, (λ e. cc e), h)
fails bytes why.NoMemory h some = absurd (some refl)

one_form : (bytes : List ℕ) (f g : FormOf Seen) → IsWire bytes f → IsWire bytes g → f ≡ g
one_form bytes f g h k = (one_spelling bytes bytes f g h k).0 refl

never_fails : (bytes : List ℕ) (t : Seen) (fault : WireFault) → IsImported bytes t → Fails bytes fault → ⊥
never_fails bytes t fault h (inl k) = (k.2).none h.form h.text
never_fails bytes t fault h (inr k) =
    let r = k.3 in
    let same : r.form ≡ h.form = one_form bytes r.form h.form r.text h.text in
    k.2 (none_first (calls 64 h.form) k.0 h.taken (subst (λ f. IsFirstCause (calls 64 f) k.0) same r.first))

one_fault : (bytes : List ℕ) (a b : WireFault) → Fails bytes a → Fails bytes b → a ≡ b
one_fault bytes a b (inl h) (inl k) = h.1 ∙ (ap (λ at. why.Bad at) (one_bad_place bytes h.0 k.0 h.2 k.2) ∙ sym k.1)
one_fault bytes a b (inl h) (inr k) = let r = k.3 in absurd ((h.2).none r.form r.text)
one_fault bytes a b (inr h) (inl k) = let r = h.3 in absurd ((k.2).none r.form r.text)
one_fault bytes a b (inr h) (inr k) =
    let r = h.3 in
    let s = k.3 in
    let same : s.form ≡ r.form = one_form bytes s.form r.form s.text r.text in
    h.1 ∙ (ap told (one_first (calls 64 r.form) h.0 k.0 r.first (subst (λ f. IsFirstCause (calls 64 f) k.0) same s.first) h.2 k.2) ∙ sym k.1)

abbrev Answer : Type 0
Answer = Result Seen WireFault

not_memory : (fault : WireFault) → (let a : Answer = Err fault in a ≢ Err why.NoMemory) → fault ≢ why.NoMemory
not_memory fault some e = some (ap (λ f. Err f) e)

pub one_answer : OneAnswer
one_answer bytes (Ok t) (Ok u) h k n m =
    let same : h.form ≡ k.form = one_form bytes h.form k.form h.text k.text in
    ap (λ (x : Seen). Ok x) (h.value ∙ (ap result_of same ∙ sym k.value))
one_answer bytes (Ok t) (Err b) h k n m = absurd (never_fails bytes t b h (fails bytes b k (not_memory b m)))
one_answer bytes (Err a) (Ok u) h k n m = absurd (never_fails bytes u a k (fails bytes a h (not_memory a n)))
one_answer bytes (Err a) (Err b) h k n m = ap (λ f. Err f) (one_fault bytes a b (fails bytes a h (not_memory a n)) (fails bytes b k (not_memory b m)))

-- a datatype's constructors are taken
range_of : (f : FormOf Seen) → IsInRange (typemap_of (result_of f)) → IsInRange (map_by f)
range_of f h = subst IsInRange (ap (λ (l : Layer). let m : Marked = record { entries = l.entries; marks = l.marks } in m) (out-roll-Seen _)) h

taken_in : (t : Seen) → IsProper t → IsTaken (form_of t)
taken_in t proper =
    let shallow = proper.shallow in
    let light = proper.light in
    let depth = depth_is t proper.made in
    let weight = weight_is t proper.made in
    record {
      arguments = proper.arguments;
      allowed = record {
        in_range = range_of (form_of t) (subst (λ u. IsInRange (typemap_of u)) proper.made proper.in_range);
        shallow = omega (arith, shallow, depth);
        light = omega (arith, light, weight);
      };
    }

called_taken : (f : FormOf Seen) → IsTaken f → AllByRecursion IsTaken (called f)
called_taken (Named kind) h = tt
called_taken (Dup old) h = (h, tt)
called_taken (Contiguous count old) h = (h, tt)
called_taken (Vector count block stride old) h = (h, tt)
called_taken (Hvector count block stride old) h = (h, tt)
called_taken (Indexed blocks old) h = (h, tt)
called_taken (Hindexed blocks old) h = (h, tt)
called_taken (IndexedBlock block disps old) h = (h, tt)
called_taken (HindexedBlock block disps old) h = (h, tt)
called_taken (Struct parts) h = (h, tt)
called_taken (Subarray dims order old) h = (h, tt)
called_taken (Darray size rank dims order old) h = (h, tt)
called_taken (Resized lb extent old) h = (h, tt)

olds_taken : (levels : ℕ) → ((t : Seen) → AreProper levels t → AllByRecursion IsTaken (calls_of levels t)) → (olds : List Seen) → AllByRecursion (AreProper levels) olds
    → AllByRecursion IsTaken (flat_map (calls_of levels) olds)
olds_taken levels each [] proper = tt
olds_taken levels each (old ∷ olds) proper = taken_both (calls_of levels old) (flat_map (calls_of levels) olds) (each old proper.0) (olds_taken levels each olds proper.1)

all_taken : (levels : ℕ) (t : Seen) → AreProper levels t → AllByRecursion IsTaken (calls_of levels t)
all_taken zero t proper = tt
all_taken (suc levels) t proper =
    taken_both (flat_map (calls_of levels) (olds_of (form_of t))) (called (form_of t)) (olds_taken levels (all_taken levels) (olds_of (form_of t)) proper.1)
    (called_taken (form_of t) (taken_in t proper.0))

read_itself : (t : Seen) → IsWhole t → AreWritten 64 t → IsImported (text_of (form_of t)) t
read_itself t whole written = record {
  form = form_of t;
  text = each_type_has_a_spelling t whole written;
  taken = all_taken 64 t (whole 64);
  value = ((whole 1).0).made;
}

is_memory : (answer : Answer) → (answer ≡ Err why.NoMemory) ⊎ (answer ≢ Err why.NoMemory)
is_memory (Ok t) = inr (λ e. cc e)
is_memory (Err (why.Bad at)) = inr (λ e. cc e)
is_memory (Err why.BadArgument) = inr (λ e. cc e)
is_memory (Err why.Overflow) = inr (λ e. cc e)
is_memory (Err why.TooDeep) = inr (λ e. cc e)
is_memory (Err why.TooHeavy) = inr (λ e. cc e)
is_memory (Err why.NoMemory) = inl refl

pub text_is_read_back : TextIsReadBack
text_is_read_back t answer whole written h = elim (is_memory answer) [
  | inl none ↦ inr none
  | inr some ↦ inl (one_answer (text_of (form_of t)) answer (Ok t) h (read_itself t whole written) some (λ e. cc e))
]
