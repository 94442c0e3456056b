-- The parts of a struct, one after another; and a constructor that refuses.
use Rattle.std.specs.Prelude.{◌≡◌, ℕ, zero, suc, ◌+◌, ◌<◌, Option, Some, None, Result, IsErrAnd, List, [], ◌∷◌, ◌++◌, take, get_or, length}
use Rattle.std.proofs.Common.{refl, sym, ap, subst, ◌∙◌, arith}
use Rattle.std.proofs.lemmas.List.{take_more}
use Rattle.std.specs.Option.{option_map, IsSomeAnd}
use Rattle.dt_form.specs.declared.form.FormOf.{FormOf}
use Rattle.dt_form.specs.declared.form.PartOf.{PartOf}
use Rattle.dt_type.specs.Answer.{IsCause}
use Rattle.dt_type.specs.declared.datatype.Seen.{Seen}
use Rattle.dt_type.specs.declared.fault.CtorFault.{CtorFault}
use Rattle.dt_type.specs.declared.fault.CtorFault.TheVariants as ctor
use Rattle.dt_space.specs.declared.fault.SpaceFault.{SpaceFault}
use Rattle.dt_space.specs.declared.fault.SpaceFault.TheVariants.{NoSuchType, NoMemory}
use Rattle.dt_space.specs.declared.number.Kept.{Kept}
use Rattle.dt_space.specs.declared.number.TypeNumber.{TypeNumber}
use Rattle.dt_space.specs.Fault.{fault_of}
use Rattle.dt_space.specs.New.{IsNewOf, IsAdded, IsNewRefusal}
use Rattle.dt_space.specs.Space.{Space, kept_at}
use Rattle.dt_space.specs.Structures.{part_at, parts_at, joined, IsMissingPart}
use Rattle.dt_space.proofs.Packings.{err_so}

-- one more part
joined_more : (first : Option (PartOf Seen)) (others more : Option (List (PartOf Seen))) (parts : List (PartOf Seen)) (part : PartOf Seen)
    → joined first others ≡ Some parts → ((ps : List (PartOf Seen)) → others ≡ Some ps → more ≡ Some (ps ++ part ∷ [])) → joined first more ≡ Some (parts ++ part ∷ [])
joined_more None others more parts part all rest = cc
joined_more (Some p) None more parts part all rest = cc
joined_more (Some p) (Some ps) more parts part all rest =
    let same : p ∷ ps ≡ parts = cc in
    ap (joined (Some p)) (rest ps refl) ∙ ap (λ l. Some (l ++ part ∷ [])) same

parts-append : (s : Space) (numbered : List (PartOf TypeNumber)) (p : PartOf TypeNumber) (parts : List (PartOf Seen)) (part : PartOf Seen)
    → parts_at s numbered ≡ Some parts → part_at s p ≡ Some part → parts_at s (numbered ++ p ∷ []) ≡ Some (parts ++ part ∷ [])
parts-append s [] p parts part all one = let none : [] ≡ parts = cc in rw one (ap (λ ps. Some (ps ++ part ∷ [])) none)
parts-append s (q ∷ numbered) p parts part all one =
    joined_more (part_at s q) (parts_at s numbered) (parts_at s (numbered ++ p ∷ [])) parts part all (λ ps is. parts-append s numbered p ps part is one)

pub parts_more : (s : Space) (numbered : List (PartOf TypeNumber)) (i : ℕ) (d : PartOf TypeNumber) (parts : List (PartOf Seen)) (part : PartOf Seen)
    → i < length numbered → parts_at s (take i numbered) ≡ Some parts → part_at s (get_or numbered i d) ≡ Some part → parts_at s (take (i + 1) numbered) ≡ Some (parts ++ part ∷ [])
parts_more s numbered i d parts part lt all one = ap (parts_at s) (take_more numbered i d lt) ∙ parts-append s (take i numbered) (get_or numbered i d) parts part all one

-- one part that is missing
joined_none : (first : Option (PartOf Seen)) → joined first None ≡ None
joined_none None = refl
joined_none (Some p) = refl

pub none_among : (s : Space) (numbered : List (PartOf TypeNumber)) (i : ℕ) (d : PartOf TypeNumber) → i < length numbered → part_at s (get_or numbered i d) ≡ None → parts_at s numbered ≡ None
none_among s [] i d lt none = absurd (omega (arith, lt))
none_among s (q ∷ numbered) zero d lt none = ap (λ o. joined o (parts_at s numbered)) none
none_among s (q ∷ numbered) (suc i) d lt none = ap (joined (part_at s q)) (none_among s numbered i d (omega (arith, lt)) none) ∙ joined_none (part_at s q)

pub missing_among : (s : Space) (numbered : List (PartOf TypeNumber)) (i : ℕ) (d : PartOf TypeNumber) (fault : SpaceFault) → i < length numbered → IsMissingPart (part_at s (get_or numbered i d)) fault
    → IsMissingPart (parts_at s numbered) fault
missing_among s numbered i d NoSuchType lt missing = none_among s numbered i d lt missing
missing_among s numbered i d NoMemory lt missing = tt
missing_among s numbered i d fault lt missing = absurd missing

-- a constructor refuses
caused : (s : Space) (n : TypeNumber) (kept : Kept) (form : Seen → FormOf Seen) (fault : CtorFault) → kept_at s n ≡ Some kept → IsCause (form kept.ty) fault
    → IsNewRefusal s n form (fault_of fault)
caused s n kept form ctor.BadArgument at cause = subst (λ o. IsSomeAnd (option_map (λ (k : Kept). k.ty) o) (λ t. IsCause (form t) ctor.BadArgument)) (sym at) cause
caused s n kept form ctor.Overflow at cause = subst (λ o. IsSomeAnd (option_map (λ (k : Kept). k.ty) o) (λ t. IsCause (form t) ctor.Overflow)) (sym at) cause
caused s n kept form ctor.TooDeep at cause = subst (λ o. IsSomeAnd (option_map (λ (k : Kept). k.ty) o) (λ t. IsCause (form t) ctor.TooDeep)) (sym at) cause
caused s n kept form ctor.TooHeavy at cause = subst (λ o. IsSomeAnd (option_map (λ (k : Kept). k.ty) o) (λ t. IsCause (form t) ctor.TooHeavy)) (sym at) cause
caused s n kept form ctor.NoMemory at cause = tt

pub refused : (s : Space) (n : TypeNumber) (kept : Kept) (form : Seen → FormOf Seen) (fault : CtorFault) (r : Result TypeNumber SpaceFault) → kept_at s n ≡ Some kept
    → IsErrAnd r (λ f. f ≡ fault_of fault) → IsCause (form kept.ty) fault → IsNewOf s s n form r
refused s n kept form fault r at is cause = err_so r (fault_of fault) (IsAdded s s n form) (λ f. (s ≡ s) × IsNewRefusal s n form f) is (refl, caused s n kept form fault at cause)
