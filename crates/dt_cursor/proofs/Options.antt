-- Facts of an answer that there may not be.
use Rattle.std.specs.Prelude.{◌≡◌, Option, Some, None, IfSome, IfNone}
use Rattle.std.proofs.Common.{refl}

pub if_some : {A : Type 0} (o : Option A) (P Q : A → Type 0) → ((a : A) → P a → Q a) → IfSome o P → IfSome o Q
if_some None P Q gives h = tt
if_some (Some a) P Q gives h = gives a h

pub if_none : {A : Type 0} (o : Option A) (P Q : Type 0) → (P → Q) → IfNone o P → IfNone o Q
if_none None P Q gives h = gives h
if_none (Some a) P Q gives h = tt

pub is_none : {A : Type 0} (o : Option A) (P : Type 0) → P → IfNone o P
is_none None P h = h
is_none (Some a) P h = tt

pub none_is : {A : Type 0} (o : Option A) (P : Type 0) → ((a : A) → o ≡ Some a → ⊥) → IfNone o P → P
none_is None P not h = h
none_is (Some a) P not h = absurd (not a refl)
