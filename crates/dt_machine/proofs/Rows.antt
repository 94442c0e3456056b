-- The first condition of a rising row that holds has the least number whose condition holds.
use Rattle.std.proofs.Common.{◌≡◌, ℕ, ◌<◌, ◌==◌, Bool, true, false, cond, nat_lt, [], ◌∷◌, ◌++◌, Option, Some, refl, sym, subst, ◌∙◌, ◌↔◌, eqb-true, arith}
use Rattle.std.proofs.lemmas.Bool.{and_parts, eq-eqb, ltb-true}
use Rattle.std.specs.Option.{IsSomeAnd}
use Rattle.dt_reply.specs.declared.refusal.Refusal.{Refusal}
use Rattle.dt_reply.specs.Refusal.{number_of}
use Rattle.dt_script.specs.declared.command.Command.{Command}
use Rattle.dt_script.specs.declared.command.Command.TheVariants.{Define, Child, Commit, Free, Info, Map, Envelope, Contents, Buffer, Show, Bytes, Elements, Pack, Take, Seek, Close, Unpack, Give, Copy as CopyCommand, Export, Import, Reduce, Reduceall, Weights, Normalise, Rebuild}
use Rattle.dt_machine.specs.Refusal.{conditions, IsRefusedBy, IsAllowed}
use Rattle.dt_machine.specs.Row.{Row, condition, IsFirst, IsClear, is_rising}
use Rattle.dt_machine.specs.State.{State}

-- the conditions of each command rise
rises : (s : State) (command : Command) → is_rising 0 (conditions s command) ≡ true
rises s (Define name ctor) = refl
rises s (Child name ty k) = refl
rises s (Commit ty) = refl
rises s (Free ty) = refl
rises s (Info ty) = refl
rises s (Map ty) = refl
rises s (Envelope ty) = refl
rises s (Contents ty) = refl
rises s (Buffer name fill) = refl
rises s (Show buffer) = refl
rises s (Bytes rep count ty buffer origin) = refl
rises s (Elements rep bytes ty) = refl
rises s (Pack name rep count ty buffer origin) = refl
rises s (Take session len) = refl
rises s (Seek session byte) = refl
rises s (Close session) = refl
rises s (Unpack name rep count ty buffer origin) = refl
rises s (Give session piece) = refl
rises s (CopyCommand source_count source_type source source_origin target_count target_type target target_origin) = refl
rises s (Export ty) = refl
rises s (Import name wire) = refl
rises s (Reduce op count ty source source_origin target target_origin) = refl
rises s (Reduceall op how count ty origin target ranks) = refl
rises s (Weights leaf vector index place group part) = refl
rises s (Normalise ty) = refl
rises s (Rebuild name ty) = refl

-- the condition of a refusal whose number is that of the front, or another
by_number : (P : Bool → Type 0) (m n : ℕ) → (m ≡ n → P true) → ((m == n) ≡ false → P false) → P (m == n)
by_number P m n same other =
    elim (m == n) as (λ b. (m == n) ≡ b → P b) [ true ↦ λ e. same (eqb-true m n e) | false ↦ λ e. other e ] refl

-- a condition that holds has a number above those before the row
above : (n : ℕ) (row : Row) (refusal : Refusal) → is_rising n row ≡ true → condition row refusal → n < number_of refusal
above n [] refusal rising holds = absurd holds
above n (entry ∷ row) refusal rising holds =
    let parts = and_parts (nat_lt n (number_of entry.0)) (is_rising (number_of entry.0) row) rising in
    let lt : n < number_of entry.0 = ltb-true n (number_of entry.0) parts.0 in
    by_number (λ b. cond b entry.1 (condition row refusal) → n < number_of refusal) (number_of entry.0) (number_of refusal)
    (λ same _. omega arith) (λ _ behind. let more = above (number_of entry.0) row refusal parts.1 behind in omega (arith, more, lt)) holds

first_holds : (row : Row) (refusal : Refusal) → IsFirst row refusal → condition row refusal
first_holds [] refusal first = first
first_holds (entry ∷ row) refusal first =
    by_number (λ b. cond b entry.1 ((¬ entry.1) × IsFirst row refusal) → cond b entry.1 (condition row refusal)) (number_of entry.0) (number_of refusal)
    (λ _ is. is) (λ _ behind. first_holds row refusal behind.1) first

first_least : (n : ℕ) (row : Row) (refusal lesser : Refusal) → is_rising n row ≡ true → IsFirst row refusal → number_of lesser < number_of refusal
    → ¬ condition row lesser
first_least n [] refusal lesser rising first lt holds = absurd holds
first_least n (entry ∷ row) refusal lesser rising first lt holds =
    let parts = and_parts (nat_lt n (number_of entry.0)) (is_rising (number_of entry.0) row) rising in
    by_number (λ b. cond b entry.1 ((¬ entry.1) × IsFirst row refusal) → ⊥) (number_of entry.0) (number_of refusal)
    (λ same _.
    by_number (λ b. cond b entry.1 (condition row lesser) → ⊥) (number_of entry.0) (number_of lesser) (λ also _. absurd (omega arith))
    (λ _ behind. let more = above (number_of entry.0) row lesser parts.1 behind in absurd (omega (arith, more, lt, same))) holds)
    (λ _ first.
    by_number (λ b. cond b entry.1 (condition row lesser) → ⊥) (number_of entry.0) (number_of lesser) (λ _ is. first.0 is)
    (λ _ behind. first_least (number_of entry.0) row refusal lesser parts.1 first.1 lt behind) holds) first

none_holds : (row : Row) (refusal : Refusal) → IsClear row → ¬ condition row refusal
none_holds [] refusal clear holds = holds
none_holds (entry ∷ row) refusal clear holds =
    by_number (λ b. cond b entry.1 (condition row refusal) → ⊥) (number_of entry.0) (number_of refusal) (λ _ is. clear.0 is)
    (λ _ behind. none_holds row refusal clear.1 behind) holds

-- a condition of the row behind an entry is one of the whole row
holds_behind : (n : ℕ) (entry : Refusal × Type 0) (row : Row) (refusal : Refusal) → is_rising (number_of entry.0) row ≡ true → condition row refusal
    → condition (entry ∷ row) refusal
holds_behind n entry row refusal rising behind =
    let more = above (number_of entry.0) row refusal rising behind in
    by_number (λ b. cond b entry.1 (condition row refusal)) (number_of entry.0) (number_of refusal) (λ same. absurd (omega (arith, more, same))) (λ _. behind)

-- what the front of a row says
holds_front : (entry : Refusal × Type 0) (row : Row) → entry.1 → condition (entry ∷ row) entry.0
holds_front entry row is =
    by_number (λ b. cond b entry.1 (condition row entry.0)) (number_of entry.0) (number_of entry.0) (λ _. is)
    (λ other. let apart : true ≡ false = sym (eq-eqb (number_of entry.0) (number_of entry.0) refl) ∙ other in cc)

least_first : (n : ℕ) (row : Row) (refusal : Refusal) → is_rising n row ≡ true → condition row refusal
    → ((lesser : Refusal) → number_of lesser < number_of refusal → ¬ condition row lesser) → IsFirst row refusal
least_first n [] refusal rising holds least = holds
least_first n (entry ∷ row) refusal rising holds least =
    let parts = and_parts (nat_lt n (number_of entry.0)) (is_rising (number_of entry.0) row) rising in
    by_number (λ b. cond b entry.1 (condition row refusal) → cond b entry.1 ((¬ entry.1) × IsFirst row refusal)) (number_of entry.0) (number_of refusal)
    (λ _ is. is)
    (λ _ behind.
    let more = above (number_of entry.0) row refusal parts.1 behind in (
      λ is. least entry.0 more (holds_front entry row is),
      least_first (number_of entry.0) row refusal parts.1 behind (λ lesser lt also. least lesser lt (holds_behind n entry row lesser parts.1 also)),
    )) holds

none_clear : (n : ℕ) (row : Row) → is_rising n row ≡ true → ((refusal : Refusal) → ¬ condition row refusal) → IsClear row
none_clear n [] rising none = tt
none_clear n (entry ∷ row) rising none =
    let parts = and_parts (nat_lt n (number_of entry.0)) (is_rising (number_of entry.0) row) rising in (
      λ is. none entry.0 (holds_front entry row is),
      none_clear (number_of entry.0) row parts.1 (λ refusal behind. none refusal (holds_behind n entry row refusal parts.1 behind)),
    )

-- a command whose first condition that holds is this refusal's
pub refused : (s : State) (command : Command) (refusal : Refusal) → IsFirst (conditions s command) refusal → IsRefusedBy s command refusal
refused s command refusal first =
    (first_holds (conditions s command) refusal first, λ lesser lt. first_least 0 (conditions s command) refusal lesser (rises s command) first lt)

-- a command of which no condition holds
pub allowed : (s : State) (command : Command) → IsClear (conditions s command) → IsAllowed s command
allowed s command clear refusal = none_holds (conditions s command) refusal clear

pub first_is_least : (s : State) (command : Command) (refusal : Refusal) → IsRefusedBy s command refusal ↔ IsFirst (conditions s command) refusal
first_is_least s command refusal =
    (λ (holds, least). least_first 0 (conditions s command) refusal (rises s command) holds least, refused s command refusal)

pub allowed_is_clear : (s : State) (command : Command) → IsAllowed s command ↔ IsClear (conditions s command)
allowed_is_clear s command = (none_clear 0 (conditions s command) (rises s command), allowed s command)

-- a row without its first three conditions
abbrev pub behind_three : Row → Row
behind_three (a ∷ b ∷ c ∷ row) = row
behind_three row = []

-- a front of a row
pub first_front : (front more : Row) (refusal : Refusal) → IsFirst front refusal → IsFirst (front ++ more) refusal
first_front [] more refusal first = absurd first
first_front (entry ∷ front) more refusal first =
    by_number (λ b. cond b entry.1 ((¬ entry.1) × IsFirst front refusal) → cond b entry.1 ((¬ entry.1) × IsFirst (front ++ more) refusal))
    (number_of entry.0) (number_of refusal) (λ _ is. is) (λ _ behind. (behind.0, first_front front more refusal behind.1)) first

pub contrary : (b : Bool) → b ≡ false → ¬ (b ≡ true)
contrary b f t = let apart : true ≡ false = sym t ∙ f in cc

-- what holds of what stands
pub some_and : {A : Type 0} (o : Option A) (P : A → Type 0) (x : A) → o ≡ Some x → P x → IsSomeAnd o P
some_and o P x is holds = subst (λ o. IsSomeAnd o P) (sym is) holds

pub and_some : {A : Type 0} (o : Option A) (P : A → Type 0) (x : A) → o ≡ Some x → IsSomeAnd o P → P x
and_some o P x is holds = subst (λ o. IsSomeAnd o P) is holds
