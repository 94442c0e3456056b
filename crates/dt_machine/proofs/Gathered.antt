-- The ranks that the buffers of some names hold.
use Rattle.std.proofs.Common.{◌≡◌, ℕ, suc, ◌+◌, ◌*◌, ◌≤◌, ◌<◌, ℤ, pos, Bool, true, false, not, List, [], ◌∷◌, ◌++◌, take, length, get_or, Option, Some, None, refl, sym, ap, subst, ◌∙◌, arith}
use Rattle.std.proofs.lemmas.Bool.{or_parts}
use Rattle.std.proofs.Math.Nat.{mul-le-mul_left}
use Rattle.std.proofs.lemmas.List.{length-map, length-take-le, map-append, take_more}
use Rattle.std.specs.List.{list_any}
use Rattle.std.specs.Option.{option_and_then, option_map, option_map_or}
use Rattle.dt_kinds.specs.declared.kind.Rep.TheVariants.{Native}
use Rattle.dt_map.specs.declared.entry.Entry.{Entry}
use Rattle.dt_map.specs.Elements.{elements, are_inside}
use Rattle.dt_map.specs.Packed.{total}
use Rattle.dt_map.specs.Typemap.{Marked}
use Rattle.dt_reduce.specs.Folded.{words_of}
use Rattle.dt_reduce.proofs.Adding.{total_anywhere}
use Rattle.dt_reduce.specs.declared.fault.RanksFault.{RanksFault}
use Rattle.dt_reduce.specs.declared.fault.RanksFault.TheVariants as why
use Rattle.dt_reduce.specs.Ranks.{Ranked, with_rank, IsNotAdded}
use Rattle.dt_machine.specs.Operation.{ranks_in, Gathers}
use Rattle.dt_machine.specs.Refusal.{lies_outside}
use Rattle.dt_machine.specs.Sides.{buffers_of}
use Rattle.dt_machine.specs.State.{State, buffer_of}

-- where a buffer stands, elements lie outside it or inside
pub inside_by : (s : State) (es : List Entry) (name bytes : List ℕ) → buffer_of s name ≡ Some bytes → lies_outside s es name ≡ false → are_inside (length bytes) es ≡ true
inside_by s es name bytes is within =
    let told : not (are_inside (length bytes) es) ≡ false = sym (ap (λ found. option_map_or (λ b. not (are_inside (length b) es)) found false) is) ∙ within in
    by (are_inside (length bytes) es) told
  where
    by : (b : Bool) → not b ≡ false → b ≡ true
    by true told = refl
    by false told = let apart : true ≡ false = told in cc

-- elements that lie outside none of several buffers
pub all_inside : (s : State) (es : List Entry) (name : List ℕ) (names : List (List ℕ)) (bytes : List ℕ) → buffer_of s name ≡ Some bytes
    → list_any (lies_outside s es) (name ∷ names) ≡ false → (are_inside (length bytes) es ≡ true) × (list_any (lies_outside s es) names ≡ false)
all_inside s es name names bytes is within =
    let parts = or_parts (lies_outside s es name) (list_any (lies_outside s es) names) within in
    (inside_by s es name bytes is parts.0, parts.1)

-- one buffer more
abbrev joined : Option (List ℕ) → Option (List (List ℕ)) → Option (List (List ℕ))
joined first others = option_and_then (λ bytes. option_map (λ more. bytes ∷ more) others) first

joined_more : (first : Option (List ℕ)) (others more : Option (List (List ℕ))) (buffers : List (List ℕ)) (bytes : List ℕ) → joined first others ≡ Some buffers
    → ((bs : List (List ℕ)) → others ≡ Some bs → more ≡ Some (bs ++ bytes ∷ [])) → joined first more ≡ Some (buffers ++ bytes ∷ [])
joined_more None others more buffers bytes all rest = cc
joined_more (Some b) None more buffers bytes all rest = cc
joined_more (Some b) (Some bs) more buffers bytes all rest =
    let same : b ∷ bs ≡ buffers = cc in
    ap (joined (Some b)) (rest bs refl) ∙ ap (λ l. Some (l ++ bytes ∷ [])) same

buffers-append : (s : State) (names : List (List ℕ)) (name : List ℕ) (buffers : List (List ℕ)) (bytes : List ℕ) → buffers_of s names ≡ Some buffers
    → buffer_of s name ≡ Some bytes → buffers_of s (names ++ name ∷ []) ≡ Some (buffers ++ bytes ∷ [])
buffers-append s [] name buffers bytes all one = let none : [] ≡ buffers = cc in rw one (ap (λ bs. Some (bs ++ bytes ∷ [])) none)
buffers-append s (first ∷ names) name buffers bytes all one =
    joined_more (buffer_of s first) (buffers_of s names) (buffers_of s (names ++ name ∷ [])) buffers bytes all (λ bs is. buffers-append s names name bs bytes is one)

-- there are as many buffers as names
length_joined : (first : Option (List ℕ)) (others : Option (List (List ℕ))) (buffers : List (List ℕ)) (n : ℕ) → joined first others ≡ Some buffers
    → ((bs : List (List ℕ)) → others ≡ Some bs → length bs ≡ n) → length buffers ≡ suc n
length_joined None others buffers n all rest = cc
length_joined (Some b) None buffers n all rest = cc
length_joined (Some b) (Some bs) buffers n all rest =
    let same : b ∷ bs ≡ buffers = cc in sym (ap length same) ∙ ap suc (rest bs refl)

pub as_many : (s : State) (names : List (List ℕ)) (buffers : List (List ℕ)) → buffers_of s names ≡ Some buffers → length buffers ≡ length names
as_many s [] buffers all = let none : [] ≡ buffers = cc in sym (ap length none)
as_many s (name ∷ names) buffers all = length_joined (buffer_of s name) (buffers_of s names) buffers (length names) all (λ bs is. as_many s names bs is)

-- one rank more
module _ (s : State) (m : Marked) (count : ℕ) (origin : ℤ) where
  gathers_more : (names : List (List ℕ)) (name bytes : List ℕ) (ranks next : Ranked) → Gathers s m count origin names ranks → buffer_of s name ≡ Some bytes
      → next ≡ with_rank ranks origin bytes → Gathers s m count origin (names ++ name ∷ []) next
  gathers_more names name bytes ranks next (buffers, all, is) one more =
      let row = words_of (elements m count origin) in (
        buffers ++ bytes ∷ [],
        buffers-append s names name buffers bytes all one,
        more ∙ (ap (λ r. with_rank r origin bytes) is
            ∙ ap (λ rows. let r : Ranked = record { typemap = m; count = count; rows = rows } in r) (sym (map-append row buffers (bytes ∷ [])))),
      )

  pub gathers_next : (names : List (List ℕ)) (i : ℕ) (name bytes : List ℕ) (ranks next : Ranked) → i < length names → name ≡ get_or names i name
      → Gathers s m count origin (take i names) ranks → buffer_of s name ≡ Some bytes → next ≡ with_rank ranks origin bytes
      → Gathers s m count origin (take (i + 1) names) next
  gathers_next names i name bytes ranks next lt at gathers one more =
      let taken : take (i + 1) names ≡ take i names ++ name ∷ [] = take_more names i name lt ∙ ap (λ q. take i names ++ q ∷ []) (sym at) in
      let here = gathers_more (take i names) name bytes ranks next gathers one more in
      (here.0, ap (buffers_of s) taken ∙ here.1, here.2)

  -- how many ranks there are
  pub rows_gathered : (names : List (List ℕ)) (ranks : Ranked) → Gathers s m count origin names ranks → length ranks.rows ≡ length names
  rows_gathered names ranks (buffers, all, is) =
      ap (λ (r : Ranked). length r.rows) is ∙ (length-map buffers (words_of (elements m count origin)) ∙ as_many s names buffers all)

  -- what keeps a rank from being added that lies inside and is few enough is want of memory
  pub wants_memory : (names : List (List ℕ)) (i : ℕ) (bytes : List ℕ) (ranks : Ranked) (fault : RanksFault) → Gathers s m count origin (take i names) ranks
      → i < length names → length names ≤ 1024 → total Native (elements m count origin) * length names ≤ 16777216
      → are_inside (length bytes) (elements m count origin) ≡ true → IsNotAdded ranks origin (length bytes) fault → fault ≡ why.NoMemory
  wants_memory names i bytes ranks fault gathers lt few small inside refused =
      by fault (subst (λ r. IsNotAdded r origin (length bytes) fault) gathers.2 refused)
    where
      r : Ranked
      r = ranks_in m count origin gathers.0

      long : length r.rows ≡ i
      long = length-map gathers.0 (words_of (elements m count origin)) ∙ (as_many s (take i names) gathers.0 gathers.1 ∙ length-take-le i names (omega (arith, lt)))

      by : (fault : RanksFault) → IsNotAdded r origin (length bytes) fault → fault ≡ why.NoMemory
      by why.Outside out = absurd (out inside)
      by why.Full (lies, full) = absurd (omega (arith, full, long, lt, few))
      by why.TooLarge (room, large) =
          let n = total Native (elements m count origin) in
          let same : total Native (elements m count (pos 0)) ≡ n = sym (total_anywhere m count origin) in
          let most : n * (i + 1) ≤ n * length names = mul-le-mul_left n (let next : i + 1 ≤ length names = omega (arith, lt) in next) in
          let more : 16777216 < n * (i + 1) = subst (λ k. 16777216 < n * (k + 1)) long (subst (λ k. 16777216 < k * (length r.rows + 1)) same large) in
          absurd (omega (arith, most, more, small))
      by why.NoMemory can = refl
