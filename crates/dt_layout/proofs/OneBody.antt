-- Instructions spell one body.
use Rattle.std.specs.Prelude.{◌≡◌, ℕ, ◌+◌, pos, List, [], ◌∷◌, ◌++◌, map, length}
use Rattle.std.proofs.Common.{refl, sym, ap, ◌∙◌, arith, append_assoc}
use Rattle.dt_kinds.specs.declared.kind.Kind.{Kind}
use Rattle.dt_offsets.specs.declared.turns.Spot.{Spot}
use Rattle.dt_offsets.specs.declared.turns.Turns.{Turns}
use Rattle.dt_layout.specs.declared.instr.Instr.{Instr}
use Rattle.dt_layout.specs.declared.instr.Instr.TheVariants as variants
use Rattle.dt_layout.specs.declared.instr.Sizes.{Sizes}
use Rattle.dt_layout.specs.Body.{Body, one, loop, each, seq, Parts, no_parts, part, meaning, width, number_of}
use Rattle.dt_layout.specs.Laws.{StandsForOne}
use Rattle.dt_layout.specs.Program.{spelling, spellings}

same_loop : (t u : Turns) (a b : Sizes) (m n : ℕ) (xs ys : List Instr) → variants.Loop t a m ∷ xs ≡ variants.Loop u b n ∷ ys → (t ≡ u) × (xs ≡ ys)
same_loop t u a b m n xs ys e = (cc, cc)

same_each : (k l : ℕ) (a b : Sizes) (m n : ℕ) (xs ys : List Instr) → variants.Each k a m ∷ xs ≡ variants.Each l b n ∷ ys → (k ≡ l) × (xs ≡ ys)
same_each k l a b m n xs ys e = (cc, cc)

same_seq : (k l m n : ℕ) (xs ys : List Instr) → variants.Seq k m ∷ xs ≡ variants.Seq l n ∷ ys → (k ≡ l) × (xs ≡ ys)
same_seq k l m n xs ys e = (cc, cc)

same_one : (k l : Kind) (xs ys : List Instr) → variants.One k ∷ xs ≡ variants.One l ∷ ys → (k ≡ l) × (xs ≡ ys)
same_one k l xs ys e = (cc, cc)

same_spot : (s t : Spot) (xs ys : List Instr) → variants.Spot s ∷ xs ≡ variants.Spot t ∷ ys → (s ≡ t) × (xs ≡ ys)
same_spot s t xs ys e = (cc, cc)

same_end : (xs ys : List Instr) → variants.End ∷ xs ≡ variants.End ∷ ys → xs ≡ ys
same_end xs ys e = cc

-- what follows a body that ends
ended : (xs ys r s : List Instr) → (xs ++ variants.End ∷ []) ++ r ≡ (ys ++ variants.End ∷ []) ++ s → xs ++ variants.End ∷ r ≡ ys ++ variants.End ∷ s
ended xs ys r s e = sym (append_assoc xs (variants.End ∷ []) r) ∙ e ∙ append_assoc ys (variants.End ∷ []) s

same_spots : (ss ts : List Spot) (r s : List Instr) → length ss ≡ length ts → map variants.Spot ss ++ r ≡ map variants.Spot ts ++ s → (ss ≡ ts) × (r ≡ s)
same_spots [] [] r s long e = (refl, e)
same_spots [] (t ∷ ts) r s long e = absurd (omega (arith, long))
same_spots (x ∷ ss) [] r s long e = absurd (omega (arith, long))
same_spots (x ∷ ss) (t ∷ ts) r s long e =
    let first = same_spot x t (map variants.Spot ss ++ r) (map variants.Spot ts ++ s) e in
    let rest = same_spots ss ts r s (omega (arith, long)) first.1 in
    (ap (λ y. y ∷ ss) first.0 ∙ ap (λ ys. t ∷ ys) rest.0, rest.1)

abbrev Same : ℕ → Body → Body → Type 0
Same at b c = (r s : List Instr) → spelling at b ++ r ≡ spelling at c ++ s → (b ≡ c) × (r ≡ s)

same_loops : (at : ℕ) (t u : Turns) (b c : Body) → ((k : ℕ) → Same k b c) → Same at (loop t b) (loop u c)
same_loops at t u b c inside r s e =
    let first = same_loop t u _ _ _ _ _ _ e in
    let body = inside (at + 1) (variants.End ∷ r) (variants.End ∷ s) (ended (spelling (at + 1) b) (spelling (at + 1) c) r s first.1) in
    (ap (λ y. loop y b) first.0 ∙ ap (λ y. loop u y) body.0, same_end r s body.1)

same_head : (t u : Turns) (b c : Body) → loop t b ≡ loop u c → (t ≡ u) × (b ≡ c)
same_head t u b c e = (cc, cc)

mutual
  same_body : (b c : Body) (at : ℕ) → Same at b c
  same_body (one k) (one l) at r s e = let first = same_one k l r s e in (ap one first.0, first.1)
  same_body (loop t b) (loop u c) at r s e = same_loops at t u b c (λ k. same_body b c k) r s e
  same_body (each ss b) (each ts c) at r s e =
      let first = same_each (length ss) (length ts) _ _ _ _ _ _ e in
      let rest = sym (append_assoc (map variants.Spot ss) (spelling (at + 1 + length ss) b ++ variants.End ∷ []) r) in
      let more = append_assoc (map variants.Spot ts) (spelling (at + 1 + length ts) c ++ variants.End ∷ []) s in
      let spots = same_spots ss ts ((spelling (at + 1 + length ss) b ++ variants.End ∷ []) ++ r) ((spelling (at + 1 + length ts) c ++ variants.End ∷ []) ++ s) first.0 (rest ∙ first.1 ∙ more) in
      let there = ap (λ n. (spelling (at + 1 + n) c ++ variants.End ∷ []) ++ s) (sym first.0) in
      let body = same_body b c (at + 1 + length ss) (variants.End ∷ r) (variants.End ∷ s) (ended (spelling (at + 1 + length ss) b) (spelling (at + 1 + length ss) c) r s (spots.1 ∙ there)) in
      (ap (λ y. each y b) spots.0 ∙ ap (λ y. each ts y) body.0, same_end r s body.1)
  same_body (seq ps) (seq qs) at r s e =
      let first = same_seq (number_of ps) (number_of qs) _ _ _ _ e in
      let parts = same_parts ps qs (at + 1) first.0 (variants.End ∷ r) (variants.End ∷ s) (ended (spellings (at + 1) ps) (spellings (at + 1) qs) r s first.1) in
      (ap seq parts.0, same_end r s parts.1)
  same_body (one k) (loop u c) at r s e = cc
  same_body (one k) (each ts c) at r s e = cc
  same_body (one k) (seq qs) at r s e = cc
  same_body (loop t b) (one l) at r s e = cc
  same_body (loop t b) (each ts c) at r s e = cc
  same_body (loop t b) (seq qs) at r s e = cc
  same_body (each ss b) (one l) at r s e = cc
  same_body (each ss b) (loop u c) at r s e = cc
  same_body (each ss b) (seq qs) at r s e = cc
  same_body (seq ps) (one l) at r s e = cc
  same_body (seq ps) (loop u c) at r s e = cc
  same_body (seq ps) (each ts c) at r s e = cc

  same_parts : (ps qs : Parts) (at : ℕ) → number_of ps ≡ number_of qs → (r s : List Instr) → spellings at ps ++ r ≡ spellings at qs ++ s → (ps ≡ qs) × (r ≡ s)
  same_parts no_parts no_parts at number r s e = (refl, e)
  same_parts no_parts (part u c qs) at number r s e = absurd (omega (arith, number))
  same_parts (part t b ps) no_parts at number r s e = absurd (omega (arith, number))
  same_parts (part t b ps) (part u c qs) at number r s e =
      let left = sym (append_assoc (spelling at (loop t b)) (spellings (at + (width b + 2)) ps) r) in
      let right = append_assoc (spelling at (loop u c)) (spellings (at + (width c + 2)) qs) s in
      let first = same_loops at t u b c (λ k. same_body b c k) (spellings (at + (width b + 2)) ps ++ r) (spellings (at + (width c + 2)) qs ++ s) (left ∙ e ∙ right) in
      let turns = same_head t u b c first.0 in
      let there = ap (λ n. spellings (at + (n + 2)) qs ++ s) (ap width (sym turns.1)) in
      let rest = same_parts ps qs (at + (width b + 2)) (omega (arith, number)) r s (first.1 ∙ there) in
      (ap (λ y. part y b ps) turns.0 ∙ ap (λ y. part u y ps) turns.1 ∙ ap (λ y. part u c y) rest.0, rest.1)

pub stands_for_one : StandsForOne
stands_for_one code es fs first second =
    let bodies = same_body first.0 second.0 0 [] [] (ap (λ c. c ++ []) (sym first.1.spelled ∙ second.1.spelled)) in
    sym first.2 ∙ ap (λ b. meaning b (pos 0)) bodies.0 ∙ second.2
