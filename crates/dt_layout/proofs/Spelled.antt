-- Heads put at the places that were kept for them, and their bodies ended.
use Rattle.std.specs.Prelude.{◌≡◌, ℕ, suc, ◌+◌, ◌-◌, ◌*◌, ◌^◌, ◌<◌, ◌≤◌, List, [], ◌∷◌, ◌++◌, map, length, take, drop, set, replicate, get_or}
use Rattle.std.proofs.Common.{refl, sym, ap, ◌∙◌, arith, append_assoc, length-append}
use Rattle.std.proofs.lemmas.List.{take_all, length-map}
use Rattle.std.proofs.Math.Nat.{mul_assoc, mul_comm, mul-le-mul_right}
use Rattle.dt_kinds.specs.declared.kind.Rep.{Rep}
use Rattle.dt_kinds.specs.declared.kind.Rep.TheVariants.{Native, External32}
use Rattle.dt_offsets.specs.declared.turns.Spot.{Spot}
use Rattle.dt_offsets.specs.declared.turns.Turns.{Turns}
use Rattle.dt_offsets.specs.Offsets.{turn_offsets, grid_offsets}
use Rattle.dt_offsets.proofs.GridAt.{pos_right}
use Rattle.dt_offsets.proofs.Reaches.{count-turns, length-sums}
use Rattle.dt_layout.specs.declared.instr.Instr.{Instr}
use Rattle.dt_layout.specs.declared.instr.Instr.TheVariants as variants
use Rattle.dt_layout.specs.declared.instr.Sizes.{Sizes}
use Rattle.dt_layout.specs.Body.{Body, loop, each, seq, Parts, size, sizes_of, width, widths, number_of}
use Rattle.dt_layout.specs.Program.{spelling, spellings}
use Rattle.dt_layout.specs.Written.{nest}
use Rattle.dt_layout.proofs.Bodies.{length-spelling, length-spellings}

set_mid : (before after : List Instr) (x y : Instr) → set (before ++ x ∷ after) (length before) y ≡ before ++ y ∷ after
set_mid [] after x y = refl
set_mid (b ∷ before) after x y = ap (λ s. b ∷ s) (set_mid before after x y)

-- a head at its place, and an end
sealed : (before inside mid new : List Instr) (at : ℕ) (head : Instr) → at ≡ length before → mid ≡ before ++ variants.End ∷ inside → new ≡ set (mid ++ variants.End ∷ []) at head
    → new ≡ before ++ head ∷ (inside ++ variants.End ∷ [])
sealed before inside mid new at head there was told =
    told ∙ ap (λ k. set (mid ++ variants.End ∷ []) k head) there
    ∙ ap (λ s. set s (length before) head) (ap (λ s. s ++ variants.End ∷ []) was ∙ append_assoc before (variants.End ∷ inside) (variants.End ∷ []))
    ∙ set_mid before (inside ++ variants.End ∷ []) variants.End head

long : (before inside mid : List Instr) → mid ≡ before ++ variants.End ∷ inside → length mid ≡ length before + (1 + length inside)
long before inside mid was = let all = ap length was ∙ length-append before (variants.End ∷ inside) in omega (arith, all)

pub loop_sealed : (before mid new : List Instr) (at next : ℕ) (sizes : Sizes) (t : Turns) (body : Body) → at ≡ length before → mid ≡ before ++ variants.End ∷ spelling (length before + 1) body
    → sizes ≡ sizes_of body → next ≡ length mid + 1 → new ≡ set (mid ++ variants.End ∷ []) at (variants.Loop t sizes next) → new ≡ before ++ spelling (length before) (loop t body)
loop_sealed before mid new at next sizes t body there was same after told =
    let inside = spelling (length before + 1) body in
    let far : next ≡ length before + (width body + 2) = let all = long before inside mid was in let wide = length-spelling (length before + 1) body in omega (arith, all, wide, after) in
    sealed before inside mid new at (variants.Loop t sizes next) there was told
    ∙ ap (λ s. before ++ variants.Loop t s next ∷ (inside ++ variants.End ∷ [])) same
    ∙ ap (λ n. before ++ variants.Loop t (sizes_of body) n ∷ (inside ++ variants.End ∷ [])) far

pub each_sealed : (before mid new : List Instr) (at next : ℕ) (sizes : Sizes) (spots : List Spot) (body : Body) → at ≡ length before
    → mid ≡ before ++ variants.End ∷ (map variants.Spot spots ++ spelling (length before + 1 + length spots) body)
    → sizes ≡ sizes_of body → next ≡ length mid + 1 → new ≡ set (mid ++ variants.End ∷ []) at (variants.Each (length spots) sizes next) → new ≡ before ++ spelling (length before) (each spots body)
each_sealed before mid new at next sizes spots body there was same after told =
    let rows = map variants.Spot spots in
    let inner = spelling (length before + 1 + length spots) body in
    let far : next ≡ length before + (length spots + width body + 2) =
    let all = long before (rows ++ inner) mid was in
    let wide = length-spelling (length before + 1 + length spots) body in
    omega (arith, all, wide, after, length-append rows inner, length-map spots variants.Spot) in
    sealed before (rows ++ inner) mid new at (variants.Each (length spots) sizes next) there was told
    ∙ ap (λ s. before ++ variants.Each (length spots) s next ∷ ((rows ++ inner) ++ variants.End ∷ [])) same
    ∙ ap (λ n. before ++ variants.Each (length spots) (sizes_of body) n ∷ ((rows ++ inner) ++ variants.End ∷ [])) far
    ∙ ap (λ s. before ++ variants.Each (length spots) (sizes_of body) (length before + (length spots + width body + 2)) ∷ s) (append_assoc rows inner (variants.End ∷ []))

pub seq_sealed : (before mid new : List Instr) (at next number : ℕ) (parts : Parts) → at ≡ length before → mid ≡ before ++ variants.End ∷ spellings (length before + 1) parts
    → number ≡ number_of parts → next ≡ length mid + 1 → new ≡ set (mid ++ variants.End ∷ []) at (variants.Seq number next) → new ≡ before ++ spelling (length before) (seq parts)
seq_sealed before mid new at next number parts there was same after told =
    let inside = spellings (length before + 1) parts in
    let far : next ≡ length before + (widths parts + 2) = let all = long before inside mid was in let wide = length-spellings (length before + 1) parts in omega (arith, all, wide, after) in
    sealed before inside mid new at (variants.Seq number next) there was told
    ∙ ap (λ n. before ++ variants.Seq n next ∷ (inside ++ variants.End ∷ [])) same
    ∙ ap (λ n. before ++ variants.Seq (number_of parts) n ∷ (inside ++ variants.End ∷ [])) far

-- the sizes of a body at nested turns
pub copies_more : (t : Turns) (ts : List Turns) → length (grid_offsets (t ∷ ts)) ≡ t.count * length (grid_offsets ts)
copies_more t ts = length-sums (turn_offsets t) (grid_offsets ts) ∙ ap (λ n. n * length (grid_offsets ts)) (count-turns t)

pub size-nest : (rep : Rep) (ts : List Turns) (body : Body) → size rep (nest ts body) ≡ length (grid_offsets ts) * size rep body
size-nest rep [] body = omega arith
size-nest rep (t ∷ ts) body =
    ap (λ n. t.count * n) (size-nest rep ts body) ∙ sym (mul_assoc t.count (length (grid_offsets ts)) (size rep body)) ∙ ap (λ n. n * size rep body) (sym (copies_more t ts))

both : (a b c d : ℕ) → a ≡ c → b ≡ d → (let s : Sizes = record { native = a; ext = b } in s) ≡ record { native = c; ext = d }
both a b c d e f = cc

abbrev pub many : ℕ → Sizes → Sizes
many n sizes = record { native = n * sizes.native; ext = n * sizes.ext }

pub sizes-nest : (ts : List Turns) (body : Body) → many (length (grid_offsets ts)) (sizes_of body) ≡ sizes_of (nest ts body)
sizes-nest ts body = both _ _ _ _ (sym (size-nest Native ts body)) (sym (size-nest External32 ts body))

pub rest_is : (ts : List Turns) (d : Turns) → 1 ≤ length ts → ts ≡ get_or ts 0 d ∷ take (length ts - 1) (drop 1 ts)
rest_is [] d h = absurd (omega arith)
rest_is (t ∷ ts) d h = ap (λ s. t ∷ s) (sym (take_all (length (t ∷ ts) - 1) ts (omega arith)))

-- the first of nested turns, around the rest
module _ (levels rest : List Turns) (t : Turns) (is : levels ≡ t ∷ rest) where
  abbrev all : ℕ
  all = length (grid_offsets levels)

  abbrev inner : ℕ
  inner = length (grid_offsets rest)

  copies_are : all ≡ t.count * inner
  copies_are = ap (λ ts. length (grid_offsets ts)) is ∙ copies_more t rest

  pub rest_some : 0 < all → 0 < inner
  rest_some some = let e = copies_are in pos_right t.count inner (omega arith)

  times_are : (n : ℕ) → t.count * (inner * n) ≡ all * n
  times_are n = sym (mul_assoc t.count inner n) ∙ ap (λ k. k * n) (sym copies_are)

  pub rest_small : (n : ℕ) → 0 < all → all * n ≤ 2 ^ 62 → inner * n ≤ 2 ^ 62
  rest_small n some small =
      let e = copies_are in
      let turned = mul_comm t.count inner in
      let one : 0 < t.count = pos_right inner t.count (omega arith) in
      let more : 1 * (inner * n) ≤ t.count * (inner * n) = mul-le-mul_right (inner * n) one in
      let whole = times_are n in
      omega arith

  pub times_small : (n : ℕ) (sizes inside : Sizes) → n ≡ t.count → all * sizes.native ≤ 2 ^ 62 → inside ≡ many inner sizes → n * inside.native ≤ 2 ^ 62
  times_small n sizes inside same small told =
      let counts = ap (λ k. k * inside.native) same ∙ ap (λ (s : Sizes). t.count * s.native) told ∙ times_are sizes.native in
      omega arith

  pub times_all : (sizes inside result : Sizes) → inside ≡ many inner sizes → result ≡ many t.count inside → result ≡ many all sizes
  times_all sizes inside result told is = is ∙ ap (many t.count) told ∙ both _ _ _ _ (times_are sizes.native) (times_are sizes.ext)

  pub shorter : length rest < length levels
  shorter = let e = ap length is in omega arith

  -- one more loop is closed
  pub closed : (old mid new : List Instr) (at next : ℕ) (sizes inside : Sizes)
      → ((before : List Instr) → (body : Body) → at + 1 ≡ length before → old ≡ before ++ (replicate (length rest) variants.End ++ spelling (length before + length rest) body)
      → sizes ≡ sizes_of body → mid ≡ before ++ spelling (length before) (nest rest body))
      → inside ≡ many inner sizes → next ≡ length mid + 1 → new ≡ set (mid ++ variants.End ∷ []) at (variants.Loop t inside next)
      → (before : List Instr) → (body : Body) → at ≡ length before → old ≡ before ++ (replicate (length levels) variants.End ++ spelling (length before + length levels) body)
      → sizes ≡ sizes_of body → new ≡ before ++ spelling (length before) (nest levels body)
  closed old mid new at next sizes inside deeper told after is_new before body there was same =
      let more : List Instr = before ++ variants.End ∷ [] in
      let long : length more ≡ length before + 1 = length-append before (variants.End ∷ []) in
      let count : length levels ≡ suc (length rest) = ap length is in
      let far : length before + length levels ≡ length more + length rest = omega (arith, long, count) in
      let begins : old ≡ more ++ (replicate (length rest) variants.End ++ spelling (length more + length rest) body) =
      was ∙ ap (λ n. before ++ (replicate (length levels) variants.End ++ spelling n body)) far
      ∙ ap (λ n. before ++ (replicate n variants.End ++ spelling (length more + length rest) body)) count
      ∙ sym (append_assoc before (variants.End ∷ []) (replicate (length rest) variants.End ++ spelling (length more + length rest) body)) in
      let known = deeper more body (omega (arith, long, there)) begins same in
      let inside_is = told ∙ ap (many inner) same ∙ sizes-nest rest body in
      let place : mid ≡ before ++ variants.End ∷ spelling (length before + 1) (nest rest body) =
      known ∙ ap (λ n. more ++ spelling n (nest rest body)) long ∙ append_assoc before (variants.End ∷ []) (spelling (length before + 1) (nest rest body)) in
      loop_sealed before mid new at next inside t (nest rest body) there place inside_is after is_new ∙ ap (λ ts. before ++ spelling (length before) (nest ts body)) (sym is)
