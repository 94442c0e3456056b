-- What stands at the places of a body that is placed.
use Rattle.std.specs.Prelude.{◌≡◌, Some, ℕ, zero, suc, ◌+◌, ◌<◌, ◌≤◌, ℤ, List, [], ◌∷◌, ◌++◌, map, length, slice_get}
use Rattle.std.proofs.Common.{refl, sym, ap, ◌∙◌, arith, append_assoc, length-append}
use Rattle.std.proofs.lemmas.Option.{slice_get_within}
use Rattle.dt_cursor.specs.Frames.{IsPlaced}
use Rattle.dt_cursor.specs.Search.{AreSpots}
use Rattle.dt_layout.proofs.Bodies.{length-spelling}
use Rattle.dt_kinds.specs.declared.kind.Kind.{Kind}
use Rattle.dt_layout.specs.Body.{Body, one, loop, each, seq, Parts, sizes_of, width, widths, number_of}
use Rattle.dt_layout.specs.declared.instr.Instr.{Instr}
use Rattle.dt_layout.specs.declared.instr.Instr.TheVariants as variants
use Rattle.dt_layout.specs.declared.instr.Sizes.{Sizes}
use Rattle.dt_layout.specs.Program.{spelling, spellings}
use Rattle.dt_offsets.specs.declared.turns.Spot.{Spot}
use Rattle.dt_offsets.specs.declared.turns.Turns.{Turns}

pub get_seam : (before after : List Instr) (i : Instr) → slice_get (before ++ i ∷ after) (length before) ≡ Some i
get_seam [] after i = refl
get_seam (b ∷ before) after i = get_seam before after i

-- the instruction at the place of a body
abbrev pub head_of : ℕ → Body → Instr
head_of at (one kind) = variants.One kind
head_of at (loop t b) = variants.Loop t (sizes_of b) (at + (width b + 2))
head_of at (each spots b) = variants.Each (length spots) (sizes_of b) (at + (length spots + width b + 2))
head_of at (seq parts) = variants.Seq (number_of parts) (at + (widths parts + 2))

abbrev pub tail_of : ℕ → Body → List Instr
tail_of at (one kind) = []
tail_of at (loop t b) = spelling (at + 1) b ++ variants.End ∷ []
tail_of at (each spots b) = map variants.Spot spots ++ (spelling (at + 1 + length spots) b ++ variants.End ∷ [])
tail_of at (seq parts) = spellings (at + 1) parts ++ variants.End ∷ []

spelled_so : (at : ℕ) (body : Body) → spelling at body ≡ head_of at body ∷ tail_of at body
spelled_so at (one kind) = refl
spelled_so at (loop t b) = refl
spelled_so at (each spots b) = refl
spelled_so at (seq parts) = refl

module _ (code : List Instr) (at : ℕ) (body : Body) (x : ℤ) (p : IsPlaced code at body x) where
  split_here : code ≡ p.before ++ head_of at body ∷ (tail_of at body ++ p.after)
  split_here = p.spelled ∙ ap (λ s. p.before ++ (s ++ p.after)) (spelled_so at body)

  pub head_here : slice_get code at ≡ Some (head_of at body)
  head_here =
      ap (λ c. slice_get c at) split_here ∙ ap (slice_get (p.before ++ head_of at body ∷ (tail_of at body ++ p.after))) (sym p.place)
      ∙ get_seam p.before (tail_of at body ++ p.after) (head_of at body)

  pub at_within : at < length code
  at_within = let all = ap length split_here in let long = length-append p.before (head_of at body ∷ (tail_of at body ++ p.after)) in let place = p.place in omega (arith, all, long, place)

  pub ends_within : at + width body ≤ length code
  ends_within =
      let all = ap length p.spelled in
      let long = length-append p.before (spelling at body ++ p.after) in
      let more = length-append (spelling at body) p.after in
      let place = p.place in
      omega (arith, all, long, more, place, length-spelling at body)

  pub head_is : (i : Instr) → slice_get code at ≡ Some i → head_of at body ≡ i
  head_is i got = let both = sym head_here ∙ got in cc

-- what a head tells of its body
pub one_here : (at : ℕ) (body : Body) (kind : Kind) → head_of at body ≡ variants.One kind → body ≡ one kind
one_here at (one k) kind e = let same : k ≡ kind = cc in ap one same
one_here at (loop t b) kind e = cc
one_here at (each spots b) kind e = cc
one_here at (seq parts) kind e = cc

pub loop_here : (at : ℕ) (body : Body) (t : Turns) (sizes : Sizes) (next : ℕ) → head_of at body ≡ variants.Loop t sizes next
    → (b : Body) × (body ≡ loop t b) × (sizes ≡ sizes_of b) × (next ≡ at + (width b + 2))
loop_here at (one k) t sizes next e = cc
loop_here at (loop u b) t sizes next e = let same : u ≡ t = cc in (b, ap (λ v. loop v b) same, cc, cc)
loop_here at (each spots b) t sizes next e = cc
loop_here at (seq parts) t sizes next e = cc

pub each_here : (at : ℕ) (body : Body) (count : ℕ) (sizes : Sizes) (next : ℕ) → head_of at body ≡ variants.Each count sizes next
    → (spots : List Spot) × (b : Body) × (body ≡ each spots b) × (length spots ≡ count) × (sizes ≡ sizes_of b) × (next ≡ at + (length spots + width b + 2))
each_here at (one k) count sizes next e = cc
each_here at (loop u b) count sizes next e = cc
each_here at (each spots b) count sizes next e = (spots, b, refl, cc, cc, cc)
each_here at (seq parts) count sizes next e = cc

pub seq_here : (at : ℕ) (body : Body) (count next : ℕ) → head_of at body ≡ variants.Seq count next
    → (parts : Parts) × (body ≡ seq parts) × (number_of parts ≡ count) × (next ≡ at + (widths parts + 2))
seq_here at (one k) count next e = cc
seq_here at (loop u b) count next e = cc
seq_here at (each spots b) count next e = cc
seq_here at (seq parts) count next e = (parts, refl, cc, cc)

-- spots after a head
get_spot : (before : List Instr) (head : Instr) (spots : List Spot) (after : List Instr) (i : ℕ) (spot : Spot) → slice_get spots i ≡ Some spot
    → slice_get (before ++ head ∷ (map variants.Spot spots ++ after)) (length before + 1 + i) ≡ Some (variants.Spot spot)
get_spot before head spots after i spot got =
    let place : length before + 1 + i ≡ length (before ++ head ∷ []) + i = omega (arith, length-append before (head ∷ [])) in
    ap (λ s. slice_get s (length before + 1 + i)) (sym (append_assoc before (head ∷ []) (map variants.Spot spots ++ after)))
    ∙ ap (slice_get ((before ++ head ∷ []) ++ (map variants.Spot spots ++ after))) place
    ∙ past (before ++ head ∷ []) (map variants.Spot spots ++ after) i ∙ in_spots spots i got
  where
    past : (front back : List Instr) (k : ℕ) → slice_get (front ++ back) (length front + k) ≡ slice_get back k
    past [] back k = let none : 0 + k ≡ k = omega arith in ap (slice_get back) none
    past (f ∷ front) back k =
        let step : length (f ∷ front) + k ≡ suc (length front + k) = omega arith in
        ap (slice_get ((f ∷ front) ++ back)) step ∙ past front back k

    in_spots : (ss : List Spot) (k : ℕ) → slice_get ss k ≡ Some spot → slice_get (map variants.Spot ss ++ after) k ≡ Some (variants.Spot spot)
    in_spots [] k got = absurd (let less = slice_get_within [] k spot got in omega (arith, less))
    in_spots (s ∷ ss) zero got = let same : s ≡ spot = cc in ap (λ z. Some (variants.Spot z)) same
    in_spots (s ∷ ss) (suc k) got = in_spots ss k got

pub spots_here : (code : List Instr) (at : ℕ) (spots : List Spot) (b : Body) (x : ℤ) → IsPlaced code at (each spots b) x → AreSpots code (at + 1) spots
spots_here code at spots b x p i spot got =
    let head = head_of at (each spots b) in
    let rest = spelling (at + 1 + length spots) b ++ variants.End ∷ [] in
    let whole : code ≡ p.before ++ head ∷ (map variants.Spot spots ++ (rest ++ p.after)) = p.spelled ∙ ap (λ s. p.before ++ head ∷ s) (append_assoc (map variants.Spot spots) rest p.after) in
    let place : at + 1 + i ≡ length p.before + 1 + i = let there = p.place in omega (arith, there) in
    ap (λ c. slice_get c (at + 1 + i)) whole ∙ ap (slice_get (p.before ++ head ∷ (map variants.Spot spots ++ (rest ++ p.after)))) place
    ∙ get_spot p.before head spots (rest ++ p.after) i spot got
