-- The instructions of a datatype, put together.
use Rattle.std.specs.Prelude.{◌≡◌, ℕ, zero, suc, ◌+◌, ◌*◌, ◌<◌, ◌≤◌, List, [], ◌∷◌, ◌++◌, map, length, take, set, replicate, get_or}
use Rattle.std.specs.List.{flat_map}
use Rattle.std.proofs.Common.{refl, sym, ap, ◌∙◌, arith, append_assoc, length-append}
use Rattle.std.proofs.lemmas.Grind.{replicate_next}
use Rattle.std.proofs.lemmas.List.{length-map, length-replicate, take_more}
use Rattle.std.proofs.Math.Nat.{mul-pos}
use Rattle.dt_kinds.specs.declared.kind.Kind.{Kind}
use Rattle.dt_kinds.specs.declared.kind.Rep.TheVariants.{Native}
use Rattle.dt_map.specs.declared.entry.Entry.{Entry}
use Rattle.dt_map.specs.Packed.{total}
use Rattle.dt_map.proofs.Copies.{total-append}
use Rattle.dt_offsets.specs.declared.turns.Spot.{Spot}
use Rattle.dt_offsets.specs.declared.turns.Turns.{Turns}
use Rattle.dt_offsets.proofs.Reaches.{count-row}
use Rattle.dt_type.specs.declared.datatype.Seen.{Seen}
use Rattle.dt_type.specs.declared.shape.ShapePartOf.{ShapePartOf}
use Rattle.dt_type.specs.Datatype.{entries_of}
use Rattle.dt_type.specs.Listing.{entries_at}
use Rattle.dt_type.specs.Shape.{placed_parts}
use Rattle.dt_layout.specs.declared.instr.Instr.{Instr}
use Rattle.dt_layout.specs.declared.instr.Instr.TheVariants as variants
use Rattle.dt_layout.specs.declared.instr.Sizes.{Sizes}
use Rattle.dt_layout.specs.Body.{Body, one, each, seq, Parts, sizes_of, number_of}
use Rattle.dt_layout.specs.Program.{spelling, spellings}
use Rattle.dt_layout.specs.Written.{nest, is_loop, AreLevels, IsWritten}
use Rattle.dt_layout.proofs.Arms.{IsCore, totals, sizes_told, written_under, nest_loops}
use Rattle.dt_layout.proofs.Under.{length-copies}
use Rattle.dt_layout.proofs.PartLists.{row_of, part_listed}
use Rattle.dt_type.proofs.Lookups.{part_entries, entries-parts}
use Rattle.dt_layout.proofs.Spelled.{each_sealed, seq_sealed}

abbrev kept : ℕ → List Instr
kept n = replicate n variants.End

-- a body after places that are kept
pub one_placed : (old mid new : List Instr) (n levels : ℕ) (kind : Kind) → n ≡ levels → mid ≡ old ++ kept n → new ≡ mid ++ variants.One kind ∷ [] → new ≡ old ++ (kept levels ++ spelling (length old + levels) (one kind))
one_placed old mid new n levels kind same opened told =
    told ∙ ap (λ s. s ++ variants.One kind ∷ []) (opened ∙ ap (λ k. old ++ kept k) same) ∙ append_assoc old (kept levels) (variants.One kind ∷ [])

module _ (old opened : List Instr) (n levels : ℕ) (same : n ≡ levels + 1) (opens : opened ≡ old ++ kept n) where
  before : List Instr
  before = old ++ kept levels

  opened_is : opened ≡ before ++ variants.End ∷ []
  unfolding before
  opened_is = opens ∙ ap (λ k. old ++ kept k) same ∙ ap (λ s. old ++ s) (replicate_next levels variants.End) ∙ sym (append_assoc old (kept levels) (variants.End ∷ []))

  long : length before ≡ length old + levels
  unfolding before
  long = length-append old (kept levels) ∙ ap (λ k. length old + k) (length-replicate levels variants.End)

  settled : (new : List Instr) (body : Body) → new ≡ before ++ spelling (length before) body → new ≡ old ++ (kept levels ++ spelling (length old + levels) body)
  unfolding before
  settled new body told = told ∙ ap (λ k. (old ++ kept levels) ++ spelling k body) long ∙ append_assoc old (kept levels) (spelling (length old + levels) body)

  pub each_placed : (rows mid new : List Instr) (at next : ℕ) (sizes : Sizes) (ss spots : List Spot) (body : Body) → ss ≡ spots → rows ≡ opened ++ map variants.Spot ss → mid ≡ rows ++ spelling (length rows) body
      → at ≡ length old + levels → sizes ≡ sizes_of body → next ≡ length mid + 1 → (number : ℕ) → number ≡ length spots → new ≡ set (mid ++ variants.End ∷ []) at (variants.Each number sizes next)
      → new ≡ old ++ (kept levels ++ spelling (length old + levels) (each spots body))
  each_placed rows mid new at next sizes ss spots body these pushed told there sized after number counted sealing =
      let pushed_is : rows ≡ before ++ variants.End ∷ map variants.Spot spots =
      pushed ∙ ap (λ ss. opened ++ map variants.Spot ss) these ∙ ap (λ s. s ++ map variants.Spot spots) opened_is ∙ append_assoc before (variants.End ∷ []) (map variants.Spot spots) in
      let far : length rows ≡ length before + 1 + length spots =
      let all = ap length pushed_is in omega (arith, all, length-append before (variants.End ∷ map variants.Spot spots), length-map spots variants.Spot) in
      let inner = spelling (length before + 1 + length spots) body in
      let mid_is : mid ≡ before ++ variants.End ∷ (map variants.Spot spots ++ inner) =
      told ∙ ap (λ k. rows ++ spelling k body) far ∙ ap (λ s. s ++ inner) pushed_is ∙ append_assoc before (variants.End ∷ map variants.Spot spots) inner in
      let place : at ≡ length before = there ∙ sym long in
      settled new (each spots body) (each_sealed before mid new at next sizes spots body place mid_is sized after (sealing ∙ ap (λ k. set (mid ++ variants.End ∷ []) at (variants.Each k sizes next)) counted))

  pub seq_placed : (mid new : List Instr) (at next number : ℕ) (parts : Parts) → mid ≡ opened ++ spellings (length opened) parts → at ≡ length old + levels → number ≡ number_of parts → next ≡ length mid + 1
      → new ≡ set (mid ++ variants.End ∷ []) at (variants.Seq number next) → new ≡ old ++ (kept levels ++ spelling (length old + levels) (seq parts))
  seq_placed mid new at next number parts told there counted after sealing =
      let far : length opened ≡ length before + 1 = let all = ap length opened_is in omega (arith, all, length-append before (variants.End ∷ [])) in
      let inner = spellings (length before + 1) parts in
      let mid_is : mid ≡ before ++ variants.End ∷ inner =
      told ∙ ap (λ k. opened ++ spellings k parts) far ∙ ap (λ s. s ++ inner) opened_is ∙ append_assoc before (variants.End ∷ []) inner in
      let place : at ≡ length before = there ∙ sym long in
      settled new (seq parts) (seq_sealed before mid new at next number parts place mid_is counted after sealing)

-- the loops around it closed
pub finished : (levels ls : List Turns) (t : Seen) (old mid new : List Instr) (start : ℕ) (sizes : Sizes) (core : Body) → ls ≡ levels → AreLevels levels t → IsCore t core → start ≡ length old
    → mid ≡ old ++ (kept (length levels) ++ spelling (length old + length levels) core) → sizes ≡ totals (entries_of t)
    → ((before : List Instr) → (body : Body) → start ≡ length before → mid ≡ before ++ (kept (length ls) ++ spelling (length before + length ls) body) → sizes ≡ sizes_of body → new ≡ before ++ spelling (length before) (nest ls body))
    → (body : Body) × IsWritten levels t old new body × (0 < length levels → is_loop body)
finished levels ls t old mid new start sizes core same are is begins told sized closes =
    let whole : mid ≡ old ++ (kept (length ls) ++ spelling (length old + length ls) core) = told ∙ ap (λ ts. old ++ (kept (length ts) ++ spelling (length old + length ts) core)) (sym same) in
    let done = closes old core begins whole (sized ∙ sizes_told (entries_of t) core is.means) in
    (nest levels core, written_under levels t old new core are is (done ∙ ap (λ ts. old ++ spelling (length old) (nest ts core)) same), nest_loops levels core)

-- a part of a shape: it is less deep, has entries where it has copies of some, and no more bytes than all
module _ (shapes : List (ShapePartOf Seen)) (i : ℕ) (p : ShapePartOf Seen) (lt : i < length shapes) (is : p ≡ get_or shapes i p) where
  pub next_part : take (i + 1) shapes ≡ take i shapes ++ p ∷ []
  next_part = take_more shapes i p lt ∙ ap (λ q. take i shapes ++ q ∷ []) (sym is)

total_piece : {X : Type 0} (f : X → List Entry) (xs : List X) (k : ℕ) (d : X) → k < length xs → total Native (f (get_or xs k d)) ≤ total Native (flat_map f xs)
total_piece f [] k d lt = absurd (omega arith)
total_piece f (x ∷ xs) zero d lt = let all = total-append Native (f x) (flat_map f xs) in omega (arith, all)
total_piece f (x ∷ xs) (suc k) d lt = let all = total-append Native (f x) (flat_map f xs) in let rest = total_piece f xs k d (omega arith) in omega (arith, all, rest)

pub part_small : (shapes : List (ShapePartOf Seen)) (i : ℕ) (p : ShapePartOf Seen) → i < length shapes → p ≡ get_or shapes i p → total Native (entries_at (row_of p) (entries_of p.old)) ≤ total Native (placed_parts shapes).entries
part_small shapes i p lt is =
    let piece = total_piece part_entries shapes i p lt in
    let here = ap (λ q. total Native (part_entries q)) is in
    let listed = ap (total Native) (part_listed p) in
    let all = ap (total Native) (entries-parts shapes) in
    omega (arith, piece, here, listed, all)

pub part_some : (p : ShapePartOf Seen) → 0 < p.copies → 0 < length (entries_of p.old) → 0 < length (entries_at (row_of p) (entries_of p.old))
part_some p copies some =
    let long = length-copies (row_of p) (entries_of p.old) ∙ ap (λ n. n * length (entries_of p.old)) (count-row p.first p.step p.copies) in
    let more : 0 < p.copies * length (entries_of p.old) = mul-pos copies some in
    omega (arith, long, more)

-- a list of one
pub single : {A : Type 0} (xs : List A) (d : A) → length xs ≡ 1 → xs ≡ get_or xs 0 d ∷ []
single [] d e = absurd (omega (arith, e))
single (x ∷ []) d e = refl
single (x ∷ y ∷ xs) d e = absurd (omega (arith, e))
