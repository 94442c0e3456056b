-- What bodies mean, how long and how deep they are.
use Rattle.std.specs.Prelude.{◌≡◌, ℕ, ◌+◌, ◌*◌, ◌^◌, ◌<◌, ◌≤◌, ℤ, pos, ◌+ℤ◌, nat_abs, List, [], ◌∷◌, ◌++◌, map, length}
use Rattle.std.specs.List.{AllByRecursion}
use Rattle.std.proofs.Common.{sym, ap, subst, ◌∙◌, arith, length-append}
use Rattle.std.proofs.lemmas.Int.{ints}
use Rattle.std.proofs.lemmas.List.{length-map}
use Rattle.dt_kinds.specs.declared.kind.Rep.{Rep}
use Rattle.dt_map.specs.declared.entry.Entry.{Entry}
use Rattle.dt_map.specs.Packed.{total}
use Rattle.dt_map.specs.Typemap.{shift}
use Rattle.dt_map.proofs.Copies.{total-append}
use Rattle.dt_offsets.specs.declared.turns.Spot.{Spot}
use Rattle.dt_offsets.specs.declared.turns.Turns.{Turns}
use Rattle.dt_offsets.specs.Near.{AreTurns, IsSpot}
use Rattle.dt_offsets.specs.Offsets.{turn_offsets, grid_offsets, spot_offsets}
use Rattle.dt_offsets.proofs.Reaches.{count-turns}
use Rattle.dt_type.specs.Listing.{entries_at, HaveDisps}
use Rattle.dt_type.proofs.ShapeNumbers.{all_more}
use Rattle.dt_layout.specs.declared.instr.Instr.{Instr}
use Rattle.dt_layout.specs.declared.instr.Instr.TheVariants as variants
use Rattle.dt_layout.specs.Body.{Body, one, loop, each, seq, Parts, no_parts, part, meaning, meanings, size, sizes, width, widths, opened}
use Rattle.dt_layout.specs.Program.{spelling, spellings, IsOffset, IsLawful}
use Rattle.dt_layout.specs.Written.{nest, AreClose, GiveOffsets}
use Rattle.dt_layout.proofs.All.{all_flat, all_zip, all_sums}
use Rattle.dt_layout.proofs.Copies.{flat_same, copies_at_none, moved_copies, copies_of_copies, total_flat, close_place}

-- the packed bytes of a body are those of its elements
total_loop : (rep : Rep) (turns : Turns) (body : Body) → ((x : ℤ) → total rep (meaning body x) ≡ size rep body) → (x : ℤ) → total rep (meaning (loop turns body) x) ≡ size rep (loop turns body)
total_loop rep turns body inside x =
    total_flat rep (λ y. meaning body (x +ℤ y)) (size rep body) (λ y. inside (x +ℤ y)) (turn_offsets turns) ∙ ap (λ n. n * size rep body) (count-turns turns)

mutual
  pub size_is_total : (rep : Rep) (body : Body) (x : ℤ) → total rep (meaning body x) ≡ size rep body
  size_is_total rep (one kind) x = omega arith
  size_is_total rep (loop turns body) x = total_loop rep turns body (λ y. size_is_total rep body y) x
  size_is_total rep (each spots body) x =
      total_flat rep (λ y. meaning body (x +ℤ y)) (size rep body) (λ y. size_is_total rep body (x +ℤ y)) (spot_offsets spots)
  size_is_total rep (seq parts) x = sizes_are_totals rep parts x

  pub sizes_are_totals : (rep : Rep) (parts : Parts) (x : ℤ) → total rep (meanings parts x) ≡ sizes rep parts
  sizes_are_totals rep no_parts x = omega arith
  sizes_are_totals rep (part turns body parts) x =
      let here = total_loop rep turns body (λ y. size_is_total rep body y) x in
      let rest = sizes_are_totals rep parts x in
      let both = total-append rep (meaning (loop turns body) x) (meanings parts x) in
      omega (arith, here, rest, both)

-- as many instructions as a body is wide spell it
length-loop : (at : ℕ) (turns : Turns) (body : Body) → length (spelling (at + 1) body) ≡ width body → length (spelling at (loop turns body)) ≡ width body + 2
length-loop at turns body inside = omega (arith, inside, length-append (spelling (at + 1) body) (variants.End ∷ []))

mutual
  pub length-spelling : (at : ℕ) (body : Body) → length (spelling at body) ≡ width body
  length-spelling at (one kind) = omega arith
  length-spelling at (loop turns body) = length-loop at turns body (length-spelling (at + 1) body)
  length-spelling at (each spots body) =
      let inside = length-spelling (at + 1 + length spots) body in
      let rest : List Instr = spelling (at + 1 + length spots) body ++ variants.End ∷ [] in
      omega (arith, inside, length-append (map variants.Spot spots) rest, length-append (spelling (at + 1 + length spots) body) (variants.End ∷ []), length-map spots variants.Spot)
  length-spelling at (seq parts) = let inside = length-spellings (at + 1) parts in omega (arith, inside, length-append (spellings (at + 1) parts) (variants.End ∷ []))

  pub length-spellings : (at : ℕ) (parts : Parts) → length (spellings at parts) ≡ widths parts
  length-spellings at no_parts = omega arith
  length-spellings at (part turns body parts) =
      let here = length-loop at turns body (length-spelling (at + 1) body) in
      let rest = length-spellings (at + (width body + 2)) parts in
      omega (arith, here, rest, length-append (spelling at (loop turns body)) (spellings (at + (width body + 2)) parts))

-- a body at nested turns
pub width-nest : (ts : List Turns) (body : Body) → width (nest ts body) ≡ 2 * length ts + width body
width-nest [] body = omega arith
width-nest (t ∷ ts) body = let inside = width-nest ts body in omega (arith, inside)

pub opened-nest : (ts : List Turns) (body : Body) → opened (nest ts body) ≡ length ts + opened body
opened-nest [] body = omega arith
opened-nest (t ∷ ts) body = let inside = opened-nest ts body in omega (arith, inside)

pub meaning-nest : (ts : List Turns) (body : Body) (es : List Entry) → ((x : ℤ) → meaning body x ≡ shift x es) → (x : ℤ) → meaning (nest ts body) x ≡ shift x (entries_at (grid_offsets ts) es)
meaning-nest [] body es means x = means x ∙ ap (shift x) (sym (copies_at_none es))
meaning-nest (t ∷ ts) body es means x =
    flat_same _ _ (λ y. meaning-nest ts body es means (x +ℤ y)) (turn_offsets t)
    ∙ moved_copies x (turn_offsets t) (entries_at (grid_offsets ts) es)
    ∙ ap (shift x) (copies_of_copies (turn_offsets t) (grid_offsets ts) es)

pub meaning-each : (spots : List Spot) (body : Body) (es : List Entry) → ((x : ℤ) → meaning body x ≡ shift x es) → (x : ℤ) → meaning (each spots body) x ≡ shift x (entries_at (spot_offsets spots) es)
meaning-each spots body es means x = flat_same _ _ (λ y. means (x +ℤ y)) (spot_offsets spots) ∙ moved_copies x (spot_offsets spots) es

lawful-nest : (ts : List Turns) (body : Body) (x : ℤ) → AllByRecursion AreTurns ts → GiveOffsets ts x → AllByRecursion (λ g. IsLawful body (x +ℤ g)) (grid_offsets ts) → IsLawful (nest ts body) x
lawful-nest [] body x turns gives lawful = let same : x +ℤ pos 0 ≡ x = omega (arith, ints) in subst (IsLawful body) same lawful.0
lawful-nest (t ∷ ts) body x turns gives lawful = (
  turns.0,
  all_zip (λ y. nat_abs (x +ℤ y) < 2 ^ 63 × GiveOffsets ts (x +ℤ y)) (λ y. AllByRecursion (λ g. IsLawful body (x +ℤ (y +ℤ g))) (grid_offsets ts))
      (λ y. IsOffset (nest ts body) (x +ℤ y) × IsLawful (nest ts body) (x +ℤ y))
      (λ y given inside. (
        λ some. given.0,
        lawful-nest ts body (x +ℤ y) turns.1 given.1
            (all_more (λ g. IsLawful body (x +ℤ (y +ℤ g))) (λ g. IsLawful body ((x +ℤ y) +ℤ g)) (λ g h. let same : x +ℤ (y +ℤ g) ≡ (x +ℤ y) +ℤ g = omega (arith, ints) in subst (IsLawful body) same h) (grid_offsets ts) inside),
      ))
      (turn_offsets t) gives (all_sums (λ g. IsLawful body (x +ℤ g)) (turn_offsets t) (grid_offsets ts) lawful),
)

-- a body that is lawful where its elements are close
abbrev pub IsLawfulIfClose : Body → Type 0
IsLawfulIfClose body = (x : ℤ) → AreClose (meaning body x) → IsLawful body x

pub lawful-under : (ts : List Turns) (body : Body) (es : List Entry) → AllByRecursion AreTurns ts → ((x : ℤ) → AreClose (shift x (entries_at (grid_offsets ts) es)) → GiveOffsets ts x)
    → ((x : ℤ) → meaning body x ≡ shift x es) → IsLawfulIfClose body → IsLawfulIfClose (nest ts body)
lawful-under ts body es turns gives means lawful x close =
    let there = subst AreClose (meaning-nest ts body es means x) close in
    let each : AllByRecursion (λ y. AreClose (shift (x +ℤ y) es)) (grid_offsets ts) =
    all_flat (λ (e : Entry). nat_abs e.disp ≤ 2 ^ 61) (λ y. shift (x +ℤ y) es) (grid_offsets ts) (subst AreClose (sym (moved_copies x (grid_offsets ts) es)) there) in
    lawful-nest ts body x turns (gives x there)
    (all_more (λ y. AreClose (shift (x +ℤ y) es)) (λ y. IsLawful body (x +ℤ y)) (λ y h. lawful (x +ℤ y) (subst AreClose (sym (means (x +ℤ y))) h)) (grid_offsets ts) each)

pub lawful-each : (spots : List Spot) (body : Body) (es : List Entry) → 0 < length es → HaveDisps es → AllByRecursion IsSpot spots
    → ((x : ℤ) → meaning body x ≡ shift x es) → IsLawfulIfClose body → IsLawfulIfClose (each spots body)
lawful-each spots body es some fits are means lawful x close = (
  are,
  all_more (λ y. AreClose (meaning body (x +ℤ y))) (λ y. IsOffset body (x +ℤ y) × IsLawful body (x +ℤ y))
      (λ y h. (λ elements. let place = close_place (x +ℤ y) es some fits (subst AreClose (means (x +ℤ y)) h) in omega (arith, place), lawful (x +ℤ y) h))
      (spot_offsets spots) (all_flat (λ (e : Entry). nat_abs e.disp ≤ 2 ^ 61) (λ y. meaning body (x +ℤ y)) (spot_offsets spots) close),
)
