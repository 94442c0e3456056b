-- The body of a datatype, by its shape.
use Rattle.std.specs.Prelude.{◌≡◌, ℕ, ◌+◌, ◌*◌, ◌^◌, ◌<◌, ◌≤◌, ℤ, pos, List, [], ◌∷◌, ◌++◌, map, length}
use Rattle.std.specs.List.{AllByRecursion, sum_by}
use Rattle.std.proofs.Common.{sym, ap, subst, ◌∙◌, arith, append-nil, length-append}
use Rattle.std.proofs.lemmas.Int.{ints}
use Rattle.std.proofs.lemmas.List.Folds.{flat_map-map}
use Rattle.std.proofs.lemmas.List.Sums.{sum_by-cons}
use Rattle.dt_kinds.specs.declared.kind.Kind.{Kind}
use Rattle.dt_kinds.specs.declared.kind.Rep.{Rep}
use Rattle.dt_kinds.specs.declared.kind.Rep.TheVariants.{Native, External32}
use Rattle.dt_map.specs.declared.entry.Entry.{Entry}
use Rattle.dt_map.specs.Packed.{total}
use Rattle.dt_map.specs.Typemap.{Marked, shift}
use Rattle.dt_map.proofs.Copies.{total-shift}
use Rattle.dt_offsets.specs.declared.turns.Spot.{Spot}
use Rattle.dt_offsets.specs.declared.turns.Turns.{Turns}
use Rattle.dt_offsets.specs.Near.{AreTurns, IsSpot}
use Rattle.dt_offsets.specs.Offsets.{turn_offsets, grid_offsets, spot_offsets, row_offsets}
use Rattle.dt_offsets.proofs.Lookups.{sums-zero}
use Rattle.dt_layout.proofs.PartLists.{placed_more}
use Rattle.dt_type.specs.declared.datatype.Seen.{Seen}
use Rattle.dt_type.specs.declared.shape.ShapeOf.{ShapeOf}
use Rattle.dt_type.specs.declared.shape.ShapeOf.TheVariants.{One, Grid, Each, Seq}
use Rattle.dt_type.specs.declared.shape.ShapePartOf.{ShapePartOf}
use Rattle.dt_type.specs.Conditions.{AreNested, HasNumbers}
use Rattle.dt_type.specs.Datatype.{entries_of, typemap_of, form_of, weight_of, depth_of}
use Rattle.dt_type.specs.Form.{result_of, deepest}
use Rattle.dt_type.specs.Listing.{entries_at}
use Rattle.dt_form.specs.Form as form
use Rattle.dt_type.specs.Shape.{placed_by, olds_of, items_of, levels_of}
use Rattle.dt_type.specs.ShapeFor.{IsShapeFor}
use Rattle.dt_layout.specs.declared.instr.Instr.{Instr}
use Rattle.dt_layout.specs.declared.instr.Sizes.{Sizes}
use Rattle.dt_layout.specs.Body.{Body, one, each, seq, Parts, meaning, size, sizes_of, width, opened}
use Rattle.dt_layout.specs.Program.{spelling}
use Rattle.dt_layout.specs.Written.{nest, is_loop, copies_under, AreLevels, IsWritten, AreWritten}
use Rattle.dt_layout.proofs.Bodies.{size_is_total, width-nest, opened-nest, meaning-nest, meaning-each, IsLawfulIfClose, lawful-under, lawful-each}
use Rattle.dt_layout.proofs.Copies.{copies_at_none, grid_of_grids, total_copies}
use Rattle.dt_layout.proofs.Under.{deeper_levels, some_one}
use Rattle.dt_layout.proofs.Weights.{weighs, lies, has_levels, IsHandy}

-- the body of a datatype alone
pub record IsCore (t : Seen) (core : Body) : Type 0 where
  pub means : (x : ℤ) → meaning core x ≡ shift x (entries_of t)
  pub lawful : IsLawfulIfClose core
  pub short : width core ≤ 3 * weight_of t
  pub shallow : opened core + 1 ≤ 2 * depth_of t

-- under nested turns
pub written_under : (levels : List Turns) (t : Seen) (old new : List Instr) (core : Body) → AreLevels levels t → IsCore t core → new ≡ old ++ spelling (length old) (nest levels core) → IsWritten levels t old new (nest levels core)
written_under levels t old new core are is told = record {
  spelled = told;
  means = meaning-nest levels core (entries_of t) is.means;
  lawful = lawful-under levels core (entries_of t) are.turns are.offsets is.means is.lawful;
  short = let short = is.short in omega (arith, short, width-nest levels core);
  shallow = let shallow = is.shallow in omega (arith, shallow, opened-nest levels core);
}

pub nest_loops : (ts : List Turns) (body : Body) → 0 < length ts → is_loop (nest ts body)
nest_loops [] body some = absurd (omega arith)
nest_loops (t ∷ ts) body some = tt

both : (a b c d : ℕ) → a ≡ c → b ≡ d → (let s : Sizes = record { native = a; ext = b } in s) ≡ record { native = c; ext = d }
both a b c d e f = cc

abbrev pub totals : List Entry → Sizes
totals es = record { native = total Native es; ext = total External32 es }

pub sizes_told : (es : List Entry) (core : Body) → ((x : ℤ) → meaning core x ≡ shift x es) → totals es ≡ sizes_of core
sizes_told es core means = both _ _ _ _ (told Native) (told External32)
  where
    told : (rep : Rep) → total rep es ≡ size rep core
    told rep = sym (total-shift rep (pos 0) es) ∙ ap (total rep) (sym (means (pos 0))) ∙ size_is_total rep core (pos 0)

-- the packed bytes under nested turns
pub small_under : (levels : List Turns) (t : Seen) (n : ℕ) → AreLevels levels t → n ≡ total Native (entries_of t) → length (grid_offsets levels) * n ≤ 2 ^ 62
small_under levels t n are same =
    let all = total_copies Native (grid_offsets levels) (entries_of t) in
    let small : total Native (copies_under levels t) ≤ 2 ^ 62 = are.small in
    let counts = ap (λ k. length (grid_offsets levels) * k) same in
    omega arith

module _ (t : Seen) (s : ShapeOf Seen) (made : t ≡ result_of (form_of t)) (goes : IsShapeFor s (form_of t)) (placed : (placed_by s).entries ≡ entries_of t) where
  pub core_one : (kind : Kind) → s ≡ One kind → IsCore t (one kind)
  core_one kind is = record {
    means = λ x. single x ∙ ap (shift x) (ap (λ (s : ShapeOf Seen). (placed_by s).entries) (sym is) ∙ placed);
    lawful = λ x close. tt;
    short = let weight = weighs t s made goes in omega (arith, weight);
    shallow = let depth = lies t s made goes in let level = (has_levels t s made goes).0 in omega (arith, depth, level);
  }
    where
      single : (x : ℤ) → meaning (one kind) x ≡ shift x (placed_by (One kind)).entries
      single x = ap (λ d. let e : Entry = record { kind = kind; disp = d } in e ∷ []) (omega (arith, ints))

  entries_each : (spots : List Spot) (old : Seen) → s ≡ Each spots old → entries_of t ≡ entries_at (spot_offsets spots) (entries_of old)
  entries_each spots old is =
      sym placed ∙ ap (λ (s : ShapeOf Seen). (placed_by s).entries) is
      ∙ flat_map-map (λ (member : ℤ × Marked). shift member.0 member.1.entries) (λ x. (x, typemap_of old)) (spot_offsets spots)

  pub some_each : (spots : List Spot) (old : Seen) → s ≡ Each spots old → 0 < length (entries_of t) → 0 < length (entries_of old)
  some_each spots old is some = some_one (spot_offsets spots) (entries_of old) (subst (λ es. 0 < length es) (entries_each spots old is) some)

  pub core_each : (spots : List Spot) (old : Seen) (before after : List Instr) (body : Body) → s ≡ Each spots old → IsHandy old → 0 < length (entries_of old) → IsWritten [] old before after body → IsCore t (each spots body)
  core_each spots old before after body is handy some written =
      let es = entries_of old in
      let means : (x : ℤ) → meaning body x ≡ shift x es = λ x. written.means x ∙ ap (shift x) (copies_at_none es) in
      let spotted : AllByRecursion IsSpot spots = subst HasNumbers is goes.numbers in
      let weight = weighs t s made goes in
      let depth = lies t s made goes in
      let level = (has_levels t s made goes).0 in
      let items = ap items_of is in
      let old_weight = ap (λ s. sum_by weight_of (olds_of s)) is ∙ sum_by-cons weight_of old [] in
      let old_depth = ap (λ s. deepest (olds_of s)) is in
      let short = written.short in
      let shallow = written.shallow in
      record {
        means = λ x. meaning-each spots body es means x ∙ ap (shift x) (sym (entries_each spots old is));
        lawful = lawful-each spots body es some handy.fits spotted means written.lawful;
        short = omega (arith, short, weight, items, old_weight);
        shallow = omega (arith, shallow, depth, level, old_depth);
      }

  pub core_seq : (shapes : List (ShapePartOf Seen)) (before after : List Instr) (parts : Parts) → s ≡ Seq shapes → AllByRecursion (λ old. depth_of old < depth_of t) (olds_of s) → AreWritten shapes before after parts
      → IsCore t (seq parts)
  core_seq shapes before after parts is below written =
      let weight = weighs t s made goes in
      let depth = lies t s made goes in
      let level = (has_levels t s made goes).0 in
      let items = ap items_of is in
      let old_weight = ap (λ s. sum_by weight_of (olds_of s)) is ∙ mapped shapes in
      let short = written.short in
      let shallow = written.shallow (depth_of t) (omega (arith, depth, level)) (each_below shapes (subst (λ (s : ShapeOf Seen). AllByRecursion (λ old. depth_of old < depth_of t) (olds_of s)) is below)) in
      record {
        means = λ x. written.means x ∙ ap (shift x) (ap (λ (s : ShapeOf Seen). (placed_by s).entries) (sym is) ∙ placed);
        lawful = written.lawful;
        short = omega (arith, short, weight, items, old_weight);
        shallow = omega (arith, shallow);
      }
    where
      mapped : (ps : List (ShapePartOf Seen)) → sum_by weight_of (map (λ (p : ShapePartOf Seen). p.old) ps) ≡ sum_by (λ (p : ShapePartOf Seen). weight_of p.old) ps
      mapped [] = omega arith
      mapped (p ∷ ps) =
          let rest = mapped ps in
          omega (arith, rest, sum_by-cons weight_of p.old (map (λ (p : ShapePartOf Seen). p.old) ps), sum_by-cons (λ (p : ShapePartOf Seen). weight_of p.old) p ps)

      each_below : (ps : List (ShapePartOf Seen)) → AllByRecursion (λ old. depth_of old < depth_of t) (map (λ (p : ShapePartOf Seen). p.old) ps) → AllByRecursion (λ (p : ShapePartOf Seen). depth_of p.old < depth_of t) ps
      each_below [] h = tt
      each_below (p ∷ ps) h = (h.0, each_below ps h.1)

  -- an old type that is placed by nested turns, which join those that stand
  module _ (levels turns : List Turns) (old : Seen) (entries : entries_of t ≡ entries_at (grid_offsets turns) (entries_of old)) where
    pub inner_levels : AllByRecursion AreTurns turns → AreNested turns → IsHandy t → IsHandy old → AreLevels levels t → AreLevels (levels ++ turns) old
    inner_levels turned nested handy handy_old are = deeper_levels levels turns t old are turned nested handy.fits handy_old.fits entries

    pub inner_written : (before after : List Instr) (body : Body) → olds_of s ≡ old ∷ [] → items_of s ≡ length turns → length turns ≤ form.levels_of (form_of t) → IsWritten (levels ++ turns) old before after body
        → IsWritten levels t before after body
    inner_written before after body olds items few written =
        let weight = weighs t s made goes in
        let depth = lies t s made goes in
        let old_weight = ap (sum_by weight_of) olds ∙ sum_by-cons weight_of old [] in
        let old_depth = ap deepest olds in
        let short = written.short in
        let shallow = written.shallow in
        let long = length-append levels turns in
        record {
          spelled = written.spelled;
          means = λ x. written.means x ∙ ap (shift x) (grid_of_grids levels turns (entries_of old) ∙ ap (entries_at (grid_offsets levels)) (sym entries));
          lawful = written.lawful;
          short = omega (arith, short, weight, items, old_weight, long);
          shallow = omega (arith, shallow, depth, few, old_depth, long);
        }

  pub entries_grid : (turns : List Turns) (old : Seen) → s ≡ Grid turns old → entries_of t ≡ entries_at (grid_offsets turns) (entries_of old)
  entries_grid turns old is =
      sym placed ∙ ap (λ (s : ShapeOf Seen). (placed_by s).entries) is
      ∙ flat_map-map (λ (member : ℤ × Marked). shift member.0 member.1.entries) (λ x. (x, typemap_of old)) (grid_offsets turns)

  pub few_grid : (turns : List Turns) (old : Seen) → s ≡ Grid turns old → length turns ≤ form.levels_of (form_of t)
  few_grid turns old is = subst (λ s. levels_of s ≤ form.levels_of (form_of t)) is (has_levels t s made goes).1

  -- a single row of copies
  pub entries_spot : (spot : Spot) (row : Turns) (old : Seen) → s ≡ Each (spot ∷ []) old → turn_offsets row ≡ row_offsets spot.first spot.copies spot.step → entries_of t ≡ entries_at (grid_offsets (row ∷ [])) (entries_of old)
  entries_spot spot row old is offsets =
      entries_each (spot ∷ []) old is
      ∙ ap (λ ys. entries_at ys (entries_of old)) (append-nil (row_offsets spot.first spot.copies spot.step) ∙ sym offsets ∙ sym (sums-zero (turn_offsets row)))

  pub entries_part : (p : ShapePartOf Seen) (row : Turns) → s ≡ Seq (p ∷ []) → turn_offsets row ≡ row_offsets p.first p.copies p.step → entries_of t ≡ entries_at (grid_offsets (row ∷ [])) (entries_of p.old)
  entries_part p row is offsets =
      sym placed ∙ ap (λ (s : ShapeOf Seen). (placed_by s).entries) is ∙ placed_more [] p
      ∙ ap (λ ys. entries_at ys (entries_of p.old)) (sym offsets ∙ sym (sums-zero (turn_offsets row)))

  pub few_one : 1 ≤ form.levels_of (form_of t)
  few_one = (has_levels t s made goes).0
