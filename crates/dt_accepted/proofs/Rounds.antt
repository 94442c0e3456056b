-- What the types of a round place.
use Rattle.std.proofs.Common.{◌≡◌, ℕ, suc, ◌+◌, ◌-◌, ◌*◌, ◌/◌, ◌^◌, ◌≤◌, ◌<◌, true, pos, length, refl, sym, ap, subst, ◌∙◌, arith}
use Rattle.std.proofs.Math.Nat.{mod-lt, mul-le-mul}
use Rattle.dt_kinds.specs.declared.kind.Rep.TheVariants.{Native}
use Rattle.dt_kinds.specs.Kind.{native_size}
use Rattle.dt_kinds.proofs.Table.{native_size-le}
use Rattle.dt_form.specs.declared.form.FormOf.{FormOf}
use Rattle.dt_form.specs.declared.form.FormOf.TheVariants.{Named, Vector, Hvector}
use Rattle.dt_map.specs.Bounds.{extent_of}
use Rattle.dt_map.specs.Elements.{elements, are_inside, Overlaps}
use Rattle.dt_map.specs.Limits.{IsInRange}
use Rattle.dt_map.specs.Packed.{total}
use Rattle.dt_map.specs.Typemap.{Marked}
use Rattle.dt_type.specs.Answer.{IsAllowed}
use Rattle.dt_type.specs.Datatype.{Layer, typemap_of, entries_of, depth_of, weight_of}
use Rattle.dt_type.specs.declared.datatype.Seen.{Seen, out-roll-Seen}
use Rattle.dt_type.specs.Form.{map_by, result_of, depth_by, weight_by}
use Rattle.dt_gen.specs.Draws.{next_word, draw}
use Rattle.dt_gen.specs.Script.{round_at, row_len, row_step, rows_len, packed_len}
use Rattle.dt_accepted.proofs.Ranges.{stands_in_range}
use Rattle.dt_accepted.proofs.Stands.{Stands, stands_same, stands_inside, stands_apart, stands_total}
use Rattle.dt_accepted.proofs.Vectors.{basic_of, vector_of, typemap_is, vector_stands_at, vector_unmarked, vector_length, vector_extent, rows_unmarked, rows_stand_at, rows_length, copy_stands, copy_length}

-- a round as it is drawn; the generator shows its type to no other crate
abbrev TypeOf : {A : Type 0} → A → Type 0
TypeOf {A} x = A

abbrev pub Round : Type 0
Round = TypeOf (round_at 0).0

-- the numbers of a round
pub record IsRound (d : Round) : Type 0 where
  pub some : 1 ≤ d.count
  pub count : d.count ≤ 7
  pub any : 1 ≤ d.block
  pub block : d.block ≤ 4
  pub apart : d.block ≤ d.stride
  pub stride : d.stride ≤ 7
  pub many : 1 ≤ d.rows
  pub rows : d.rows ≤ 5
  pub gap : d.gap ≤ 2

pub drawn_below : (m word : ℕ) → 0 < m → (draw m word).0 < m
drawn_below m word some = mod-lt (next_word word / 2 ^ 33) some

pub round_is : (word : ℕ) → IsRound (round_at word).0
round_is word =
    let a = next_word word in
    let b = next_word a in
    let c = next_word b in
    let d = next_word c in
    let e = next_word d in
    let count : (draw 6 a).0 < 6 = drawn_below 6 a (omega arith) in
    let block : (draw 4 b).0 < 4 = drawn_below 4 b (omega arith) in
    let more : (draw 4 c).0 < 4 = drawn_below 4 c (omega arith) in
    let rows : (draw 4 d).0 < 4 = drawn_below 4 d (omega arith) in
    let gap : (draw 3 e).0 < 3 = drawn_below 3 e (omega arith) in
    record {
      some = omega (arith, count);
      count = omega (arith, count);
      any = omega (arith, block);
      block = omega (arith, block);
      apart = omega (arith, block, more);
      stride = omega (arith, block, more);
      many = omega (arith, rows);
      rows = omega (arith, rows);
      gap = omega (arith, gap);
    }

-- the types of a round
abbrev pub vector_in : Round → Seen
vector_in d = vector_of d.kind d.count d.block d.stride

abbrev pub vector_form : Round → FormOf Seen
vector_form d = Vector (pos d.count) (pos d.block) (pos d.stride) (basic_of d.kind)

abbrev pub rows_form : Round → FormOf Seen
rows_form d = Hvector (pos d.rows) (pos 1) (pos (row_step d)) (vector_in d)

abbrev pub rows_in : Round → Seen
rows_in d = result_of (rows_form d)

-- how deep they are and what they weigh
pub depth_is : (form : FormOf Seen) → depth_of (result_of form) ≡ depth_by form
depth_is form = ap (λ (l : Layer). l.depth) (out-roll-Seen _)

pub weight_is : (form : FormOf Seen) → weight_of (result_of form) ≡ weight_by form
weight_is form = ap (λ (l : Layer). l.weight) (out-roll-Seen _)

module _ (d : Round) (is : IsRound d) where
  -- the lengths are small
  pub row_small : row_len d ≤ 368
  row_small =
      let count : d.count - 1 ≤ 6 = omega (arith, is.count) in
      let turns : (d.count - 1) * d.stride ≤ 6 * 7 = mul-le-mul count is.stride in
      let all : (d.count - 1) * d.stride + d.block ≤ 46 = omega (arith, turns, is.block) in
      let bytes : ((d.count - 1) * d.stride + d.block) * native_size d.kind ≤ 46 * 8 = mul-le-mul all (native_size-le d.kind) in
      omega (arith, bytes)

  pub step_small : row_step d ≤ 384
  step_small = let h = row_small in let g = is.gap in omega (arith, h, g)

  pub rows_small : rows_len d ≤ 1904
  rows_small =
      let rows : d.rows - 1 ≤ 4 = omega (arith, is.rows) in
      let steps : (d.rows - 1) * row_step d ≤ 4 * 384 = mul-le-mul rows step_small in
      let one = row_small in
      omega (arith, steps, one)

  pub packed_small : packed_len d ≤ 1120
  packed_small =
      let a : d.rows * d.count ≤ 5 * 7 = mul-le-mul is.rows is.count in
      let b : d.rows * d.count * d.block ≤ 35 * 4 = mul-le-mul a is.block in
      let c : d.rows * d.count * d.block * native_size d.kind ≤ 140 * 8 = mul-le-mul b (native_size-le d.kind) in
      omega (arith, c)

  -- the vector
  vector_end : ((d.count - 1) * d.stride + (d.block - 1)) * native_size d.kind + native_size d.kind ≡ row_len d
  vector_end =
      let b : d.block ≡ suc (d.block - 1) = omega (arith, is.any) in
      let z = native_size d.kind in
      let c = (d.count - 1) * d.stride in
      let one : (c + (d.block - 1)) * z + z ≡ (c + suc (d.block - 1)) * z = omega arith in
      one ∙ ap (λ n. (c + n) * z) (sym b)

  next_apart : suc (d.block - 1) ≤ d.stride
  next_apart = omega (arith, is.any, is.apart)

  count_is : suc (d.count - 1) ≡ d.count
  count_is = omega (arith, is.some)

  block_is : suc (d.block - 1) ≡ d.block
  block_is = omega (arith, is.any)

  rows_is : suc (d.rows - 1) ≡ d.rows
  rows_is = omega (arith, is.many)

  pub vector_stands : Stands d.kind 0 (entries_of (vector_in d)) (row_len d)
  vector_stands =
      let P : ℕ → ℕ → Type 0 = λ c b. Stands d.kind 0 (entries_of (vector_of d.kind c b d.stride)) (row_len d) in
      subst (λ c. P c d.block) count_is (subst (λ b. P (suc (d.count - 1)) b) block_is
      (stands_same d.kind 0 0 (((d.count - 1) * d.stride + (d.block - 1)) * native_size d.kind + native_size d.kind) (row_len d)
      (entries_of (vector_of d.kind (suc (d.count - 1)) (suc (d.block - 1)) d.stride)) refl vector_end
      (vector_stands_at d.kind (d.count - 1) (d.block - 1) d.stride next_apart)))

  row_extent : extent_of (typemap_of (vector_in d)) ≡ pos (row_len d)
  row_extent =
      let P : ℕ → ℕ → Type 0 = λ c b. extent_of (typemap_of (vector_of d.kind c b d.stride)) ≡ pos (row_len d) in
      subst (λ c. P c d.block) count_is (subst (λ b. P (suc (d.count - 1)) b) block_is
      (vector_extent d.kind (d.count - 1) (d.block - 1) d.stride next_apart ∙ ap pos vector_end))

  -- its rows
  rows_map_stand : Stands d.kind 0 (map_by (rows_form d)).entries (rows_len d)
  rows_map_stand =
      let turned : row_len d + (d.rows - 1) * row_step d ≡ rows_len d = omega arith in
      let le : row_len d ≤ row_step d = omega arith in
      let es = (map_by (rows_form d)).entries in
      stands_same d.kind 0 0 (row_len d + (d.rows - 1) * row_step d) (rows_len d) es refl turned
      (subst (λ m. Stands d.kind 0 (map_by (Hvector (pos m) (pos 1) (pos (row_step d)) (vector_in d))).entries (row_len d + (d.rows - 1) * row_step d)) rows_is
      (rows_stand_at d.kind (vector_in d) (row_len d) (row_step d) vector_stands (vector_unmarked d.kind d.count d.block d.stride) row_extent (d.rows - 1) le))

  pub rows_stand : Stands d.kind 0 (entries_of (rows_in d)) (rows_len d)
  rows_stand = subst (λ (m : Marked). Stands d.kind 0 m.entries (rows_len d)) (sym (typemap_is (rows_form d))) rows_map_stand

  pub rows_many : length (entries_of (rows_in d)) ≡ d.rows * (d.count * d.block)
  rows_many =
      ap (λ (m : Marked). length m.entries) (typemap_is (rows_form d))
      ∙ (rows_length d.kind (vector_in d) (row_len d) (row_step d) vector_stands (vector_unmarked d.kind d.count d.block d.stride) row_extent d.rows
      ∙ ap (λ n. d.rows * n) (vector_length d.kind d.count d.block d.stride))

  pub rows_few : length (entries_of (rows_in d)) ≤ 140
  rows_few =
      let a : d.count * d.block ≤ 7 * 4 = mul-le-mul is.count is.block in
      let b : d.rows * (d.count * d.block) ≤ 5 * 28 = mul-le-mul is.rows a in
      omega (arith, b, rows_many)

  -- neither passes a limit
  pub vector_allowed : IsAllowed (vector_form d)
  vector_allowed =
      let same = typemap_is (vector_form d) in
      let range = stands_in_range d.kind 0 (row_len d) (entries_of (vector_in d)) vector_stands (omega (arith, row_small)) in
      let deep = depth_is (Named d.kind) in
      let heavy = weight_is (Named d.kind) in
      record {
        in_range = subst (λ (m : Marked). IsInRange m) (sym (vector_unmarked d.kind d.count d.block d.stride) ∙ same) range;
        shallow = omega (arith, deep);
        light = omega (arith, heavy);
      }

  pub rows_allowed : IsAllowed (rows_form d)
  rows_allowed =
      let bare = rows_unmarked d.kind (vector_in d) (row_len d) (row_step d) vector_stands (vector_unmarked d.kind d.count d.block d.stride) row_extent d.rows in
      let range = stands_in_range d.kind 0 (rows_len d) (map_by (rows_form d)).entries rows_map_stand (omega (arith, rows_small)) in
      let deep = depth_is (vector_form d) in
      let heavy = weight_is (vector_form d) in
      let deep_one = depth_is (Named d.kind) in
      let heavy_one = weight_is (Named d.kind) in
      record {
        in_range = subst (λ (m : Marked). IsInRange m) (sym bare) range;
        shallow = omega (arith, deep, deep_one);
        light = omega (arith, heavy, heavy_one);
      }

  -- the elements of an operation
  elements_stand : Stands d.kind 0 (elements (typemap_of (rows_in d)) 1 (pos 0)) (rows_len d)
  elements_stand = copy_stands d.kind (typemap_of (rows_in d)) (rows_len d) rows_stand

  pub elements_inside : are_inside (rows_len d) (elements (typemap_of (rows_in d)) 1 (pos 0)) ≡ true
  elements_inside = stands_inside d.kind 0 (rows_len d) (rows_len d) (elements (typemap_of (rows_in d)) 1 (pos 0)) elements_stand (omega arith)

  pub elements_apart : ¬ Overlaps (elements (typemap_of (rows_in d)) 1 (pos 0))
  elements_apart = stands_apart d.kind 0 (rows_len d) (elements (typemap_of (rows_in d)) 1 (pos 0)) elements_stand

  pub elements_packed : total Native (elements (typemap_of (rows_in d)) 1 (pos 0)) ≡ packed_len d
  elements_packed =
      let all = stands_total d.kind 0 (rows_len d) (elements (typemap_of (rows_in d)) 1 (pos 0)) elements_stand in
      let many = copy_length (typemap_of (rows_in d)) ∙ rows_many in
      let z = native_size d.kind in
      let turned : d.rows * (d.count * d.block) * z ≡ d.rows * d.count * d.block * z = omega arith in
      all ∙ (ap (λ n. n * z) many ∙ turned)
