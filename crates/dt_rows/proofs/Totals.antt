-- How many packed bytes the elements of rows have, and that rows name some of them.
use Rattle.std.proofs.Common.{◌≡◌, ℕ, ◌+◌, ◌*◌, ◌≤◌, ◌<◌, ℤ, pos, List, [], ◌∷◌, map, length, inl, inr, ap, ◌∙◌, arith}
use Rattle.std.specs.List.{flat_map}
use Rattle.std.proofs.lemmas.Bool.{cases_lt}
use Rattle.std.proofs.lemmas.List.{length-map}
use Rattle.std.proofs.lemmas.List.Sums.{sum_by-cons}
use Rattle.std.proofs.lemmas.Nat.{mul-le}
use Rattle.dt_kinds.specs.declared.kind.Kind.{Kind}
use Rattle.dt_kinds.specs.declared.kind.Rep.{Rep}
use Rattle.dt_kinds.specs.Kind.{native_size, packed_size}
use Rattle.dt_map.specs.declared.entry.Entry.{Entry}
use Rattle.dt_map.specs.Packed.{total}
use Rattle.dt_map.proofs.Copies.{total-append}
use Rattle.dt_map.proofs.Seats.{length-below}
use Rattle.dt_offsets.specs.Offsets.{below, row_offsets}
use Rattle.dt_rows.specs.declared.rows.Rows.{Rows}
use Rattle.dt_rows.specs.Rows.{element_at, adjacent, elements_of_rows, AreRows, bytes_in}

length-row_offsets : (x : ℤ) (n : ℕ) (step : ℤ) → length (row_offsets x n step) ≡ n
length-row_offsets x n step = length-map (below n) _ ∙ length-below n

total_of_kind : (rep : Rep) (kind : Kind) (places : List ℤ) → total rep (map (element_at kind) places) ≡ length places * packed_size rep kind
total_of_kind rep kind [] = omega arith
total_of_kind rep kind (x ∷ xs) =
    let rest = total_of_kind rep kind xs in
    omega (arith, rest, sum_by-cons (λ (e : Entry). packed_size rep e.kind) (element_at kind x) (map (element_at kind) xs))

pub total_of_adjacent : (rep : Rep) (kind : Kind) (n : ℕ) (x : ℤ) → total rep (adjacent kind n x) ≡ n * packed_size rep kind
total_of_adjacent rep kind n x =
    total_of_kind rep kind (row_offsets x n (pos (native_size kind))) ∙ ap (λ k. k * packed_size rep kind) (length-row_offsets x n (pos (native_size kind)))

total_of_each : (rep : Rep) (kind : Kind) (n : ℕ) (places : List ℤ) → total rep (flat_map (adjacent kind n) places) ≡ length places * (n * packed_size rep kind)
total_of_each rep kind n [] = omega arith
total_of_each rep kind n (x ∷ xs) =
    let rest = total_of_each rep kind n xs in
    let here = total_of_adjacent rep kind n x in
    omega (arith, rest, here, total-append rep (adjacent kind n x) (flat_map (adjacent kind n) xs))

pub total_of_rows : (rep : Rep) (r : Rows) → total rep (elements_of_rows r) ≡ r.rows * (r.run.elements * packed_size rep r.run.kind)
total_of_rows rep r =
    total_of_each rep r.run.kind r.run.elements (row_offsets r.run.disp r.rows r.step)
    ∙ ap (λ k. k * (r.run.elements * packed_size rep r.run.kind)) (length-row_offsets r.run.disp r.rows r.step)

-- the bytes that rows name are among those of their elements
pub bytes_within : (rep : Rep) (r : Rows) → AreRows rep r → r.run.skip + bytes_in r ≤ total rep (elements_of_rows r)
bytes_within rep r rows =
    let w = r.run.elements * packed_size rep r.run.kind in
    let all = total_of_rows rep r in
    elim (cases_lt 1 r.rows) [
      | inl many ↦ (let whole = rows.whole many in let none = whole.0 in let same = ap (λ n. r.rows * n) whole.1 in omega (arith, all, none, same))
      | inr few ↦
          let some = rows.some in
          let one : r.rows ≡ 1 = omega arith in
          let bytes : bytes_in r ≡ 1 * r.run.bytes = ap (λ n. n * r.run.bytes) one in
          let here : r.rows * w ≡ 1 * w = ap (λ n. n * w) one in
          let within = rows.run.within in
          omega (arith, all, bytes, here, within)
    ]

-- rows name at least one byte
pub some_bytes : (rep : Rep) (r : Rows) → AreRows rep r → 0 < bytes_in r
some_bytes rep r rows =
    let least = mul-le 1 1 r.rows r.run.bytes rows.some rows.run.some in
    omega (arith, least)
