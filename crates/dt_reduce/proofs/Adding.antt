-- A rank more.
use Rattle.std.proofs.Common.{◌≡◌, ℕ, ◌+◌, ◌*◌, ◌<◌, ◌≤◌, true, inl, inr, ℤ, pos, nat_abs, List, [], ◌∷◌, ◌++◌, drop, length, sym, ap, subst, ◌∙◌, arith, length-append}
use Rattle.std.proofs.lemmas.Bool.{cases_lt}
use Rattle.std.proofs.lemmas.List.{map-append, length-map}
use Rattle.std.proofs.lemmas.Nat.{mul-le}
use Rattle.std.specs.Global.{Vec}
use Rattle.dt_kinds.specs.Bytes.{AreBytes}
use Rattle.dt_kinds.specs.declared.kind.Rep.TheVariants.{Native}
use Rattle.dt_kinds.specs.Kind.{native_size}
use Rattle.dt_map.specs.declared.entry.Entry.{Entry}
use Rattle.dt_map.specs.Elements.{elements, are_inside}
use Rattle.dt_map.specs.Packed.{bytes_at, packed, total}
use Rattle.dt_map.specs.Typemap.{Marked}
use Rattle.dt_map.proofs.Copies.{total-shift}
use Rattle.dt_map.proofs.Writing.{packed_has_total}
use Rattle.dt_reduce.specs.Folded.{kinds_of, words_of}
use Rattle.dt_reduce.specs.Kept.{row_of, rows_of, ranked_of, ArePacked, ArePackedRows, AreKept}
use Rattle.dt_reduce.specs.Ranks.{Ranked, with_rank, bytes_of}
use Rattle.dt_reduce.proofs.Rowing.{bytes_before, bytes_behind, bytes-append, kinds_anywhere, packed_is_words}
use Rattle.dt_rows.proofs.Operation.{placed_elements}

-- the packed bytes of a buffer are bytes
packed_bytes : (es : List Entry) (buffer : List ℕ) → AreBytes buffer → AreBytes (packed Native es buffer)
packed_bytes [] buffer are = λ i. omega arith
packed_bytes (e ∷ es) buffer are =
    bytes-append (bytes_at buffer e) (packed Native es buffer) (bytes_before (native_size e.kind) (drop (nat_abs e.disp) buffer) (bytes_behind (nat_abs e.disp) buffer are))
    (packed_bytes es buffer are)

rows-push : (es : List Entry) (stored : List (Vec ℕ)) (row : Vec ℕ) → ArePackedRows es stored → ArePacked es row.items → ArePackedRows es (stored ++ row ∷ [])
rows-push es [] row all this = (this, tt)
rows-push es (v ∷ stored) row all this = (all.0, rows-push es stored row all.1 this)

-- as many packed bytes wherever an operation begins
pub total_anywhere : (m : Marked) (count : ℕ) (origin : ℤ) → total Native (elements m count origin) ≡ total Native (elements m count (pos 0))
total_anywhere m count origin = ap (total Native) (sym (placed_elements m count origin)) ∙ total-shift Native origin (elements m count (pos 0))

-- what the ranks' bytes come to with one rank more
pub few_bytes : (m : Marked) (count : ℕ) (stored : List (Vec ℕ)) (old : Ranked) → ranked_of m count stored ≡ old → (16777216 < bytes_of old (length old.rows + 1) → ⊥)
    → total Native (elements m count (pos 0)) * (length stored + 1) ≤ 16777216
few_bytes m count stored old view few =
    let fits : bytes_of old (length old.rows + 1) ≤ 16777216 = elim (cases_lt 16777216 (bytes_of old (length old.rows + 1))) [ inl more ↦ absurd (few more) | inr fits ↦ fits ] in
    let same : bytes_of old (length old.rows + 1) ≡ total Native (elements m count (pos 0)) * (length stored + 1) =
    ap (λ (r : Ranked). bytes_of r (length r.rows + 1)) (sym view)
    ∙ ap (λ n. total Native (elements m count (pos 0)) * (n + 1)) (length-map stored (λ (v : Vec ℕ). row_of (kinds_of (elements m count (pos 0))) v.items)) in
    omega (arith, fits, same)

-- then, the bytes of one rank are few
pub few_of_one : (m : Marked) (count : ℕ) (origin : ℤ) (number : ℕ) → total Native (elements m count (pos 0)) * (number + 1) ≤ 16777216 → total Native (elements m count origin) ≤ 16777216
few_of_one m count origin number small =
    let one = total Native (elements m count (pos 0)) in
    let least = mul-le one 1 one (number + 1) (omega arith) (omega arith) in
    let same = total_anywhere m count origin in
    omega (arith, least, same, small)

module _ (m : Marked) (count : ℕ) (x : ℤ) (buffer : List ℕ) (stored next : List (Vec ℕ)) (row : Vec ℕ) (inside : are_inside (length buffer) (elements m count x) ≡ true)
    (is : row.items ≡ packed Native (elements m count x) buffer) (push : next ≡ stored ++ row ∷ []) where
  abbrev es : List Entry
  es = elements m count (pos 0)

  row_is_packed : AreBytes buffer → ArePacked es row.items
  row_is_packed are = record {
    all = ap length is ∙ packed_has_total Native (elements m count x) buffer inside ∙ total_anywhere m count x;
    bytes = subst AreBytes (sym is) (packed_bytes (elements m count x) buffer are);
  }

  pub kept_more : AreBytes buffer → AreKept (ranked_of m count stored) stored → length stored < 1024 → total Native es * (length stored + 1) ≤ 16777216 → AreKept (ranked_of m count next) next
  kept_more are kept room small =
      let long : length next ≡ length stored + 1 = ap length push ∙ length-append stored (row ∷ []) in
      record {
        few = omega (arith, room, long);
        small = subst (λ n. total Native es * n ≤ 16777216) (sym long) small;
        packed = subst (ArePackedRows es) (sym push) (rows-push es stored row kept.packed (row_is_packed are));
      }

  pub added : (old : Ranked) (origin : ℤ) → ranked_of m count stored ≡ old → x ≡ origin → ranked_of m count next ≡ with_rank old origin buffer
  added old origin view here =
      let kinds = kinds_of es in
      let told : List (List ℕ) → Ranked = λ rows. record { typemap = m; count = count; rows = rows } in
      let words : row_of kinds row.items ≡ words_of (elements m count x) buffer =
      ap (row_of kinds) is ∙ ap (λ k. row_of k (packed Native (elements m count x) buffer)) (sym (kinds_anywhere m count x)) ∙ packed_is_words (elements m count x) buffer inside in
      ap (ranked_of m count) push
      ∙ ap told (map-append (λ (v : Vec ℕ). row_of kinds v.items) stored (row ∷ []))
      ∙ ap (λ w. told (rows_of kinds stored ++ w ∷ [])) words
      ∙ ap (λ z. with_rank (ranked_of m count stored) z buffer) here
      ∙ ap (λ r. with_rank r origin buffer) view
