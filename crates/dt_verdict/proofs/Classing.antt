-- the list of the values of classes
use Rattle.std.proofs.Common.{◌≡◌, ◌⊎◌, inl, inr, ℕ, zero, suc, ◌+◌, ◌-◌, ◌*◌, ◌≤◌, ◌<◌, ◌==◌, Bool, true, false, cond, List, [], ◌∷◌, ◌++◌, map, length, slice_index, Result, Ok, Err, IfOk, refl, sym, ap, subst, ◌∙◌, arith, append-nil, append_assoc}
use Rattle.std.specs.List.{All, filter}
use Rattle.std.proofs.lemmas.Bool.{lt-ltb, le-ltb}
use Rattle.std.proofs.lemmas.Bool.Decides.{eqb_tells}
use Rattle.std.proofs.lemmas.Grind.{flat_map-append}
use Rattle.std.proofs.lemmas.List.{map_push}
use Rattle.std.proofs.lemmas.List.Elements.{filter-append}
use Rattle.dt_alike.specs.First.{first_alike, class_of}
use Rattle.dt_offsets.specs.Offsets.{below}
use Rattle.dt_kinds.specs.declared.memory.NoMemory.{NoMemory}
use Rattle.std.specs.Global.{Vec}
use Rattle.dt_map.specs.declared.entry.Entry.{Entry}
use Rattle.dt_normal.specs.declared.low.Low.{Low}
use Rattle.dt_normal.specs.Lows.{low_of, listed_at, listed}
use Rattle.dt_normal.specs.Table.{Table, IsSegment}
use Rattle.dt_normal.proofs.Listing.{positive, front, lengths}
use Rattle.dt_check.specs.Greatest.{greatest_alike}
use Rattle.dt_check.specs.Members.{IsMember, table_of}
use Rattle.dt_cert.specs.Classes.{AreRising, is_first}
use Rattle.dt_verdict.specs.Classed.{greatest_in, own_value, values_by_classes}
use Rattle.dt_verdict.proofs.Raising.{class_inside, greatest_is}

-- one start more
front_next : (table : Table) (size k : ℕ) → front table size (suc k) ≡ front table size k ++ filter positive (low_of table size k ∷ [])
front_next table size k = ap (filter positive) (map_push (low_of table size) (below k) k) ∙ filter-append positive (map (low_of table size) (below k)) (low_of table size k ∷ [])

pub kept : (table : Table) (len start : ℕ) (before now : List Low) (value : ℕ) → (end : ℕ) → value ≡ table start (end - start) → end ≡ start + len → 0 < value → now ≡ before ++ front table len start
    → now ++ (let a : Low = record { from = start; to = end; low = value } in a) ∷ [] ≡ before ++ front table len (start + 1)
kept table len start before now value end says long some is =
    let next : suc start ≡ start + 1 = omega arith in
    let same : value ≡ table start len = says ∙ ap (table start) (omega (arith, long)) in
    ap (λ v. now ++ (let a : Low = record { from = start; to = end; low = v } in a) ∷ []) same
    ∙ (ap (λ e. now ++ (let a : Low = record { from = start; to = e; low = table start len } in a) ∷ []) long
    ∙ (ap (λ l. l ++ low_of table len start ∷ []) is
    ∙ (append_assoc before (front table len start) (low_of table len start ∷ [])
    ∙ ap (λ l. before ++ l)
    (sym (ap (front table len) (sym next) ∙ (front_next table len start ∙ ap (λ b. front table len start ++ cond b (low_of table len start ∷ []) []) (lt-ltb 0 (table start len) (omega (arith, same, some)))))))))

pub left_out : (table : Table) (len start : ℕ) (before now : List Low) (value : ℕ) → (end : ℕ) → value ≡ table start (end - start) → end ≡ start + len → value ≤ 0 → now ≡ before ++ front table len start
    → now ≡ before ++ front table len (start + 1)
left_out table len start before now value end says long none is =
    let next : suc start ≡ start + 1 = omega arith in
    let same : value ≡ table start len = says ∙ ap (table start) (omega (arith, long)) in
    is
    ∙ ap (λ l. before ++ l)
    (sym (ap (front table len) (sym next)
    ∙ (front_next table len start ∙ (ap (λ b. front table len start ++ cond b (low_of table len start ∷ []) []) (le-ltb 0 (table start len) (omega (arith, same, none))) ∙ append-nil (front table len start)))))

-- and one length more
lengths_next : (n : ℕ) (table : Table) (k : ℕ) → lengths n table (suc k) ≡ lengths n table k ++ listed_at n table (suc k)
lengths_next n table k = flat_map-append (λ i. listed_at n table (suc i)) (below k) (k ∷ []) ∙ ap (λ l. lengths n table k ++ l) (append-nil (listed_at n table (suc k)))

-- the values of first segments are those that first segments have in a list of all
module _ (m : List Entry) (own table : Table) (is : (start len : ℕ) → IsSegment m start len → own start len ≡ cond (first_alike m start len == start) (table start len) 0) where
  one_same : (size k : ℕ) → 0 < size → k + size ≤ length m → filter positive (low_of own size k ∷ []) ≡ filter (is_first m) (filter positive (low_of table size k ∷ []))
  one_same size k some inside = elim (eqb_tells (first_alike m k size) k) [
    | inl h ↦
        let value : own k size ≡ table k size = is k size (some, inside) ∙ ap (λ b. cond b (table k size) 0) h.0 in
        let a = low_of table size k in
        ap (λ v. filter positive ((let b : Low = record { from = k; to = k + size; low = v } in b) ∷ [])) value ∙ of (positive (low_of table size k)) (ap (λ l. first_alike m k l == k) (long size k) ∙ h.0)
    | inr h ↦
        let value : own k size ≡ 0 = is k size (some, inside) ∙ ap (λ b. cond b (table k size) 0) h.0 in
        ap (λ v. filter positive ((let b : Low = record { from = k; to = k + size; low = v } in b) ∷ [])) value ∙ none (positive (low_of table size k)) (ap (λ l. first_alike m k l == k) (long size k) ∙ h.0)
  ]
    where
      long : (size k : ℕ) → k + size - k ≡ size
      long size k = omega arith

      of : (b : Bool) → is_first m (low_of table size k) ≡ true → cond b (low_of table size k ∷ []) [] ≡ filter (is_first m) (cond b (low_of table size k ∷ []) [])
      of true first = sym (ap (λ b. cond b (low_of table size k ∷ []) []) first)
      of false first = refl

      none : (b : Bool) → is_first m (low_of table size k) ≡ false → [] ≡ filter (is_first m) (cond b (low_of table size k ∷ []) [])
      none true first = sym (ap (λ b. cond b (low_of table size k ∷ []) []) first)
      none false first = refl

  front_same : (size k : ℕ) → 0 < size → k + size ≤ length m + 1 → front own size k ≡ filter (is_first m) (front table size k)
  front_same size zero some inside = refl
  front_same size (suc k) some inside =
      front_next own size k
      ∙ (ap (λ l. l ++ filter positive (low_of own size k ∷ [])) (front_same size k some (omega arith))
      ∙ (ap (λ l. filter (is_first m) (front table size k) ++ l) (one_same size k some (omega arith))
      ∙ (sym (filter-append (is_first m) (front table size k) (filter positive (low_of table size k ∷ []))) ∙ ap (filter (is_first m)) (sym (front_next table size k)))))

  lengths_same : (k : ℕ) → k ≤ length m → lengths (length m) own k ≡ filter (is_first m) (lengths (length m) table k)
  lengths_same zero le = refl
  lengths_same (suc k) le =
      lengths_next (length m) own k
      ∙ (ap (λ l. l ++ listed_at (length m) own (suc k)) (lengths_same k (omega arith))
      ∙ (ap (λ l. filter (is_first m) (lengths (length m) table k) ++ l) (front_same (suc k) (length m + 1 - suc k) (omega arith) (omega arith))
      ∙ (sym (filter-append (is_first m) (lengths (length m) table k) (listed_at (length m) table (suc k))) ∙ ap (filter (is_first m)) (sym (lengths_next (length m) table k)))))

  listed_same : listed (length m) own ≡ filter (is_first m) (listed (length m) table)
  listed_same = lengths_same (length m) (omega arith)

classed : (m : List Entry) (values : List Low) (numbers : List ℕ) → All (IsMember m) values → AreRising values → ((class : ℕ) → class ≤ length m * length m → slice_index numbers class ≡ greatest_in m values class)
    → listed (length m) (own_value m numbers) ≡ values_by_classes m values
classed m values numbers members rising each = listed_same m (own_value m numbers) (greatest_alike m (table_of values)) (λ start len is.
    ap (λ v. cond (first_alike m start len == start) v 0) (each (class_of m start len) (class_inside m start len is) ∙ greatest_is m values start len members rising is))

pub listed_classes : (m : List Entry) (values : List Low) (numbers : List ℕ) (found : Result (Vec Low) NoMemory) → All (IsMember m) values → AreRising values
    → ((class : ℕ) → class ≤ length m * length m → slice_index numbers class ≡ greatest_in m values class) → IfOk found (λ list. list.items ≡ listed (length m) (own_value m numbers))
    → IfOk found (λ list. list.items ≡ values_by_classes m values)
listed_classes m values numbers (Ok list) members rising each is = is ∙ classed m values numbers members rising each
listed_classes m values numbers (Err error) members rising each is = tt
