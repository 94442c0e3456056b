-- values spread over the segments of classes
use Rattle.std.proofs.Common.{◌≡◌, inl, inr, ℕ, suc, ◌+◌, ◌-◌, ◌<◌, List, [], ◌∷◌, ◌++◌, length, get_or, sym, ap, ◌∙◌, subst, arith, below_more, length-append}
use Rattle.std.specs.Global.{Vec}
use Rattle.std.proofs.lemmas.Bool.{cases_lt}
use Rattle.std.proofs.lemmas.List.{get_or_append_left, get_or_push, get_or_default}
use Rattle.dt_alike.specs.First.{first_alike}
use Rattle.dt_map.specs.declared.entry.Entry.{Entry}
use Rattle.dt_check.specs.Rows.{row_at, table_in, AreRows}
use Rattle.dt_check.specs.Spread.{IsSpread, AreSpread}
use Rattle.dt_check.proofs.Rowed.{row_read, rows_more, table_before, table_last}

pub none_spread : (m : List Entry) (len : ℕ) (row spread : List ℕ) → spread ≡ [] → IsSpread m len 0 row spread
none_spread m len row spread is = record { each = ap length is; value = λ start lt. absurd (omega arith) }

pub one_spread : (m : List Entry) (len start value first : ℕ) (row spread now : List ℕ) → IsSpread m len start row spread → first ≡ first_alike m start len → first < length row → value ≡ get_or row first value
    → now ≡ spread ++ value ∷ [] → IsSpread m len (start + 1) row now
one_spread m len start value first row spread now were is inside at grown = record {
  each = ap length grown ∙ (length-append spread (value ∷ []) ∙ ap (λ n. n + 1) were.each);
  value = λ k lt. below_more (λ j. get_or now j 0 ≡ get_or row (first_alike m j len) 0) start
      (λ j less. ap (λ (l : List ℕ). get_or l j 0) grown ∙ (get_or_append_left spread (value ∷ []) 0 j (omega (arith, were.each)) ∙ were.value j less))
      (ap (λ (l : List ℕ). get_or l start 0) grown
      ∙ (get_or_push spread value 0 start were.each ∙ (at ∙ (get_or_default row first value 0 inside ∙ ap (λ i. get_or row i 0) is)))) k lt;
}

pub none_spreads : (m : List Entry) (firsts rows : List (Vec ℕ)) → rows ≡ [] → AreSpread m 0 firsts rows
none_spreads m firsts rows is = record {
  shape = rw is (record { few = omega arith; row = λ k lt. absurd (omega arith) });
  each = ap length is;
  value = λ start len segment le. absurd (omega (arith, segment.0));
}

pub one_spreads : (m : List Entry) (k count : ℕ) (firsts rows now : List (Vec ℕ)) (old row : Vec ℕ) → AreSpread m k firsts rows → k < length m → AreRows (length m) firsts → length firsts ≡ length m
    → old ≡ get_or firsts k old → count ≡ length m - k → IsSpread m (k + 1) count old.items row.items → now ≡ rows ++ row ∷ [] → AreSpread m (k + 1) firsts now
one_spreads m k count firsts rows now old row were less shape each is many here grown = record {
  shape = subst (AreRows (length m)) (sym grown) (rows_more (length m) rows row were.shape (omega (arith, were.each)) (omega (arith, here.each, many, were.each)));
  each = ap length grown ∙ (length-append rows (row ∷ []) ∙ ap (λ n. n + 1) were.each);
  value = λ start len segment le. elim (cases_lt k len) [
    | inr within ↦ ap (λ (l : List (Vec ℕ)). table_in l start len) grown ∙ (table_before rows row start len (omega (arith, were.each)) ∙ were.value start len segment within)
    | inl more ↦
        let same : len ≡ k + 1 = omega arith in
        let long : len ≡ suc k = omega arith in
        let read : row_at firsts k ≡ old.items = row_read firsts k old (omega (arith, each)) ∙ ap (λ (v : Vec ℕ). v.items) (sym is) in
        ap (λ (l : List (Vec ℕ)). table_in l start len) grown
        ∙ (table_last rows row start len (omega (arith, were.each))
        ∙ (here.value start (omega (arith, many, segment.1))
        ∙ (ap (λ n. get_or old.items (first_alike m start n) 0) (sym same)
        ∙ (ap (λ (l : List ℕ). get_or l (first_alike m start len) 0) (sym read) ∙ ap (table_in firsts (first_alike m start len)) (sym long)))))
  ];
}
