-- Packed rows that are merged where they are stored.
use Rattle.std.proofs.Common.{◌≡◌, ℕ, zero, suc, ◌+◌, ◌<◌, List, [], ◌∷◌, take, length, get_or, sym, ap, subst, ◌∙◌, arith}
use Rattle.std.proofs.lemmas.List.{take_more}
use Rattle.std.specs.Global.{Vec}
use Rattle.std.specs.List.{remove, slice_set}
use Rattle.dt_kinds.specs.declared.kind.Kind.{Kind}
use Rattle.dt_map.specs.declared.entry.Entry.{Entry}
use Rattle.dt_ops.specs.Laws.{GivesWords}
use Rattle.dt_reduce.specs.Folded.{kinds_of, AreWords, joined_row}
use Rattle.dt_reduce.specs.Kept.{row_of, rows_of, joined_packed, ArePacked, ArePackedRows}
use Rattle.dt_reduce.specs.Merges.{merged_at, merged, Bracket}
use Rattle.dt_reduce.proofs.Merging.{merged-push}
use Rattle.dt_reduce.proofs.Rowing.{row_is_words, joined_are_words, words_come_back, words_are_packed}

module _ (join : Kind → ℕ → ℕ → ℕ) (gives : GivesWords join) (es : List Entry) where
  abbrev kinds : List Kind
  kinds = kinds_of es

  joined_words : (a b : List ℕ) → ArePacked es a → ArePacked es b → AreWords kinds (joined_row join kinds (row_of kinds a) (row_of kinds b))
  joined_words a b first last = joined_are_words join gives kinds (row_of kinds a) (row_of kinds b) (row_is_words kinds a first.bytes) (row_is_words kinds b last.bytes)

  -- a merge of packed rows
  pub record IsMerge (k : ℕ) (stored next : List (Vec ℕ)) : Type 0 where
    pub rows : rows_of kinds next ≡ merged_at (joined_row join kinds) k (rows_of kinds stored)
    pub packed : ArePackedRows es next
    pub count : length next + 1 ≡ length stored

  pub merge_stored : (k : ℕ) (stored : List (Vec ℕ)) (first second new : Vec ℕ) → k + 1 < length stored → first ≡ get_or stored k first → second ≡ get_or (remove stored k) k second
      → ArePackedRows es stored → new.items ≡ joined_packed join kinds first.items second.items → IsMerge k stored (slice_set (remove stored k) k new)
  merge_stored zero [] first second new less one two packed is = absurd (omega (arith, less))
  merge_stored zero (a ∷ []) first second new less one two packed is = absurd (omega (arith, less))
  merge_stored zero (a ∷ b ∷ rest) first second new less one two packed is =
      let words = joined_words a.items b.items packed.0 packed.1.0 in
      let here : new.items ≡ joined_packed join kinds a.items b.items =
      is ∙ ap (λ (v : Vec ℕ). joined_packed join kinds v.items second.items) one ∙ ap (λ (v : Vec ℕ). joined_packed join kinds a.items v.items) two in
      record {
        rows = ap (λ s. row_of kinds s ∷ rows_of kinds rest) here ∙ ap (λ s. s ∷ rows_of kinds rest) (words_come_back kinds (joined_row join kinds (row_of kinds a.items) (row_of kinds b.items)) words);
        packed = (subst (ArePacked es) (sym here) (words_are_packed es (joined_row join kinds (row_of kinds a.items) (row_of kinds b.items)) words), packed.1.1);
        count = omega arith;
      }
  merge_stored (suc k) [] first second new less one two packed is = absurd (omega (arith, less))
  merge_stored (suc k) (a ∷ rest) first second new less one two packed is =
      let later = merge_stored k rest first second new (omega (arith, less)) one two packed.1 is in
      let count = later.count in
      record {
        rows = ap (λ s. row_of kinds a.items ∷ s) later.rows;
        packed = (packed.0, later.packed);
        count = omega (arith, count);
      }

  -- packed rows of which so many merges were done, from the first on
  pub record AreMerged (merges : List ℕ) (i : ℕ) (start stored : List (Vec ℕ)) : Type 0 where
    pub rows : rows_of kinds stored ≡ merged (joined_row join kinds) (take i merges) (rows_of kinds start)
    pub packed : ArePackedRows es stored
    pub count : length stored + i ≡ length start

  pub merge_more : (merges : List ℕ) (i : ℕ) (start stored removed : List (Vec ℕ)) (first second new : Vec ℕ) → i < length merges → Bracket (length start) merges → AreMerged merges i start stored
      → first ≡ get_or stored (get_or merges i 0) first → removed ≡ remove stored (get_or merges i 0) → second ≡ get_or removed (get_or merges i 0) second
      → new.items ≡ joined_packed join kinds first.items second.items → AreMerged merges (i + 1) start (slice_set removed (get_or merges i 0) new)
  merge_more merges i start stored removed first second new less bracket are one gone two is =
      let k = get_or merges i 0 in
      let good = bracket.good i less in
      let count = are.count in
      let m = merge_stored k stored first second new (omega (arith, good, count)) one (two ∙ ap (λ l. get_or l k second) gone) are.packed is in
      let rest = m.count in
      let same : slice_set (remove stored k) k new ≡ slice_set removed k new = ap (λ l. slice_set l k new) (sym gone) in
      subst (AreMerged merges (i + 1) start) same (record {
        rows = m.rows ∙ ap (merged_at (joined_row join kinds) k) are.rows ∙ sym (merged-push (joined_row join kinds) (take i merges) k (rows_of kinds start))
            ∙ ap (λ l. merged (joined_row join kinds) l (rows_of kinds start)) (sym (take_more merges i 0 less));
        packed = m.packed;
        count = omega (arith, rest, count);
      })
