-- The row that is left of all ranks.
use Rattle.std.proofs.Common.{◌≡◌, ℕ, ◌^◌, ◌<◌, pos, List, [], ◌∷◌, ◌++◌, length, refl, sym, ap, subst, ◌∙◌, arith, length-append}
use Rattle.std.proofs.lemmas.List.{length-map}
use Rattle.std.proofs.lemmas.Nat.{mul-le}
use Rattle.std.specs.Global.{Vec}
use Rattle.std.specs.List.{AllByRecursion}
use Rattle.dt_kinds.specs.declared.kind.Kind.{Kind}
use Rattle.dt_kinds.specs.declared.kind.Rep.TheVariants.{Native}
use Rattle.dt_map.specs.declared.entry.Entry.{Entry}
use Rattle.dt_map.specs.Elements.{elements}
use Rattle.dt_map.specs.Packed.{total}
use Rattle.dt_map.specs.Typemap.{Marked}
use Rattle.dt_ops.specs.Laws.{GivesWords, IsAssociative}
use Rattle.dt_reduce.specs.Folded.{kinds_of, AreWords, joined_row, folded_row, folded_bytes, bytes_of_row}
use Rattle.dt_reduce.specs.Kept.{row_of, rows_of, ranked_of, ArePackedRows, AreKept}
use Rattle.dt_reduce.specs.Merges.{Bracket, merged}
use Rattle.dt_reduce.specs.Ranks.{Ranked}
use Rattle.dt_reduce.proofs.Columns.{merges_are_folded}
use Rattle.dt_reduce.proofs.Rowing.{row_is_words, bytes_come_back}

rows_are_words : (es : List Entry) (stored : List (Vec ℕ)) → ArePackedRows es stored → AllByRecursion (AreWords (kinds_of es)) (rows_of (kinds_of es) stored)
rows_are_words es [] packed = tt
rows_are_words es (v ∷ stored) packed = (row_is_words (kinds_of es) v.items packed.0.bytes, rows_are_words es stored packed.1)

length-rows : (kinds : List Kind) (stored : List (Vec ℕ)) → length (rows_of kinds stored) ≡ length stored
length-rows kinds stored = length-map stored (λ (v : Vec ℕ). row_of kinds v.items)

pub bracket_of : (m : Marked) (count : ℕ) (stored : List (Vec ℕ)) (old : Ranked) (merges : List ℕ) → ranked_of m count stored ≡ old → Bracket (length old.rows) merges → Bracket (length stored) merges
bracket_of m count stored old merges view bracket =
    subst (λ n. Bracket n merges) (ap (λ (r : Ranked). length r.rows) (sym view) ∙ length-rows (kinds_of (elements m count (pos 0))) stored) bracket

-- the elements of ranks, of which there are some, have few bytes
pub few_in_ranks : (m : Marked) (count : ℕ) (stored : List (Vec ℕ)) → AreKept (ranked_of m count stored) stored → 0 < length stored → total Native (elements m count (pos 0)) < 2 ^ 63
few_in_ranks m count stored kept some =
    let one = total Native (elements m count (pos 0)) in
    let least = mul-le one 1 one (length stored) (omega arith) some in
    let small = kept.small in
    omega (arith, least, small)

-- ranks without a rank
pub none_kept : (m : Marked) (count : ℕ) (stored : List (Vec ℕ)) → stored ≡ [] → AreKept (ranked_of m count stored) stored
none_kept m count stored none =
    subst (λ s. AreKept (ranked_of m count s) s) (sym none) (record { few = omega arith; small = omega arith; packed = tt })

-- a list of one, without its last
record IsLast (all front : List (Vec ℕ)) (row : Vec ℕ) : Type 0 where
  pub alone : all ≡ row ∷ []
  pub none : front ≡ []

last_alone : (all front : List (Vec ℕ)) (row : Vec ℕ) → all ≡ front ++ row ∷ [] → length all ≡ 1 → IsLast all front row
last_alone all [] row is single = record { alone = is; none = refl }
last_alone all (v ∷ front) row is single =
    let long = ap length is in
    absurd (omega (arith, long, single, length-append front (row ∷ [])))

module _ (join : Kind → ℕ → ℕ → ℕ) (gives : GivesWords join) (associates : IsAssociative join) (es : List Entry) (stored next : List (Vec ℕ)) (merges : List ℕ)
    (bracket : Bracket (length stored) merges) (packed : ArePackedRows es stored)
    (is : rows_of (kinds_of es) next ≡ merged (joined_row join (kinds_of es)) merges (rows_of (kinds_of es) stored)) where
  abbrev kinds : List Kind
  kinds = kinds_of es

  folded_is : rows_of kinds next ≡ folded_row join kinds (rows_of kinds stored) ∷ []
  folded_is = is ∙ merges_are_folded join kinds (rows_of kinds stored) merges gives associates (rows_are_words es stored packed) (subst (λ n. Bracket n merges) (sym (length-rows kinds stored)) bracket)

  pub one_left : length next ≡ 1
  one_left = sym (length-rows kinds next) ∙ ap length folded_is

  module _ (front : List (Vec ℕ)) (row : Vec ℕ) (pop : next ≡ front ++ row ∷ []) where
    pub none_left : front ≡ []
    none_left = (last_alone next front row pop one_left).none

    pub length_left : ArePackedRows es next → length row.items ≡ total Native es
    length_left all =
        let whole : ArePackedRows es (row ∷ []) = subst (ArePackedRows es) (last_alone next front row pop one_left).alone all in
        whole.0.all

    pub row_left : ArePackedRows es next → row.items ≡ folded_bytes join es (rows_of kinds stored)
    row_left all =
        let last = (last_alone next front row pop one_left).alone in
        let whole : ArePackedRows es (row ∷ []) = subst (ArePackedRows es) last all in
        let words : row_of kinds row.items ∷ [] ≡ folded_row join kinds (rows_of kinds stored) ∷ [] = ap (rows_of kinds) (sym last) ∙ folded_is in
        let word : row_of kinds row.items ≡ folded_row join kinds (rows_of kinds stored) = (cc words) in
        sym (bytes_come_back es row.items whole.0) ∙ ap (λ w. bytes_of_row kinds w) word
