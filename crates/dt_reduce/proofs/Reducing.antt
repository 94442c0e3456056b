-- Reducing elements, and then others behind them, reduces both.
use Rattle.std.proofs.Common.{◌≡◌, ℕ, ◌+◌, ◌≤◌, true, List, [], ◌∷◌, ◌++◌, take, drop, length, refl, sym, ap, ◌∙◌, arith, length-append, length-drop}
use Rattle.std.proofs.lemmas.List.{append_assoc, take-append-le, drop-append-le, drop_at}
use Rattle.std.proofs.lemmas.List.Sums.{sum_by-cons}
use Rattle.std.specs.List.{AllByRecursion}
use Rattle.byteorder.specs.Endian.{little_number, little_bytes}
use Rattle.byteorder.specs.Numbers.{length-bytes_low_first}
use Rattle.dt_kinds.specs.declared.kind.Kind.{Kind}
use Rattle.dt_kinds.specs.declared.kind.Rep.TheVariants.{Native}
use Rattle.dt_kinds.specs.Kind.{native_size, packed_size}
use Rattle.dt_map.specs.declared.entry.Entry.{Entry}
use Rattle.dt_map.specs.Elements.{are_inside, Overlaps}
use Rattle.dt_map.specs.Packed.{bytes_at, total}
use Rattle.dt_map.specs.Setting.{set_one, set_each}
use Rattle.dt_reduce.specs.Reduced.{word_at, joined_bytes, reduced}
use Rattle.dt_reduce.proofs.Apart.{others_kept}
use Rattle.dt_rows.proofs.SettingRows.{set_append}

total-cons : (e : Entry) (es : List Entry) → total Native (e ∷ es) ≡ native_size e.kind + total Native es
total-cons e es = sum_by-cons (λ (f : Entry). packed_size Native f.kind) e es

-- setting elements uses no bytes behind their images
pub set_front : (es : List Entry) (buffer images more : List ℕ) → total Native es ≤ length images → set_each Native es buffer (images ++ more) ≡ set_each Native es buffer images
set_front [] buffer images more enough = refl
set_front (e ∷ es) buffer images more enough =
    let size = native_size e.kind in
    let all = total-cons e es in
    ap (λ b. set_each Native es (set_one Native e buffer b) (drop size (images ++ more))) (take-append-le size images more (omega (arith, enough, all)))
    ∙ ap (set_each Native es (set_one Native e buffer (take size images))) (drop-append-le size images more (omega (arith, enough, all)))
    ∙ set_front es (set_one Native e buffer (take size images)) (drop size images) more (omega (arith, enough, all, length-drop size images))

module _ (join : Kind → ℕ → ℕ → ℕ) where
  pub length-joined : (es fs : List Entry) (source target : List ℕ) → length es ≡ length fs → length (joined_bytes join es fs source target) ≡ total Native fs
  length-joined [] [] source target same = refl
  length-joined [] (f ∷ fs) source target same = absurd (omega (arith, same))
  length-joined (e ∷ es) [] source target same = absurd (omega (arith, same))
  length-joined (e ∷ es) (f ∷ fs) source target same =
      let rest = length-joined es fs source target (omega (arith, same)) in
      let here = length-bytes_low_first 0 (native_size f.kind) (join f.kind (word_at source e) (word_at target f)) in
      omega (arith, rest, here, total-cons f fs, length-append (little_bytes (native_size f.kind) (join f.kind (word_at source e) (word_at target f))) (joined_bytes join es fs source target))

  joined-append : (es more fs others : List Entry) (source target : List ℕ) → length es ≡ length fs
      → joined_bytes join (es ++ more) (fs ++ others) source target ≡ joined_bytes join es fs source target ++ joined_bytes join more others source target
  joined-append [] more [] others source target same = refl
  joined-append [] more (f ∷ fs) others source target same = absurd (omega (arith, same))
  joined-append (e ∷ es) more [] others source target same = absurd (omega (arith, same))
  joined-append (e ∷ es) more (f ∷ fs) others source target same =
      let word = little_bytes (native_size f.kind) (join f.kind (word_at source e) (word_at target f)) in
      ap (λ s. word ++ s) (joined-append es more fs others source target (omega (arith, same)))
      ∙ sym (append_assoc word (joined_bytes join es fs source target) (joined_bytes join more others source target))

  joined_same : (es fs : List Entry) (source target other : List ℕ) → AllByRecursion (λ f. bytes_at other f ≡ bytes_at target f) fs
      → joined_bytes join es fs source other ≡ joined_bytes join es fs source target
  joined_same [] fs source target other same = refl
  joined_same (e ∷ es) [] source target other same = refl
  joined_same (e ∷ es) (f ∷ fs) source target other same =
      ap (λ b. little_bytes (native_size f.kind) (join f.kind (word_at source e) (little_number (native_size f.kind) b)) ++ joined_bytes join es fs source other) same.0
      ∙ ap (λ s. little_bytes (native_size f.kind) (join f.kind (word_at source e) (word_at target f)) ++ s) (joined_same es fs source target other same.1)

  pub reduced_more : (es more fs others : List Entry) (source target : List ℕ) → length es ≡ length fs → (Overlaps (fs ++ others) → ⊥)
      → are_inside (length target) fs ≡ true → are_inside (length target) others ≡ true
      → reduced join more others source (reduced join es fs source target) ≡ reduced join (es ++ more) (fs ++ others) source target
  reduced_more es more fs others source target same apart here there =
      let first = joined_bytes join es fs source target in
      let last = joined_bytes join more others source target in
      let long = length-joined es fs source target same in
      let mid = reduced join es fs source target in
      let kept = others_kept fs others target first apart here (omega (arith, long)) there in
      ap (set_each Native others mid) (joined_same more others source target mid kept)
      ∙ sym (ap (set_each Native (fs ++ others) target) (joined-append es more fs others source target same)
      ∙ set_append Native fs others target (first ++ last)
      ∙ ap (λ b. set_each Native others b (drop (total Native fs) (first ++ last))) (set_front fs target first last (omega (arith, long)))
      ∙ ap (set_each Native others mid) (drop_at first last (total Native fs) long))
