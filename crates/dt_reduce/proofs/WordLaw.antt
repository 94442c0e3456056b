-- Each word of the target becomes what it and the source's are joined to.
use Rattle.std.specs.Prelude.{slice_index, slice_index_or}
use Rattle.std.proofs.Common.{◌≡◌, ℕ, zero, suc, ◌+◌, ◌-◌, ◌<◌, ◌≤◌, true, inl, inr, ℤ, pos, nat_abs, List, [], ◌∷◌, ◌++◌, take, drop, length, get_or, sym, ap, subst, ◌∙◌, arith, append-nil}
use Rattle.std.proofs.lemmas.Bool.{and_parts, cases_lt}
use Rattle.std.proofs.lemmas.Grind.{same_number_lists}
use Rattle.std.proofs.lemmas.Int.{ints}
use Rattle.std.proofs.lemmas.List.{get_or-take, get_or-drop, get_or_past, get_or-map, take_at, length-map, length-take}
use Rattle.std.proofs.lemmas.List.Sums.{sum_by-cons}
use Rattle.std.proofs.Math.Seq.{drop-append-add}
use Rattle.std.specs.List.{All}
use Rattle.byteorder.specs.Endian.{little_number, little_bytes}
use Rattle.byteorder.specs.Numbers.{length-bytes_low_first, little_from-lt, little_number-reads_back}
use Rattle.dt_elems.proofs.Clashes.{Lies, lies}
use Rattle.dt_kinds.specs.Bytes.{AreBytes}
use Rattle.dt_kinds.specs.declared.kind.Kind.{Kind}
use Rattle.dt_kinds.specs.declared.kind.Rep.TheVariants.{Native}
use Rattle.dt_kinds.specs.Kind.{native_size, packed_size}
use Rattle.dt_map.specs.declared.entry.Entry.{Entry}
use Rattle.dt_map.specs.Elements.{elements, are_inside, lies_inside, IsByteOf, Overlaps}
use Rattle.dt_map.specs.Laws.{image_at}
use Rattle.dt_map.specs.Packed.{bytes_at, total}
use Rattle.dt_map.specs.Setting.{set_each}
use Rattle.dt_map.specs.Typemap.{shift, shift_entry}
use Rattle.dt_map.proofs.Writing.{setting_keeps_the_rest, setting_sets_each}
use Rattle.dt_ops.specs.Laws.{GivesWords}
use Rattle.dt_ops.specs.Word.{IsWord}
use Rattle.dt_reduce.specs.Laws.{WordsAreJoined}
use Rattle.dt_reduce.specs.Reduced.{word_at, joined_bytes, reduced}
use Rattle.dt_reduce.proofs.Apart.{size_there}
use Rattle.dt_reduce.proofs.Reducing.{length-joined}
use Rattle.dt_rows.proofs.Operation.{placed_elements}

total-cons : (e : Entry) (es : List Entry) → total Native (e ∷ es) ≡ native_size e.kind + total Native es
total-cons e es = sum_by-cons (λ (f : Entry). packed_size Native f.kind) e es

are_bytes : (buffer : List ℕ) (e : Entry) → AreBytes buffer → AreBytes (bytes_at buffer e)
are_bytes buffer e bytes i =
    let rest = drop (nat_abs e.disp) buffer in
    elim (cases_lt i (native_size e.kind)) [
      | inl less ↦ subst (λ n. n < 256) (sym (get_or-take (native_size e.kind) rest i 0 less ∙ get_or-drop (nat_abs e.disp) buffer i 0)) (bytes (nat_abs e.disp + i))
      | inr past ↦ subst (λ n. n < 256) (sym (get_or_past (take (native_size e.kind) rest) i 0 (omega (arith, past, length-take (native_size e.kind) rest)))) (omega arith)
    ]

is_word : (buffer : List ℕ) (e : Entry) → AreBytes buffer → IsWord e.kind (word_at buffer e)
is_word buffer e bytes = little_from-lt 0 (native_size e.kind) (bytes_at buffer e) (are_bytes buffer e bytes)

lies_at : (len : ℕ) (es : List Entry) → are_inside len es ≡ true → (k : ℕ) (d : Entry) → k < length es → Lies len (get_or es k d)
lies_at len [] inside k d within = absurd (omega (arith, within))
lies_at len (e ∷ es) inside zero d within = lies len e (and_parts (lies_inside len e) (are_inside len es) inside).0
lies_at len (e ∷ es) inside (suc k) d within = lies_at len es (and_parts (lies_inside len e) (are_inside len es) inside).1 k d (omega (arith, within))

-- an element that is set holds its image
module _ (fs : List Entry) (target images : List ℕ) (apart : Overlaps fs → ⊥) (inside : are_inside (length target) fs ≡ true) (enough : total Native fs ≤ length images) where
  abbrev set_there : List ℕ
  set_there = set_each Native fs target images

  pub bytes_are_set : (k : ℕ) (d : Entry) → k < length fs → length (image_at Native fs k (get_or fs k d) images) ≡ native_size (get_or fs k d).kind
      → bytes_at (set_each Native fs target images) (get_or fs k d) ≡ image_at Native fs k (get_or fs k d) images
  bytes_are_set k d within wide =
      let f = get_or fs k d in
      let there = lies_at (length target) fs inside k d within in
      let start = there.starts in
      let at = nat_abs f.disp in
      let long : length set_there ≡ length target = (setting_keeps_the_rest Native fs target images inside enough).0 in
      let size = size_there set_there f (subst (λ n. Lies n f) (sym long) there) in
      same_number_lists (bytes_at set_there f) (image_at Native fs k f images) (size ∙ sym wide) (λ j less_there.
      let less : j < native_size f.kind = subst (λ n. j < n) size less_there in
      get_or-take (native_size f.kind) (drop at set_there) j 0 less ∙ get_or-drop at set_there j 0
      ∙ setting_sets_each Native fs target images inside enough apart k (at + j) d within (omega (arith, ints, start), omega (arith, ints, start, less))
      ∙ ap (λ i. get_or (image_at Native fs k f images) i 0) (let back : (at + j) - at ≡ j = omega arith in back))

module _ (join : Kind → ℕ → ℕ → ℕ) (source target : List ℕ) where
  -- what the words of the elements of a number are joined to, among the bytes of all
  joined_at : (es fs : List Entry) (k : ℕ) (d : Entry) → length es ≡ length fs → k < length fs
      → take (native_size (get_or fs k d).kind) (drop (total Native (take k fs)) (joined_bytes join es fs source target))
      ≡ little_bytes (native_size (get_or fs k d).kind) (join (get_or fs k d).kind (word_at source (get_or es k d)) (word_at target (get_or fs k d)))
  joined_at [] [] k d same within = absurd (omega (arith, within))
  joined_at [] (f ∷ fs) k d same within = absurd (omega (arith, same))
  joined_at (e ∷ es) [] k d same within = absurd (omega (arith, within))
  joined_at (e ∷ es) (f ∷ fs) zero d same within =
      let size = native_size f.kind in
      let word = join f.kind (word_at source e) (word_at target f) in
      take_at (little_bytes size word) (joined_bytes join es fs source target) size (length-bytes_low_first 0 size word)
  joined_at (e ∷ es) (f ∷ fs) (suc k) d same within =
      let size = native_size f.kind in
      let word = join f.kind (word_at source e) (word_at target f) in
      let rest = joined_bytes join es fs source target in
      let long = length-bytes_low_first 0 size word in
      let place : total Native (f ∷ take k fs) ≡ length (little_bytes size word) + total Native (take k fs) = omega (arith, long, total-cons f (take k fs)) in
      ap (λ n. take (native_size (get_or fs k d).kind) (drop n (little_bytes size word ++ rest))) place
      ∙ ap (take (native_size (get_or fs k d).kind)) (drop-append-add (little_bytes size word) rest (total Native (take k fs)))
      ∙ joined_at es fs k d (omega (arith, same)) (omega (arith, within))

  module _ (hs : List Entry) (x y : ℤ) (gives : GivesWords join) (apart : Overlaps (shift y hs) → ⊥)
      (inside : are_inside (length target) (shift y hs) ≡ true) (bytes : AreBytes source) (others : AreBytes target) where
    abbrev es : List Entry
    es = shift x hs

    abbrev fs : List Entry
    fs = shift y hs

    abbrev images : List ℕ
    images = joined_bytes join es fs source target

    abbrev new : List ℕ
    new = reduced join es fs source target

    same : length es ≡ length fs
    same = length-map hs (shift_entry x) ∙ sym (length-map hs (shift_entry y))

    enough : total Native fs ≤ length images
    enough = let all = length-joined join es fs source target same in omega (arith, all)

    word_is_joined : (k : ℕ) (d : Entry) → k < length fs → word_at new (get_or fs k d) ≡ join (get_or fs k d).kind (word_at source (get_or es k d)) (word_at target (get_or fs k d))
    word_is_joined k d within =
        let e = get_or es k d in
        let f = get_or fs k d in
        let one : e ≡ shift_entry x (get_or hs k d) = get_or-map (shift_entry x) hs k d d (omega (arith, within, length-map hs (shift_entry y))) in
        let other : f ≡ shift_entry y (get_or hs k d) = get_or-map (shift_entry y) hs k d d (omega (arith, within, length-map hs (shift_entry y))) in
        let kinds : e.kind ≡ f.kind = ap (λ (g : Entry). g.kind) one ∙ sym (ap (λ (g : Entry). g.kind) other) in
        let word = join f.kind (word_at source e) (word_at target f) in
        let fits : IsWord f.kind word = gives f.kind (word_at source e) (word_at target f) (subst (λ k. IsWord k (word_at source e)) kinds (is_word source e bytes)) (is_word target f others) in
        let image = joined_at es fs k d same within in
        let wide = ap length image ∙ length-bytes_low_first 0 (native_size f.kind) word in
        ap (little_number (native_size f.kind)) (bytes_are_set fs target images apart inside enough k d within wide ∙ image ∙ sym (append-nil (little_bytes (native_size f.kind) word)))
        ∙ little_number-reads_back (native_size f.kind) word [] fits

    rest_is_kept : (p : ℕ) → All (λ f. IsByteOf (pos p) f → ⊥) fs → slice_index new p ≡ slice_index target p
    rest_is_kept p off = (setting_keeps_the_rest Native fs target images inside enough).1 p off

-- the same, of an operation at two places
pub words_are_joined : WordsAreJoined
words_are_joined join m count source_origin source_len target_origin target_len source target gives can long wide bytes others =
    let hs = elements m count (pos 0) in
    let one = placed_elements m count source_origin in
    let other = placed_elements m count target_origin in
    let inside : are_inside (length target) (shift target_origin hs) ≡ true = ap (λ n. are_inside n (shift target_origin hs)) wide ∙ ap (are_inside target_len) other ∙ can.inside.target in
    let apart : Overlaps (shift target_origin hs) → ⊥ = λ over. can.apart (subst Overlaps other over) in
    let Is : List Entry → List Entry → Type 0 = λ es fs.
    ((k : ℕ) (d : Entry) → k < length fs → word_at (reduced join es fs source target) (slice_index_or fs k d) ≡ join (slice_index_or fs k d).kind (word_at source (slice_index_or es k d)) (word_at target (slice_index_or fs k d)))
    × ((p : ℕ) → All (λ f. IsByteOf (pos p) f → ⊥) fs → slice_index (reduced join es fs source target) p ≡ slice_index target p) in
    let at_zero : Is (shift source_origin hs) (shift target_origin hs) =
    (word_is_joined join source target hs source_origin target_origin gives apart inside bytes others, rest_is_kept join source target hs source_origin target_origin gives apart inside bytes others) in
    subst (λ es. Is es (elements m count target_origin)) one (subst (λ fs. Is (shift source_origin hs) fs) other at_zero)
