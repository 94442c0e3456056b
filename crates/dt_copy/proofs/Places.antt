-- Which bytes a copy changes, and to what.
use Rattle.std.proofs.Common.{◌≡◌, ℕ, zero, suc, ◌+◌, ◌-◌, ◌≤◌, ◌<◌, true, pos, List, [], ◌∷◌, ◌++◌, take, drop, length, refl, sym, ap, subst, ◌∙◌, arith}
use Rattle.std.specs.Prelude.{nat_abs, slice_index, slice_index_or, ◌&&◌}
use Rattle.std.proofs.lemmas.Bool.{and_parts}
use Rattle.std.proofs.lemmas.List.{length-take-le, get_or-take, take_at}
use Rattle.std.proofs.lemmas.List.Sums.{sum_by-cons}
use Rattle.std.proofs.Math.Seq.{drop-append-add}
use Rattle.dt_kinds.specs.declared.kind.Rep.TheVariants.{Native}
use Rattle.dt_kinds.specs.Kind.{native_size, packed_size}
use Rattle.dt_map.specs.declared.entry.Entry.{Entry}
use Rattle.dt_map.specs.Elements.{are_inside, lies_inside, IsByteOf, Overlaps}
use Rattle.dt_map.specs.Laws.{image_at}
use Rattle.dt_map.specs.Packed.{bytes_at, packed, total}
use Rattle.dt_map.specs.Setting.{set_each}
use Rattle.dt_map.proofs.Writing.{packed_has_total, setting_keeps_the_rest, setting_sets_each}
use Rattle.dt_rows.proofs.SettingRows.{drop_none}
use Rattle.dt_copy.specs.Copied.{copied, signature}
use Rattle.dt_copy.specs.Laws.{EachIsCopied, OthersAreKept}
use Rattle.dt_copy.specs.Plan.{Copy, CanCopy}
use Rattle.dt_copy.proofs.Elements.{AreAlike, same_parts, inside_parts, length-bytes_at, copied_sets}

-- leading elements lie inside, and don't overlap, where all do
inside_front : (len n : ℕ) (fs : List Entry) → are_inside len fs ≡ true → are_inside len (take n fs) ≡ true
inside_front len zero fs inside = refl
inside_front len (suc n) [] inside = refl
inside_front len (suc n) (f ∷ fs) inside =
    let parts = and_parts (lies_inside len f) (are_inside len fs) inside in
    ap (λ b. b && are_inside len (take n fs)) parts.0 ∙ inside_front len n fs parts.1

apart_front : (n : ℕ) (fs : List Entry) → n ≤ length fs → (Overlaps fs → ⊥) → Overlaps (take n fs) → ⊥
apart_front n fs few apart h =
    let long = length-take-le n fs few in
    let first : h.0 < n = omega (arith, h.3, h.4, long) in
    let second : h.1 < n = omega (arith, h.4, long) in
    apart (h.0, h.1, h.2, h.3, omega (arith, second, few), λ d. subst (IsByteOf h.2) (get_or-take n fs h.0 d first) (h.5 d), λ d. subst (IsByteOf h.2) (get_or-take n fs h.1 d second) (h.6 d))

same_total : (es fs : List Entry) → AreAlike es fs → total Native (take (length es) fs) ≡ total Native es
same_total [] fs alike = refl
same_total (e ∷ es) [] alike = (let long = ap length alike in absurd (omega (arith, long)))
same_total (e ∷ es) (f ∷ fs) alike =
    let parts = same_parts e.kind f.kind (signature es) (take (length es) (signature fs)) alike in
    let same = ap native_size parts.0 in
    let rest = same_total es fs parts.1 in
    let size : Entry → ℕ = λ g. packed_size Native g.kind in
    omega (arith, rest, same, sum_by-cons size e es, sum_by-cons size f (take (length es) fs))

-- the image of an element of the target is the bytes of the source's
image_is : (es fs : List Entry) (s : List ℕ) (k : ℕ) (d : Entry) → AreAlike es fs → are_inside (length s) es ≡ true → k < length es
    → image_at Native (take (length es) fs) k (slice_index_or fs k d) (packed Native es s) ≡ bytes_at s (slice_index_or es k d)
image_is [] fs s k d alike from lt = absurd (omega arith)
image_is (e ∷ es) [] s k d alike from lt = (let long = ap length alike in absurd (omega (arith, long)))
image_is (e ∷ es) (f ∷ fs) s zero d alike from lt =
    let parts = same_parts e.kind f.kind (signature es) (take (length es) (signature fs)) alike in
    let read = inside_parts (length s) e es from in
    let bytes = bytes_at s e in
    ap (take (native_size f.kind)) (drop_none (bytes ++ packed Native es s)) ∙ take_at bytes (packed Native es s) (native_size f.kind) (length-bytes_at s e read.0 ∙ ap native_size parts.0)
image_is (e ∷ es) (f ∷ fs) s (suc k) d alike from lt =
    let parts = same_parts e.kind f.kind (signature es) (take (length es) (signature fs)) alike in
    let read = inside_parts (length s) e es from in
    let bytes = bytes_at s e in
    let rest = packed Native es s in
    let g = slice_index_or fs k d in
    let before = total Native (take k (take (length es) fs)) in
    let place : total Native (f ∷ take k (take (length es) fs)) ≡ length bytes + before =
    sum_by-cons (λ (h : Entry). packed_size Native h.kind) f (take k (take (length es) fs))
    ∙ ap (λ n. n + before) (sym (length-bytes_at s e read.0 ∙ ap native_size parts.0)) in
    ap (λ n. take (native_size g.kind) (drop n (bytes ++ rest))) place
    ∙ ap (take (native_size g.kind)) (drop-append-add bytes rest before)
    ∙ image_is es fs s k d parts.1 read.1 (omega arith)

module _ (c : Copy) (source target : List ℕ) (from : length source ≡ c.source_len) (to : length target ≡ c.target_len) (can : CanCopy c) where
  abbrev front : List Entry
  front = take (length c.source) c.target

  abbrev images : List ℕ
  images = packed Native c.source source

  source_inside : are_inside (length source) c.source ≡ true
  source_inside = ap (λ n. are_inside n c.source) from ∙ can.enough.settable.inside.source

  front_inside : are_inside (length target) front ≡ true
  front_inside = inside_front (length target) (length c.source) c.target (ap (λ n. are_inside n c.target) to ∙ can.enough.settable.inside.target)

  enough_images : total Native front ≤ length images
  enough_images =
      let all = packed_has_total Native c.source source source_inside in
      let same = same_total c.source c.target can.alike in
      omega (arith, all, same)

  sets : copied c.source c.target source target ≡ set_each Native front target images
  sets = copied_sets c.source c.target source target can.alike source_inside

  pub each_copied : (k x : ℕ) (d : Entry) → k < length c.source → IsByteOf (pos x) (slice_index_or c.target k d)
      → slice_index (copied c.source c.target source target) x ≡ slice_index (bytes_at source (slice_index_or c.source k d)) (x - nat_abs (slice_index_or c.target k d).disp)
  each_copied k x d lt on =
      let here = get_or-take (length c.source) c.target k d lt in
      let few = length-take-le (length c.source) c.target can.enough.enough in
      let apart = apart_front (length c.source) c.target can.enough.enough can.enough.settable.apart in
      ap (λ b. slice_index b x) sets
      ∙ setting_sets_each Native front target images front_inside enough_images apart k x d (omega (arith, lt, few)) (subst (IsByteOf (pos x)) (sym here) on)
      ∙ ap (λ (f : Entry). slice_index (image_at Native front k f images) (x - nat_abs f.disp)) here
      ∙ ap (λ b. slice_index b (x - nat_abs (slice_index_or c.target k d).disp)) (image_is c.source c.target source k d can.alike source_inside lt)

pub others_are_kept : OthersAreKept
others_are_kept c source target from to can =
    let kept = setting_keeps_the_rest Native (front c source target from to can) target (images c source target from to can) (front_inside c source target from to can) (enough_images c source target from to can) in
    let same = sets c source target from to can in
    (ap length same ∙ kept.0, λ x off. ap (λ b. slice_index b x) same ∙ kept.1 x off)

pub each_is_copied : EachIsCopied
each_is_copied c source target from to can = each_copied c source target from to can
