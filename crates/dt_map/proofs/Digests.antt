-- Digests of copies and of joined typemaps, and the bounds that they tell.
use Rattle.std.specs.Prelude.{◌≡◌, Option, ℕ, zero, suc, ◌+◌, ◌*◌, ◌≤◌, ◌==◌, false, cond, ℤ, List, ◌++◌, length}
use Rattle.std.proofs.Common.{refl, sym, ap, ◌∙◌, arith}
use Rattle.std.proofs.lemmas.Bool.Decides.{nat_tests}
use Rattle.dt_map.specs.declared.bounds.Bounds.{Bounds}
use Rattle.dt_map.specs.declared.bounds.TheConstants.{SIZE_MAX}
use Rattle.dt_map.specs.Bounds.{bounds_of, size_of, external_size_of}
use Rattle.dt_map.specs.Constructors.{copies_at}
use Rattle.dt_map.specs.Digest.{capped_sums, digest_of}
use Rattle.dt_map.specs.Limits.{AreInRange, IsInRange}
use Rattle.dt_map.specs.Placing.{place}
use Rattle.dt_map.specs.Summary.{Summary, summary_of, joined, copied, copied_align, bounds_from, true_span}
use Rattle.dt_map.specs.Typemap.{Marked}
use Rattle.dt_map.proofs.Counted.{elements_fit, external_fits}
use Rattle.dt_map.proofs.Summaries.{same_summary, summary_of_joined, summary_of_copies, bounds_from_summary, true_span_is}
use Rattle.dt_offsets.specs.declared.marks.Marks.{Marks}
use Rattle.dt_offsets.specs.Reach.{capped, reach}
use Rattle.dt_offsets.proofs.Reaches.{below_most, capped-add, capped-mul, capped-mul-left}

pub length-copies : (xs : List ℤ) (m : Marked) → length (copies_at xs m).entries ≡ length xs * length m.entries
length-copies xs m = ap (λ (s : Summary). s.elements) (summary_of_copies xs m)

none_is : (n : ℕ) → (capped (suc n) == 0) ≡ false
none_is n = grind (arith, nat_tests)

-- no copy has no alignment of its own
pub align_is : (n align : ℕ) → cond (n == 0) 1 align ≡ copied_align n align
align_is zero align = refl
align_is (suc n) align = let none : (suc n == 0) ≡ false = grind (arith, nat_tests) in ap (λ b. cond b 1 align) none

capped_align : (n align : ℕ) → copied_align n align ≡ copied_align (capped n) align
capped_align zero align = refl
capped_align (suc n) align = sym (ap (λ b. cond b 1 align) (none_is n)) ∙ align_is (capped (suc n)) align

copies_capped : (n k : ℕ) → capped (n * k) ≡ capped (capped n * capped k)
copies_capped n k = sym (capped-mul-left n k) ∙ sym (capped-mul (capped n) k)

pub digest-copies : (xs : List ℤ) (m : Marked) → digest_of (copies_at xs m) ≡ capped_sums (copied (reach xs).span (reach xs).copies (digest_of m))
digest-copies xs m =
    let s = summary_of m in
    ap capped_sums (summary_of_copies xs m)
    ∙ same_summary _ _ _ _ _ _ _ _ _ _ _ _
    (copies_capped (length xs) s.size)
    (copies_capped (length xs) s.ext_size)
    (copies_capped (length xs) s.elements)
    (capped_align (length xs) s.align)
    refl refl

joined_capped : (a b : ℕ) → capped (a + b) ≡ capped (capped a + capped b)
joined_capped a b = sym (capped-add a b)

pub digest-append : (ms ns : List (ℤ × Marked)) → digest_of (place (ms ++ ns)) ≡ capped_sums (joined (digest_of (place ms)) (digest_of (place ns)))
digest-append ms ns =
    let a = summary_of (place ms) in
    let b = summary_of (place ns) in
    ap capped_sums (summary_of_joined ms ns)
    ∙ same_summary _ _ _ _ _ _ _ _ _ _ _ _
    (joined_capped a.size b.size)
    (joined_capped a.ext_size b.ext_size)
    (joined_capped a.elements b.elements)
    refl refl refl

-- the sums of a typemap whose size is in range don't stand still
pub uncapped : (m : Marked) → size_of m.entries ≤ SIZE_MAX → digest_of m ≡ summary_of m
uncapped m small =
    let external = external_fits m.entries in
    let elements = elements_fit m.entries in
    same_summary _ _ _ _ _ _ _ _ _ _ _ _
    (below_most (size_of m.entries) (omega arith))
    (below_most (external_size_of m.entries) (omega arith))
    (below_most (length m.entries) (omega arith))
    refl refl refl

-- the digest that the bounds of a typemap in range tell
abbrev pub summary_by : Bounds → Option Marks → Option Marks → Summary
summary_by b span marks = record { size = b.size; ext_size = b.ext_size; elements = b.elements; align = b.align; span = span; marks = marks }

pub digest-bounds : (b : Bounds) (span marks : Option Marks) → AreInRange b → span ≡ true_span b → (m : Marked) → b ≡ bounds_of m → marks ≡ m.marks → summary_by b span marks ≡ digest_of m
digest-bounds b span marks range is m e same =
    let whole = ap (λ (x : Bounds). summary_by x span marks) e in
    let here = ap (λ s. summary_by (bounds_of m) s marks) (is ∙ ap true_span e ∙ true_span_is m) in
    let own = ap (λ k. summary_by (bounds_of m) (summary_of m).span k) same in
    let size = range.size in
    let at = ap (λ (x : Bounds). x.size) e in
    whole ∙ here ∙ own ∙ sym (uncapped m (omega arith))

-- the bounds that a digest tells are those of the typemap
pub told : (m : Marked) → AreInRange (bounds_from (digest_of m)) → bounds_from (digest_of m) ≡ bounds_of m
told m range = let size : capped (size_of m.entries) ≤ SIZE_MAX = range.size in ap bounds_from (uncapped m (omega arith)) ∙ sym (bounds_from_summary m)

pub tells : (m : Marked) → IsInRange m → bounds_from (digest_of m) ≡ bounds_of m
tells m range = ap bounds_from (uncapped m range.size) ∙ sym (bounds_from_summary m)
